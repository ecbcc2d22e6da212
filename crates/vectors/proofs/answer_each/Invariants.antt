-- No more items were answered than a stream may have.
use Rattle.std.proofs.Common.{◌≤◌}
use Rattle.vectors.proofs.answer_each.Given as goal

abbrev pub invariant-loop-n : goal.invariant-loop-n
invariant-loop-n g l = l.answered ≤ 100000
