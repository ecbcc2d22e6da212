-- What the loop of `line` keeps: T, D and the times so far are fields.
use mathlib.Core.Path.{◌≡◌}
use Rattle.text.proofs.Writer.{made}
use Rattle.text.proofs.line.Given as goal

abbrev pub invariant-loop-i : goal.invariant-loop-i
invariant-loop-i l = l.fields ≡ made l.fn.row l.time-items l.i
