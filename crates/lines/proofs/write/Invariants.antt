-- What the loops of `write` keep: the room behind the lines measured so far, and the lines written so far.
use mathlib.Core.Path.{◌≡◌}
use Prim.Native.Nat.{◌+◌, ◌≤◌}
use lib.ListN.{length, take}
use Rattle.words.proofs.Put.{Put}
use Rattle.fields.specs.Fields.{joined}
use Rattle.lines.proofs.write.Given as goal

abbrev pub invariant-loop-i : goal.invariant-loop-i
invariant-loop-i g l = l.left + length (joined (take l.i (g.L.Lines.lines l.lines))) ≡ length l.out

abbrev pub invariant-loop-k : goal.invariant-loop-k
invariant-loop-k g l =
    let ls = g.L.Lines.lines l.lines in
    (length (joined ls) ≤ length l.fn.out) × Put (joined (take l.k ls)) l.fn.out l.out l.at
