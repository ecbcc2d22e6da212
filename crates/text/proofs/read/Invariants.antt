-- `read` meets its contract: the lines left, below the rows so far, and the fields left of the line, behind those so far, decide.
use mathlib.Core.Path.{◌≡◌}
use mathlib.Core.List.{List}
use Prim.Native.Nat.{ℕ}
use Rattle.text.specs.Split.{lines}
use Rattle.text.proofs.Parts.{Parts}
use Rattle.text.proofs.Reader.{AtLine, AtField}
use Rattle.text.proofs.read.Given as goal

abbrev pub invariant-loop-i : goal.invariant-loop-i
invariant-loop-i l = (k : ℕ) × (left : List (List ℕ)) × Parts (goal.iterator-loop-i).next_gives l.i-iterator k left × AtField l.initial.i-iterator.iter.rest.now l.number l.row k left

abbrev pub invariant-loop-n : goal.invariant-loop-n
invariant-loop-n l = (l.n ≡ l.table.len) × AtLine l.text l.table l.waiting (lines l.rest)
