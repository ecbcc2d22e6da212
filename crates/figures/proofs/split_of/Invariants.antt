-- `split_of` meets its contract: the times passed and those that are left come to the whole split.
use mathlib.Core.Path.{◌≡◌}
use mathlib.Core.List.{List}
use mathlib.Core.Option.{Option}
use Prim.Native.Nat.{ℕ, ◌*◌, ◌≤◌}
use Rattle.recurrence.specs.Figures.{result, rounds}
use Rattle.table.specs.Value.{row_of}
use Rattle.figures.specs.Count.{safe_number}
use Rattle.figures.specs.Work.{rows_from, right_below}
use Rattle.figures.specs.declared.load.Load.{Load}
use Rattle.figures.proofs.Split.{Parted}
use Rattle.figures.proofs.split_of.Given as goal

-- the result and the rounds of a stretch of c, below the rows above
abbrev pub res : List Load → ℕ → ℕ → Option ℕ
res above d c = result (right_below above c) d c

abbrev pub num : List Load → ℕ → ℕ → ℕ
num above d c = rounds (right_below above c) d c

abbrev pub invariant-loop-j : goal.invariant-loop-j
invariant-loop-j l = (rows_from l.above ≡ rows_from l.initial.above) × (l.sum ≤ l.j * safe_number) × (l.rounds ≤ l.j * safe_number)
    × Parted (res l.initial.above l.row.deadline.0) (num l.initial.above l.row.deadline.0) (row_of l.row).times l.j l.sum l.rounds
