-- `loads_of` meets its contract: the rows passed have their loads.
use mathlib.Core.Path.{◌≡◌}
use Prim.Native.Nat.{ℕ, ◌<◌}
use lib.ListN.{length}
use Rattle.table.specs.Limits.{most_rows}
use Rattle.table.specs.Paper.{parts, work}
use Rattle.figures.specs.Work.{rows_of}
use Rattle.figures.proofs.Counting.{load_at}
use Rattle.figures.proofs.loads_of.Given as goal

abbrev pub invariant-loop-i : goal.invariant-loop-i
invariant-loop-i l =
    (length l.loads ≡ most_rows)
    × ((j : ℕ) → j < l.i → ((load_at l.loads j).period ≡ (rows_of l.rows j).period) × ((load_at l.loads j).work ≡ work (parts (rows_of l.rows j).times)))
