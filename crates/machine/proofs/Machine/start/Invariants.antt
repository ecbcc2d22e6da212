-- `Machine::start` meets its contract: each cell is that of its row's first job.
use mathlib.Core.Path.{◌≡◌}
use mathlib.Core.List.{◌++◌, map}
use Prim.Native.Nat.{◌-◌}
use lib.ListN.{length, take, replicate}
use Rattle.ticks.specs.Ticks.{instant}
use Rattle.table.specs.Limits.{most_rows}
use Rattle.machine.specs.Tick.{cell_of, no_cell}
use Rattle.machine.proofs.Machine.start.Given as goal

abbrev pub invariant-loop-i : goal.invariant-loop-i
invariant-loop-i l = (length l.cells ≡ most_rows) × (l.cells ≡ map (cell_of (instant 0)) (take l.i l.rows) ++ replicate (most_rows - l.i) no_cell)
