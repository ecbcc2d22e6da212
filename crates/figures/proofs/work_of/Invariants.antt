-- `work_of` meets its contract: the C so far and those from the next one on are all C.
use mathlib.Core.Path.{◌≡◌}
use mathlib.Core.List.{map}
use Prim.Native.Nat.{◌+◌, ◌%◌}
use lib.ListN.{drop}
use Rattle.table.specs.Paper.{parts, work}
use Rattle.ticks.specs.Ticks.{ticks}
use Rattle.figures.proofs.work_of.Given as goal

abbrev pub invariant-loop-j : goal.invariant-loop-j
invariant-loop-j l = l.sum + work (parts (drop (l.j + l.j % 2) (map ticks l.row.times))) ≡ work (parts (map ticks l.row.times))
