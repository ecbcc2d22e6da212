-- `Row::too_long` meets its contract: what is left of D falls short of the times that are left exactly where D falls short of all of them.
use mathlib.Core.Path.{◌≡◌}
use mathlib.Core.List.{map}
use Prim.Native.Nat.{◌+◌}
use lib.ListN.{drop}
use Rattle.words.specs.Lists.{sum}
use Rattle.ticks.specs.Ticks.{ticks}
use Rattle.table.proofs.Row.too_long.Given as goal

abbrev pub invariant-loop-time : goal.invariant-loop-time
invariant-loop-time l = l.left + sum (map ticks l.time-items) ≡ l.initial.left + sum (drop l.time-index (map ticks l.time-items))
