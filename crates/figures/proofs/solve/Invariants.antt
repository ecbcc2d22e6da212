-- `solve` meets its contract: what is left of the sequence gives the rest of the rounds, and the releases are counted up to the t before.
use mathlib.Core.Path.{◌≡◌}
use Prim.Native.Nat.{ℕ, ◌-◌, ◌<◌}
use Rattle.figures.specs.Work.{rows_from, right_below, Counted}
use Rattle.figures.proofs.Counting.{until_of}
use Rattle.figures.proofs.Steps.{Going}
use Rattle.figures.proofs.solve.Given as goal

abbrev pub invariant-loop-load : goal.invariant-loop-load
invariant-loop-load l = (rows_from l.above ≡ rows_from l.initial.above) × ((j : ℕ) → j < l.load-index → until_of l.above j ≡ 0)

abbrev pub invariant-loop-t : goal.invariant-loop-t
invariant-loop-t l =
    (rows_from l.above ≡ rows_from l.fn.above) × Counted l.above l.t (l.t - l.c) × Going (right_below l.fn.above l.c) l.d l.c l.t l.rounds

abbrev pub decreases-loop-t : goal.decreases-loop-t
decreases-loop-t l = l.d - l.t
