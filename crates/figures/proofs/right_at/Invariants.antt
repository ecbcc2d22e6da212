-- `right_at` meets its contract: the rows passed are counted at t, the others still at the instant before.
use mathlib.Core.Path.{◌≡◌}
use Prim.Native.Nat.{ℕ, ◌-◌, ◌≤◌}
use lib.ListN.{length}
use Rattle.figures.specs.Work.{rows_from, Counted}
use Rattle.figures.proofs.Counting.{Halfway, until_of}
use Rattle.figures.proofs.right_at.Given as goal

abbrev pub invariant-loop-load : goal.invariant-loop-load
invariant-loop-load l =
    (rows_from l.above ≡ rows_from l.initial.above)
    × (
    (own : ℕ) → own ≤ l.t → Counted l.initial.above l.t (l.t - own)
    → (own ≤ l.next) × Halfway (rows_from l.initial.above) (length l.initial.above) l.t l.load-index (l.next - own) (until_of l.above)
    )
