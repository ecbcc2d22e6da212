-- `right_at` meets its contract: the rows passed are counted at t, the others still at the instant before.
use mathlib.Core.Path.{◌≡◌, refl, ap, ◌∙◌}
use Prim.Native.Nat.{ℕ, ◌+◌, ◌-◌, ◌*◌, ◌≤◌}
use native.Mathlib.Nat.{mul-le-mul_right}
use native.Mathlib.Omega.{arith}
use lib.ListN.{length, set}
use Rattle.figures.specs.Count.{safe_number, more_of}
use Rattle.figures.specs.Work.{no_load, rows_from, Counted}
use Rattle.std.proofs.lemmas.List.{get_or_default}
use Rattle.figures.specs.declared.load.Load.{Load}
use Rattle.figures.proofs.Counting.{Halfway, load_at, until_of, halfway-start, halfway-end, halfway-most, counted_on, demand-safe}
use Rattle.figures.proofs.right_at.Goals.{After-count_on-next}
use Rattle.figures.proofs.right_at.Goals as goal

-- the load at hand is counted on, whatever the recurrence started from
next : (c : After-count_on-next) → (own : ℕ) → own ≤ c.args.t → Counted c.args.above.now c.args.t (c.args.t - own)
    → let start = c.args.above.now in
    let now = set c.loop-load.above c.loop-load.load-index c.count_on-next.new.self in
    (rows_from now ≡ rows_from start) × (own ≤ c.loop-load.next + c.count_on-next.result)
    × Halfway (rows_from start) (length start) c.args.t (c.loop-load.load-index + 1) (c.loop-load.next + c.count_on-next.result - own) (until_of now)
next c own low counted =
    let l = c.loop-load in
    let start = c.args.above.now in
    let now = set l.above l.load-index c.count_on-next.new.self in
    let e = c.count_on-next.ensures in
    let half = l.invariant.1 own low counted in
    let here = get_or_default l.above l.load-index c.load-item.result no_load (omega (arith, l.auto.above, c.loop-load-test.true)) in
    let on = counted_on start l.above c.args.t l.load-index (l.next - own) c.count_on-next.result c.count_on-next.new.self l.auto.above c.loop-load-test.true
    l.invariant.0 half.1 (e.same.0 ∙ ap (λ (x : Load). x.period) here) (e.same.1 ∙ ap (λ (x : Load). x.work) here)
    (e.until ∙ ap (λ (x : Load). x.until + more_of x.until x.period c.args.t * x.period) here)
    (e.asked ∙ ap (λ (x : Load). more_of x.until x.period c.args.t * x.work) here) in
    let sums : l.next + c.count_on-next.result - own ≡ l.next - own + c.count_on-next.result = omega (arith, half.0) in
    (on.0, omega (arith, half.0), rw sums on.1)

pub loop-load-init : goal.loop-load-init
loop-load-init c = (refl, λ own low counted. (low, halfway-start c.args.above.now c.args.t (c.args.t - own) counted))

pub overflow_add-next : goal.overflow_add-next
overflow_add-next c =
    let start = c.args.above.now in
    let r = c.requires in
    let n = next c r.2.0 r.2.1 r.2.2 in
    omega (
      arith,
      n.1,
      r.2.1,
      r.1,
      halfway-most (rows_from start) (length start) c.args.t _ _ _ (λ j h. (load_at start j).some) n.2,
      demand-safe start (length start) c.args.t r.1,
      mul-le-mul_right (safe_number * safe_number) r.0,
    )

pub loop-load-preserved : goal.loop-load-preserved
loop-load-preserved c =
    let r = c.requires in
    ((next c r.2.0 r.2.1 r.2.2).0, λ own low counted. (let n = next c own low counted in (n.1, n.2)))

pub returns-clause-counted : goal.returns-clause-counted
returns-clause-counted c =
    λ own low counted. (
    let l = c.loop-load in
    let half = l.invariant.1 own low counted in
    (half.0, halfway-end c.args.above.now l.above c.args.t l.load-index (l.next - own) c.loop-load-test.false l.auto.above l.invariant.0 half.1)
    )
