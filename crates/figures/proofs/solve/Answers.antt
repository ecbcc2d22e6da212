-- `solve` meets its contract: what is left of the sequence gives the rest of the rounds, and the releases are counted up to the t before.
use mathlib.Core.Path.{◌≡◌, refl, sym, ap, ◌∙◌}
use Prim.Native.Nat.{ℕ, ◌-◌, ◌<◌}
use native.Mathlib.Omega.{arith}
use lib.ListN.{length}
use Rattle.table.specs.Paper.{Row}
use Rattle.recurrence.specs.Figures.{demand}
use Rattle.verdicts.specs.Verdicts.{figure_of}
use Rattle.figures.specs.Work.{no_load, rows_from, right_below, CountedAt}
use Rattle.std.proofs.lemmas.List.{get_or_default}
use Rattle.figures.specs.declared.load.Load.{Load}
use Rattle.figures.proofs.Counting.{rows_set, zero_next, below-mono, counted_start}
use Rattle.figures.proofs.Steps.{going_start, going-fixed, going-above, going_on}
use Rattle.figures.proofs.solve.Goals.{After-right_at-next}
use Rattle.figures.proofs.solve.Goals as goal

pub loop-load-preserved : goal.loop-load-preserved
loop-load-preserved c =
    let l = c.loop-load in
    let h : l.load-index < length l.above = omega (arith, l.auto.above, c.loop-load-test.true) in
    let here = get_or_default l.above l.load-index c.load-item.result no_load h in (
      rows_set l.above l.load-index _ h (ap (λ (x : Load). x.period) here) (ap (λ (x : Load). x.work) here) ∙ l.invariant.0,
      zero_next l.above l.load-index _ h refl l.invariant.1,
    )

pub loop-t-init : goal.loop-t-init
loop-t-init c =
    let l = c.loop-load in (
      l.invariant.0,
      (let z : 0 ≡ c.args.c - c.args.c = omega arith in
          rw z at (counted_start l.above c.args.c (λ j h. l.invariant.1 j (omega (arith, h, c.loop-load-test.false, l.auto.above))))),
      going_start (right_below c.args.above.now c.args.c) c.args.d c.args.c c.requires.2 (omega arith),
    )

pub right_at-next-requires : goal.right_at-next-requires
right_at-next-requires c =
    let l = c.loop-t in (
      omega (arith, c.requires.0, l.auto.above, c.loop-load.auto.above),
      omega (arith, l.invariant.2.top, c.requires.3),
      (c.args.c, omega (arith, l.invariant.2.low), l.invariant.1),
    )

-- what `right_at` has found: the releases are counted at t, and the right side below the rows as they were at the start is the result
found : (c : After-right_at-next)
    → let start = c.args.above.now in
    CountedAt c.right_at-next.new.above c.loop-t.t (c.right_at-next.result - c.args.c)
    × (right_below start c.args.c c.loop-t.t ≡ c.right_at-next.result)
found c =
    let l = c.loop-t in
    let d = c.right_at-next in
    let start = c.args.above.now in
    let size = d.auto.above ∙ l.auto.above ∙ c.loop-load.auto.above in
    let w = d.ensures.counted c.args.c (omega (arith, l.invariant.2.low)) l.invariant.1 in
    let e : demand (rows_from start) (length start) l.t ≡ d.result - c.args.c
    = sym (w.1.sums ∙ ap (λ (r : ℕ → Row). demand r (length d.new.above) l.t) (d.ensures.same ∙ l.invariant.0)
    ∙ ap (λ n. demand (rows_from start) n l.t) size) in
    (w.1, omega (arith, e, w.0))

pub returns-then-next-t-clause-worked : goal.returns-then-next-t-clause-worked
returns-then-next-t-clause-worked c =
    let l = c.loop-t in
    let s = (found (goal.at.returns-then-next-t-clause-worked c).After-right_at-next).1 in
    let g = going-fixed (right_below c.args.above.now c.args.c) c.args.d c.args.c l.t l.rounds l.invariant.2 (s ∙ c.if-next-t.true) in
    λ i. record { figure = figure_of (sym g.0 i); rounds = sym g.1 i }

pub returns-then-d-next-clause-worked : goal.returns-then-d-next-clause-worked
returns-then-d-next-clause-worked c =
    let l = c.loop-t in
    let s = (found (goal.at.returns-then-d-next-clause-worked c).After-right_at-next).1 in
    let g = going-above (right_below c.args.above.now c.args.c) c.args.d c.args.c l.t l.rounds l.invariant.2 (λ e. c.if-next-t.false (sym s ∙ e))
    (omega (arith, s, c.if-d-next.true)) in
    λ i. record { figure = figure_of (sym g.0 i); rounds = sym g.1 i }

pub loop-t-preserved : goal.loop-t-preserved
loop-t-preserved c =
    let l = c.loop-t in
    let d = c.right_at-next in
    let f = found (goal.at.loop-t-preserved c).After-right_at-next in
    let s = f.1 in
    let g = going_on (right_below c.args.above.now c.args.c) c.args.d c.args.c (below-mono c.args.above.now c.args.c) l.t l.rounds l.invariant.2
    (λ e. c.if-next-t.false (sym s ∙ e)) (rw s c.if-d-next.false) in (
      d.ensures.same ∙ l.invariant.0,
      record { at = l.t; before = omega (arith, l.invariant.2.up, s); sums = f.0.sums; holds = f.0.holds },
      rw s at g,
    )
