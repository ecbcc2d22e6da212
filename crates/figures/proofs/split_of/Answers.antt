-- `split_of` meets its contract: the times passed and those that are left come to the whole split.
use mathlib.Core.Path.{◌≡◌, sym, ap, ◌∙◌}
use mathlib.Core.List.{List}
use mathlib.Core.Option.{Option, none, some}
use Prim.Native.Nat.{ℕ, ◌+◌, ◌%◌, ◌≤◌, ◌<◌}
use native.Mathlib.Omega.{arith}
use lib.ListN.{length, get_or, take}
use lib.Seq.{get_or-take}
use Rattle.table.specs.Limits.{most_times}
use Rattle.words.proofs.Lists.{all-each}
use Rattle.table.specs.Paper.{right_number, parts}
use Rattle.table.specs.Value.{row_of}
use Rattle.ticks.specs.Ticks.{long}
use Rattle.verdicts.specs.Verdicts.{figure_of, number_in}
use Rattle.table.specs.declared.Row.{Row as RowValue}
use Rattle.table.proofs.Rows.{time-at}
use Rattle.table.proofs.Rules.{row-times, row-sum, row_count, number-range, count_most}
use Rattle.recurrence.proofs.Rows.{sane}
use Rattle.figures.specs.Count.{safe_number}
use Rattle.figures.specs.Work.{worked_of, split_worked, rows_from, right_below, split_by, rounds_by, Kept}
use Rattle.figures.specs.declared.load.Load.{Load}
use Rattle.figures.specs.declared.Worked.{Worked}
use Rattle.figures.proofs.Values.{deadline-safe, time-used}
use Rattle.figures.proofs.Counting.{below-same}
use Rattle.figures.proofs.Split.{worked-fits, worked-few, figure-back, parted-wait, parted-none, parted-some, time-sum}
use Rattle.figures.proofs.split_of.Invariants.{res, num}
use Rattle.figures.proofs.split_of.Goals.{After-solve-worked}
use Rattle.figures.proofs.split_of.Goals as goal

-- a row whose stretches may be worked out one by one
record Fit (v : RowValue) : Type 0 where
  each : (j : ℕ) → j < length (row_of v).times → (1 ≤ get_or (row_of v).times j 0) × (get_or (row_of v).times j 0 ≤ v.deadline.0)
  few : length (row_of v).times ≤ most_times
  odd : length (row_of v).times % 2 ≡ 1
  safe : v.deadline.0 ≤ safe_number

fit : (v : RowValue) → Kept v → Fit v
fit v k =
    let r = k.right in
    record {
      each = λ j h. (
        (number-range (get_or (row_of v).times j 0) (all-each right_number (row_of v).times (row-times (row_of v) r) j 0 h)).0,
        omega (arith, time-sum (row_of v).times j, row-sum (row_of v) r),
      );
      few = count_most (length (row_of v).times) (row_count (row_of v) r);
      odd = (sane (row_of v) r).odd;
      safe = deadline-safe v k;
    }

-- the time at place j, of those in use
time-is : (v : RowValue) (n j : ℕ) → n ≡ length (row_of v).times → j < length (row_of v).times
    → (get_or (take n v.times) j (long 0)).0 ≡ get_or (row_of v).times j 0
time-is v n j e h = ap (λ x. x.0) (get_or-take n v.times j (long 0) (omega (arith, e, h))) ∙ sym (time-at v.times j) ∙ time-used v.times j h

module _ (start : List Load) (v : RowValue) (kept : Kept v) where
  abbrev ts : List ℕ
  ts = (row_of v).times

  abbrev d : ℕ
  d = v.deadline.0

  -- each time is small
  small-time : (j : ℕ) → get_or ts j 0 ≤ safe_number
  small-time j = omega (arith, time-sum ts j, row-sum (row_of v) kept.right, (fit v kept).safe)

  -- what is worked out for the stretch at place j
  solved : (above : List Load) (w : Worked) (j x : ℕ) → length above ≡ length start → rows_from above ≡ rows_from start → x ≡ get_or ts j 0
      → w ≡ worked_of (right_below above x) d x
      → (number_in w.figure ≡ res start d (get_or ts j 0)) × (w.rounds ≡ num start d (get_or ts j 0))
  solved above w j x size same is e =
      let f : w ≡ worked_of (right_below start (get_or ts j 0)) d (get_or ts j 0)
      = e ∙ ap (λ c. worked_of (right_below above c) d c) is ∙ ap (λ g. worked_of g d (get_or ts j 0)) (below-same above start size same (get_or ts j 0)) in
      (ap (λ (y : Worked). number_in y.figure) f ∙ figure-back (res start d (get_or ts j 0)), ap (λ (y : Worked). y.rounds) f)

  few-rounds : (j : ℕ) → j < length ts → num start d (get_or ts j 0) ≤ safe_number
  few-rounds j h =
      let f = (fit v kept).each j h in
      omega (arith, worked-few start (get_or ts j 0) d f.0 f.1, (fit v kept).safe)

  small_result : (j r : ℕ) → j < length ts → res start d (get_or ts j 0) ≡ some r → r ≤ safe_number
  small_result j r h e =
      let f = (fit v kept).each j h in
      omega (arith, worked-fits start (get_or ts j 0) d f.0 f.1 r e, (fit v kept).safe)

  finish : (o : Option ℕ) (n : ℕ) → split_by (res start d) (parts ts) ≡ o → rounds_by (res start d) (num start d) (parts ts) ≡ n
      → record { figure = figure_of o; rounds = n } ≡ split_worked start (row_of v)
  finish o n e f = λ i. record { figure = figure_of (sym e i); rounds = sym f i }

pub shared_ref_as_front-time-items : goal.shared_ref_as_front-time-items
shared_ref_as_front-time-items c = omega (arith, c.count.ensures, (fit _ c.requires.1).few)

pub offset_bounds-time-items-j : goal.offset_bounds-time-items-j
offset_bounds-time-items-j c = omega (arith, c.loop-j-test.true, c.count.ensures, (fit _ c.requires.1).few)

pub overflow_add-sum : goal.overflow_add-sum
overflow_add-sum c =
    let v = c.args.row.now in
    let l = c.loop-j in
    let here : l.j < length (row_of v).times = omega (arith, c.loop-j-test.true, c.count.ensures) in
    omega (
      arith,
      time-is v c.count.result l.j c.count.ensures here,
      small-time c.args.above.now v c.requires.1 l.j,
      l.invariant.1,
      here,
      (fit v c.requires.1).few,
    )

pub loop-j-preserved-then-j-eq1 : goal.loop-j-preserved-then-j-eq1
loop-j-preserved-then-j-eq1 c =
    let v = c.args.row.now in
    let l = c.loop-j in
    let k = c.requires.1 in
    let here : l.j < length (row_of v).times = omega (arith, c.loop-j-test.true, c.count.ensures) in
    let is = time-is v c.count.result l.j c.count.ensures here in
    let p = parted-wait _ _ (row_of v).times l.j l.sum l.rounds l.invariant.3 (omega (arith, here, c.if-j-eq1.true, (fit v k).odd)) c.if-j-eq1.true in (
      l.invariant.0,
      omega (arith, is, small-time c.args.above.now v k l.j, l.invariant.1),
      omega (arith, l.invariant.2),
      rw is p,
    )

pub solve-worked-requires : goal.solve-worked-requires
solve-worked-requires c =
    let v = c.args.row.now in
    let l = c.loop-j in
    let here : l.j < length (row_of v).times = omega (arith, c.loop-j-test.true, c.count.ensures) in
    let f = (fit v c.requires.1).each l.j here in
    let is = time-is v c.count.result l.j c.count.ensures here in
    (omega (arith, l.auto.above, c.requires.0), omega (arith, is, f.0), omega (arith, is, f.1), (fit v c.requires.1).safe)

-- what `solve` has worked out
worked : (c : After-solve-worked)
    → let v = c.args.row.now in
    let start = c.args.above.now in
    let x = get_or (row_of v).times c.loop-j.j 0 in
    (c.loop-j.j < length (row_of v).times) × (number_in c.solve-worked.result.figure ≡ res start v.deadline.0 x)
    × (c.solve-worked.result.rounds ≡ num start v.deadline.0 x) × (c.solve-worked.result.rounds ≤ safe_number)
worked c =
    let v = c.args.row.now in
    let l = c.loop-j in
    let here : l.j < length (row_of v).times = omega (arith, c.loop-j-test.true, c.count.ensures) in
    let w = solved c.args.above.now v c.requires.1 l.above c.solve-worked.result l.j _ l.auto.above l.invariant.0
    (time-is v c.count.result l.j c.count.ensures here) c.solve-worked.ensures.worked in
    (here, w.0, w.1, omega (arith, w.1, few-rounds c.args.above.now v c.requires.1 l.j here))

pub overflow_add-rounds : goal.overflow_add-rounds
overflow_add-rounds c =
    let w = worked (goal.at.overflow_add-rounds c).After-solve-worked in
    omega (arith, w.0, w.3, c.loop-j.invariant.2, (fit _ c.requires.1).few)

pub returns-in_default-clause-split : goal.returns-in_default-clause-split
returns-in_default-clause-split c =
    let l = c.loop-j in
    let w = worked (goal.at.returns-in_default-clause-split c).After-solve-worked in
    let e = parted-none _ _ (row_of c.args.row.now).times l.j l.sum l.rounds l.invariant.3 w.0 (omega (arith, c.if-j-eq1.false)) (sym w.1 ∙ ap number_in c.in_default.is) in
    finish c.args.above.now c.args.row.now c.requires.1 none (l.rounds + c.solve-worked.result.rounds) e.0 (e.1 ∙ ap (λ n. l.rounds + n) (sym w.2))

pub returns-in_default-clause-few : goal.returns-in_default-clause-few
returns-in_default-clause-few c =
    let w = worked (goal.at.returns-in_default-clause-few c).After-solve-worked in
    omega (arith, w.0, w.3, c.loop-j.invariant.2, (fit _ c.requires.1).few)

pub overflow_add-sum-in-loop-j : goal.overflow_add-sum-in-loop-j
overflow_add-sum-in-loop-j c =
    let w = worked (goal.at.overflow_add-sum-in-loop-j c).After-solve-worked in
    omega (
      arith,
      small_result c.args.above.now c.args.row.now c.requires.1 c.loop-j.j c.in-Some.figure.0 w.0 (sym w.1 ∙ ap number_in c.in-Some.is),
      w.0,
      c.loop-j.invariant.1,
      (fit _ c.requires.1).few,
    )

pub loop-j-preserved : goal.loop-j-preserved
loop-j-preserved c =
    let l = c.loop-j in
    let w = worked (goal.at.loop-j-preserved c).After-solve-worked in
    let e = sym w.1 ∙ ap number_in c.in-Some.is in
    let p = parted-some _ _ (row_of c.args.row.now).times l.j l.sum l.rounds l.invariant.3 w.0 (omega (arith, c.if-j-eq1.false)) c.in-Some.figure.0 e in (
      c.solve-worked.ensures.same ∙ l.invariant.0,
      omega (arith, small_result c.args.above.now c.args.row.now c.requires.1 l.j c.in-Some.figure.0 w.0 e, l.invariant.1),
      omega (arith, w.3, l.invariant.2),
      rw w.2 p,
    )

pub returns-clause-few : goal.returns-clause-few
returns-clause-few c = omega (arith, c.loop-j.invariant.2, c.loop-j.auto.j-end, c.count.ensures, (fit _ c.requires.1).few)
