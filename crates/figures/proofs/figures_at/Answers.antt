-- `figures_at` meets its contract: whole for a row of one C, whole and split for one that waits.
use mathlib.Core.Path.{◌≡◌, refl, sym, ap, ◌∙◌}
use mathlib.Core.Bool.{true, false}
use mathlib.Core.List.{List}
use mathlib.Core.Option.{none}
use Prim.Native.Nat.{ℕ, ◌+◌, ◌<◌}
use native.Mathlib.Omega.{arith}
use lib.ListN.{length, get_or, take}
use lib.Seq.{get_or-take, length-take-le}
use Rattle.table.specs.Limits.{most_rows}
use Rattle.table.specs.Paper.{Row, parts, work, right_row, waits}
use Rattle.table.specs.Value.{no_value, row_of}
use Rattle.table.specs.declared.Row.{Row as RowValue}
use Rattle.recurrence.specs.Figures.{right, rounds, result, own, whole, split, split_from, judge, with_split, split_rounds}
use Rattle.verdicts.specs.Verdicts.{at_most, single, lesser, figure_of, number_in}
use Rattle.figures.specs.Answers.{split_shown, figures_of}
use Rattle.figures.specs.Work.{worked_of, split_worked, rows_from, right_below, rows_of, Loaded, no_load}
use Rattle.figures.specs.declared.RowFigures.{RowFigures}
use Rattle.figures.specs.declared.Worked.{Worked}
use Rattle.figures.specs.declared.load.Load.{Load}
use Rattle.recurrence.proofs.Rows.{sane, one_time, more-times}
use Rattle.figures.proofs.Counting.{below-same}
use Rattle.figures.proofs.Values.{deadline-safe}
use Rattle.figures.proofs.Split.{right-same, worked-few, figure-back, split_by-sum, rounds-by}
use Rattle.figures.proofs.figures_at.Goals as goal

-- the rounds of the recurrence with all C and S
abbrev whole_rounds : (ℕ → Row) → ℕ → ℕ
whole_rounds rows k = rounds (right rows k (own (rows k))) (rows k).deadline (own (rows k))

one-figures : (rows : ℕ → Row) (k : ℕ) → right_row (rows k) ≡ true → waits (rows k) ≡ false
    → figures_of rows k ≡ record { verdict = single (whole rows k); whole = figure_of (whole rows k); split = figure_of none; rounds = whole_rounds rows k }
one-figures rows k r w =
    let e = (one_time (rows k) r w).1 in
    λ i. record {
      verdict = judge (parts (e i)) (whole rows k) (split rows k);
      whole = figure_of (whole rows k);
      split = figure_of (split_shown (parts (e i)) (split rows k));
      rounds = with_split (parts (e i)) (whole_rounds rows k) (split_rounds rows k (parts (rows k).times));
    }

more-figures : (rows : ℕ → Row) (k : ℕ) → right_row (rows k) ≡ true → waits (rows k) ≡ true
    → figures_of rows k ≡ record {
      verdict = lesser (whole rows k) (split rows k);
      whole = figure_of (whole rows k);
      split = figure_of (split rows k);
      rounds = whole_rounds rows k + split_rounds rows k (parts (rows k).times);
    }
more-figures rows k r w =
    let e = (more-times (rows k) r w).4 in
    λ i. record {
      verdict = judge (parts (e i)) (whole rows k) (split rows k);
      whole = figure_of (whole rows k);
      split = figure_of (split_shown (parts (e i)) (split rows k));
      rounds = with_split (parts (e i)) (whole_rounds rows k) (split_rounds rows k (parts (rows k).times));
    }

-- the recurrence below the loads is that below the rows
module _ (rows : List RowValue) (loads above : List Load) (k : ℕ) (few : k < most_rows) (all : length rows ≡ most_rows) (l : Loaded (take k rows) loads)
    (size : length above ≡ length (take k loads)) (same : rows_from above ≡ rows_from (take k loads)) where
  here : length (take k loads) ≡ k
  here = length-take-le k loads (omega (arith, few, l.size))

  below-rows : (c : ℕ) → right_below above c ≡ right (rows_of rows) k c
  below-rows c =
      below-same above (take k loads) size same c
      ∙ right-same rows (take k loads) k here
      (λ i h. ap (λ (x : Load). x.period) (get_or-take k loads i no_load h) ∙ l.period i (omega (arith, h, length-take-le k rows (omega (arith, few, all))))
      ∙ ap (λ (v : RowValue). v.period.0) (get_or-take k rows i no_value h))
      (λ i h. ap (λ (x : Load). x.work) (get_or-take k loads i no_load h) ∙ l.work-is i (omega (arith, h, length-take-le k rows (omega (arith, few, all))))
      ∙ ap (λ (v : RowValue). work (parts (row_of v).times)) (get_or-take k rows i no_value h)) c

  -- and so is whole
  whole-worked : (w : Worked) (c : ℕ) → c ≡ own (rows_of rows k) → w ≡ worked_of (right_below above c) (rows_of rows k).deadline c
      → (w.figure ≡ figure_of (whole (rows_of rows) k)) × (w.rounds ≡ whole_rounds (rows_of rows) k)
  whole-worked w c ec e =
      let d = (rows_of rows k).deadline in
      let f : w ≡ worked_of (right (rows_of rows) k (own (rows_of rows k))) d (own (rows_of rows k))
      = e ∙ ap (λ x. worked_of (right_below above x) d x) ec ∙ ap (λ g. worked_of g d (own (rows_of rows k))) (below-rows (own (rows_of rows k))) in
      (ap (λ (x : Worked). x.figure) f, ap (λ (x : Worked). x.rounds) f)

  -- and so is split
  split-worked : (w : Worked) → w ≡ split_worked above (rows_of rows k)
      → (w.figure ≡ figure_of (split_from (rows_of rows) k (parts (rows_of rows k).times))) × (w.rounds ≡ split_rounds (rows_of rows) k (parts (rows_of rows k).times))
  split-worked w e =
      let d = (rows_of rows k).deadline in
      let ts = parts (rows_of rows k).times in
      let a : (c : ℕ) → result (right (rows_of rows) k c) d c ≡ result (right_below above c) d c = λ c. ap (λ g. result g d c) (sym (below-rows c)) in
      let b : (c : ℕ) → rounds (right (rows_of rows) k c) d c ≡ rounds (right_below above c) d c = λ c. ap (λ g. rounds g d c) (sym (below-rows c)) in (
        ap (λ (x : Worked). x.figure) e ∙ ap figure_of (sym (split_by-sum (rows_of rows) k (λ c. result (right_below above c) d c) a ts)),
        ap (λ (x : Worked). x.rounds) e
            ∙ sym (rounds-by (rows_of rows) k (λ c. result (right_below above c) d c) (λ c. rounds (right_below above c) d c) a b ts),
      )

pub solve-whole-requires : goal.solve-whole-requires
solve-whole-requires c =
    let k = c.requires.1 c.args.k (omega arith) in
    let f = sane _ k.right in (
      omega (arith, c.requires.0, length-take-le c.args.k c.loads_of-loads.result (omega (arith, c.requires.0, c.loads_of-loads.ensures.size))),
      omega (arith, f.own-some, c.own_of.ensures),
      omega (arith, f.own-fits, c.own_of.ensures),
      deadline-safe _ k,
    )

pub returns-then-not-waits : goal.returns-then-not-waits
returns-then-not-waits c =
    let rows = c.args.rows.now in
    let k = c.args.k in
    let w = whole-worked rows c.loads_of-loads.result (take k c.loads_of-loads.result) k c.requires.0 c.told-rows c.loads_of-loads.ensures refl refl
    c.solve-whole.result c.own_of.result c.own_of.ensures c.solve-whole.ensures.worked in
    let v = c.of_one_stretch.ensures ∙ ap (λ f. single (number_in f)) w.0 ∙ ap single (figure-back (whole (rows_of rows) k)) in
    let e : ◌≡◌ {A = RowFigures} (record {
      verdict = c.of_one_stretch.result;
      whole = c.solve-whole.result.figure;
      split = figure_of none;
      rounds = c.solve-whole.result.rounds;
    })
    (record {
      verdict = single (whole (rows_of rows) k);
      whole = figure_of (whole (rows_of rows) k);
      split = figure_of none;
      rounds = whole_rounds (rows_of rows) k;
    })
    = λ i. record { verdict = v i; whole = w.0 i; split = figure_of none; rounds = w.1 i } in
    e ∙ sym (one-figures (rows_of rows) k (c.requires.1 k (omega arith)).right (sym c.if-not-waits.ensures))

pub overflow_add-result : goal.overflow_add-result
overflow_add-result c =
    let k = c.requires.1 c.args.k (omega arith) in
    let f = sane _ k.right in
    let r = worked-few (take c.args.k c.loads_of-loads.result) c.own_of.result (get_or c.args.rows.now c.args.k no_value).deadline.0
    (omega (arith, f.own-some, c.own_of.ensures)) (omega (arith, f.own-fits, c.own_of.ensures)) in
    omega (arith, r, ap (λ (x : Worked). x.rounds) c.solve-whole.ensures.worked, deadline-safe _ k, c.split_of-parted.ensures.few)

pub returns : goal.returns
returns c =
    let k = c.args.k in
    let values = c.args.rows.now in
    let rows = rows_of values in
    let l = c.loads_of-loads in
    let w = whole-worked values l.result (take k l.result) k c.requires.0 c.told-rows l.ensures refl refl c.solve-whole.result c.own_of.result c.own_of.ensures
    c.solve-whole.ensures.worked in
    let p = split-worked values l.result c.solve-whole.new.above k c.requires.0 c.told-rows l.ensures c.solve-whole.auto.above c.solve-whole.ensures.same
    c.split_of-parted.result c.split_of-parted.ensures.split in
    let q = c.at_most-split.ensures ∙ ap (λ f. figure_of (at_most (rows k).deadline (number_in f))) p.0
    ∙ ap (λ o. figure_of (at_most (rows k).deadline o)) (figure-back (split_from rows k (parts (rows k).times))) in
    let v = c.of_waiting.ensures ∙ ap (λ f. lesser (number_in f) (number_in c.at_most-split.result)) w.0
    ∙ ap (λ f. lesser (number_in (figure_of (whole rows k))) (number_in f)) q ∙ ap (λ o. lesser o (number_in (figure_of (split rows k)))) (figure-back (whole rows k))
    ∙ ap (lesser (whole rows k)) (figure-back (split rows k)) in
    let m = ap (λ x. x + c.split_of-parted.result.rounds) w.1 ∙ ap (λ n. whole_rounds rows k + n) p.1 in
    let e : ◌≡◌ {A = RowFigures} (record {
      verdict = c.of_waiting.result;
      whole = c.solve-whole.result.figure;
      split = c.at_most-split.result;
      rounds = c.solve-whole.result.rounds + c.split_of-parted.result.rounds;
    })
    (record {
      verdict = lesser (whole rows k) (split rows k);
      whole = figure_of (whole rows k);
      split = figure_of (split rows k);
      rounds = whole_rounds rows k + split_rounds rows k (parts (rows k).times);
    })
    = λ i. record { verdict = v i; whole = w.0 i; split = q i; rounds = m i } in
    e ∙ sym (more-figures rows k (c.requires.1 k (omega arith)).right (sym c.if-not-waits.ensures))
