-- Demand 3 of specs/Demands, shown.
use mathlib.Core.Path.{◌≡◌, refl, sym, ap, ◌∙◌}
use mathlib.Core.Bool.{true}
use mathlib.Core.List.{List, [], ◌∷◌}
use mathlib.Core.Logic.{◌↔◌}
use mathlib.Core.Option.{Option, none, some}
use Prim.Native.Nat.{ℕ, ◌-◌, ◌≤◌, ◌<◌}
use native.Mathlib.Omega.{arith}
use native.Mathlib.Decide.{dec_le}
use lib.ListN.{length, get_or}
use Rattle.words.proofs.Filled.{filled_at}
use Rattle.ticks.specs.Ticks.{instant}
use Rattle.std.specs.Prelude.{Option as Maybe, Some, None, Result}
use Rattle.refusals.specs.declared.Refusal.{Refusal}
use Rattle.ticks.specs.declared.Length.{Length}
use Rattle.ticks.specs.declared.Instant.{Instant}
use Rattle.table.specs.Limits.{most_ticks}
use Rattle.table.specs.Paper.{Row, row_at, Part, parts}
use Rattle.table.specs.Value.{table_of, well_formed}
use Rattle.table.specs.declared.Table.{Table as TableValue}
use Rattle.table.proofs.Rules.{value-forth, number-range, row-period}
use Rattle.verdicts.specs.declared.Bound.{Bound}
use Rattle.verdicts.specs.declared.Bound.TheVariants.{Whole, Split}
use Rattle.verdicts.specs.declared.Verdict.TheVariants.{Fits}
use Rattle.figures.specs.declared.RowFigures.{RowFigures}
use Rattle.recurrence.specs.Figures.{whole, split, verdict}
use Rattle.recurrence.proofs.Rows.{sane}
use Rattle.recurrence.proofs.Verdicts.{of_bound, fits_bound, whole-fixed}
use Rattle.kernel.specs.Rules.{after, full, Complete}
use Rattle.kernel.specs.Completion.{completion}
use Rattle.kernel.proofs.Ended.{complete-same, completion-same}
use Rattle.machine.specs.Run.{completion_value, completions}
use Rattle.machine.proofs.Completions.{run-there}
use Rattle.promises.specs.Demands.{firsts_in, row, Added, no_more, one_more, completed, InTime, FullRunLegal, Ended, Exact, Missed}
use Rattle.promises.proofs.Fits.{fits-deadline, fits-in-time}
use Rattle.promises.proofs.Exact.{full-legal, exact-before, exact-from, exact-misses}
use Rattle.promises.proofs.Told.{Asked, asked, right-table, there, right-rows}
use Rattle.promises.proofs.Demand2.{verdict-is, split-added}

-- a figure is never 0

added-some : (v : TableValue) (n : ℕ) (l : List Part) (B : ℕ) → 1 ≤ length l → Added v n l B → 1 ≤ B
added-some v n l E h no_more = absurd (omega arith)
added-some v n l E h (one_more R s r d) = omega (arith, s.positive)

parts-length : (times : List ℕ) → 1 ≤ length times → 1 ≤ length (parts times)
parts-length [] h = absurd (omega arith)
parts-length (c ∷ l) h = omega arith

positive-figure : (v : TableValue) (n : ℕ) (a : RowFigures) → Asked v n a → (b : Bound) (R : Length) → a.verdict ≡ Fits b R → 1 ≤ R.0
positive-figure v n a q b R h = go b (fits_bound (row_at (table_of v)) (n - 1) b R (sym (verdict-is v n a q) ∙ h))
  where
    go : (b : Bound) → of_bound b (whole (row_at (table_of v)) (n - 1)) (split (row_at (table_of v)) (n - 1)) ≡ some R.0 → 1 ≤ R.0
    go Whole e = ((whole-fixed (row_at (table_of v)) (n - 1) (right-rows v n a q) R.0).0 e).0.positive
    go Split e =
        let s = sane (row v n) (right-rows v n a q (n - 1) (omega arith)) in
        added-some v n (parts (row v n).times) R.0 (parts-length (row v n).times (omega (arith, s.odd))) ((split-added v n a q R.0).0 e).0

pub demand-3-in-time : InTime
demand-3-in-time v n a h b R x =
    let q = asked v n a h in
    let t = table_of v in
    let e = sym (verdict-is v n a q) ∙ x in (
      positive-figure v n a q b R x,
      fits-deadline t (right-table v n a q) (n - 1) (there v n a q) e,
      fits-in-time t (right-table v n a q) (n - 1) (there v n a q) e,
    )

pub demand-3-legal : FullRunLegal
demand-3-legal v ok = full-legal (table_of v) (value-forth v ok).1

-- a row of one stretch whose first job is complete at F and not before: that is what the full run gives
completion-from : (rows : ℕ → Row) (k F m : ℕ) → 1 ≤ F → ((u : ℕ) → 1 ≤ u → u < F → Complete 0 (after (full rows) u k) → ⊥) → Complete 0 (after (full rows) F k)
    → (F ≤ m → completion rows k m ≡ some F) × (m < F → completion rows k m ≡ none)
completion-from rows k F m p before at = (there, missing)
  where
    there : F ≤ m → completion rows k m ≡ some F
    there h =
        (completion-same rows k m F).1
        (record {
          ticked = p;
          inside = h;
          ended = (complete-same 0 (after (full rows) F k)).0 at;
          before = λ u q l z. before u q l ((complete-same 0 (after (full rows) u k)).1 z);
        })

    missing : m < F → completion rows k m ≡ none
    missing h = go (completion rows k m) refl
      where
        go : (o : Option ℕ) → completion rows k m ≡ o → o ≡ none
        go none e = refl
        go (some c) e =
            let f = (completion-same rows k m c).0 e in
            absurd (before c f.ticked (omega (arith, f.inside)) ((complete-same 0 (after (full rows) c k)).1 f.ended))

completed-is : (v : TableValue) (m n : ℕ) → well_formed v ≡ true → m ≤ most_ticks → n - 1 < length (table_of v)
    → completed v m n ≡ completion_value (completion (row_at (table_of v)) (n - 1) m)
unfolding completions
completed-is v m n ok h l =
    ap (λ (r : Result (List (Maybe Instant)) Refusal). get_or (firsts_in r) (n - 1) None) (run-there v m ok h)
    ∙ filled_at (λ i. completion_value (completion (row_at (table_of v)) i m)) (length (table_of v)) _ None (n - 1) l

pub demand-3-exact : Exact
demand-3-exact v n a h one b R x = (reach, at)
  where
    q : Asked v n a
    q = asked v n a h

    e : verdict (row_at (table_of v)) (n - 1) ≡ Fits b R
    e = sym (verdict-is v n a q) ∙ x

    reach : R.0 ≤ most_ticks
    reach =
        let r = right-rows v n a q (n - 1) (omega arith) in
        omega (
          arith,
          fits-deadline (table_of v) (right-table v n a q) (n - 1) (there v n a q) e,
          (sane (row v n) r).deadline-fits,
          number-range
              (row v n).period (row-period (row v n) r),
        )

    at : (m : ℕ) → m ≤ most_ticks → (R.0 ≤ m → completed v m n ≡ Some (record { 0 = R.0 })) × (m < R.0 → completed v m n ≡ None)
    at m l =
        let t = table_of v in
        let ok = right-table v n a q in
        let y = there v n a q in
        let c = completion-from (row_at t) (n - 1) R.0 m (positive-figure v n a q b R x) (exact-before t ok (n - 1) y one e)
        (exact-from t ok (n - 1) y one e R.0 (omega arith)) in
        let s = completed-is v m n q.good l y in
        ((λ l. s ∙ ap completion_value (c.0 l)), (λ l. s ∙ ap completion_value (c.1 l)))

first_some : (o : Option ℕ) (c : ℕ) → (completion_value o ≡ Some (instant c)) ↔ (o ≡ some c)
first_some (some x) c = ((λ f. (let z : instant x ≡ instant c = cc in ap (λ (i : Instant). some i.0) z)), (λ e. ap completion_value e))
first_some none c = ((λ f. absurd (let z : ◌≡◌ {A = ℕ} 0 1 = cc in omega arith)), (λ e. absurd (let z : ◌≡◌ {A = ℕ} 0 1 = cc in omega arith)))

first-none : (o : Option ℕ) → (completion_value o ≡ None) ↔ ((c : ℕ) → o ≡ some c → ⊥)
first-none (some x) = ((λ f. absurd (let z : ◌≡◌ {A = ℕ} 0 1 = cc in omega arith)), (λ h. absurd (h x refl)))
first-none none = ((λ f c e. (let z : ◌≡◌ {A = ℕ} 0 1 = cc in omega arith)), (λ h. refl))

pub demand-3-ended : Ended
demand-3-ended v ok m n l h k =
    let s = completed-is v m n ok l (omega arith) in
    let o = completion (row_at (table_of v)) (n - 1) m in
    let same = completion-same (row_at (table_of v)) (n - 1) m in (
      (λ c. ((λ e. (same c).0 ((first_some o c).0 (sym s ∙ e))), (λ e. s ∙ (first_some o c).1 ((same c).1 e)))),
      ((λ e c z. (first-none o).0 (sym s ∙ e) c ((same c).1 z)), (λ e. s ∙ (first-none o).1 (λ c z. e c ((same c).0 z)))),
    )

pub demand-3-missed : Missed
demand-3-missed v n a h one x =
    let q = asked v n a h in
    let t = table_of v in
    let y = there v n a q in
    let r = sane (row v n) (right-rows v n a q (n - 1) (omega arith)) in
    let misses = exact-misses t (right-table v n a q) (n - 1) y one (sym (verdict-is v n a q) ∙ x) in (
      misses (row v n).deadline (omega (arith, r.own-some, r.own-fits)) (omega arith),
      (λ m l c e.
          let f = (completion-same (row_at t) (n - 1) m c.0).0 ((first_some _ c.0).0 (sym (completed-is v m n q.good l y) ∙ e)) in
          late c.0 (row v n).deadline (dec_le c.0 (row v n).deadline)
          (λ h. misses c.0 f.ticked h ((complete-same 0 (after (full (row_at t)) c.0 (n - 1))).1 f.ended))),
    )
  where
    late : (c d : ℕ) → Dec (c ≤ d) → (c ≤ d → ⊥) → d < c
    late c d (yes h) no_way = absurd (no_way h)
    late c d (no h) no_way = omega arith
