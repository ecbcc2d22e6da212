-- Soundness: where a row of a right table fits with R, R is at most D, and each of its jobs is complete within R of its release.
use mathlib.Core.Path.{◌≡◌, refl}
use mathlib.Core.Bool.{Bool, true}
use mathlib.Core.List.{List, [], ◌∷◌}
use mathlib.Core.Option.{Option, none, some, some-injective, none-ne-some}
use Prim.Native.Nat.{ℕ, ◌+◌, ◌≤◌, ◌<◌}
use native.Mathlib.Omega.{arith}
use lib.ListN.{length}
use Rattle.ticks.specs.declared.Length.{Length}
use Rattle.table.specs.Paper.{Row, Table, row_at, Part, part, parts, total, right_row, right_table}
use Rattle.kernel.specs.Rules.{after, Input, LegalRun, Complete}
use Rattle.verdicts.specs.declared.Bound.{Bound}
use Rattle.verdicts.specs.declared.Bound.TheVariants.{Whole, Split}
use Rattle.verdicts.specs.declared.Verdict.TheVariants.{Fits}
use Rattle.recurrence.specs.Figures.{demand, right, result, whole, plus, split_from, split, verdict}
use Rattle.recurrence.proofs.Rows.{sane}
use Rattle.recurrence.proofs.Verdicts.{of_bound, fits_bound, split-some, stretch-fixed, whole-fixed}
use Rattle.promises.proofs.Supply.{Bounded, supply}
use Rattle.promises.proofs.Finish.{Positive, Splits, no_part, one-part}
use Rattle.promises.proofs.Proper.{proper, positive, single}
use Rattle.promises.proofs.Sound.{free_at, Above, bounded, EndsIn, whole_row, split-row, ends-complete}

module _ (rows : ℕ → Row) (k : ℕ) (rules : (i : ℕ) → i ≤ k → right_row (rows i) ≡ true) (p : ℕ → Bool) (b : Bounded p (demand rows k)) where
  splits : (m : List Part) → Positive m → total m ≤ (rows k).deadline → (B : ℕ) → split_from rows k m ≡ some B → Splits p m B
  splits [] h le B e = let z : 0 ≡ B = some-injective 0 B e in rw (← z) no_part
  splits (part s c ∷ m) h le B e =
      go (result (right rows k c) (rows k).deadline c) (split_from rows k m) refl refl e (splits m h.1 (omega arith))
    where
      go : (x y : Option ℕ) → result (right rows k c) (rows k).deadline c ≡ x → split_from rows k m ≡ y → plus s x y ≡ some B →
          ((A : ℕ) → split_from rows k m ≡ some A → Splits p m A) → Splits p (part s c ∷ m) B
      go none y ex ey z ih = absurd (none-ne-some B z)
      go (some R) none ex ey z ih = absurd (none-ne-some B z)
      go (some R) (some A) ex ey z ih =
          let fix = (stretch-fixed rows k rules c h.0 (omega arith) R).0 ex in
          let w : s + R + A ≡ B = some-injective (s + R + A) B z in
          rw (← w) (one-part R (supply p (demand rows k) b c R (omega (arith, fix.0.fixed))) (ih A ey))

module _ (t : Table) (good : right_table t ≡ true) (k : ℕ) (at : k < length t) where
  -- row k and the rows above it are right
  pub rules : (i : ℕ) → i ≤ k → right_row (row_at t i) ≡ true
  rules i h = (proper t good).rules i (omega arith)

  -- the rows above row k have one C, and keep the rules in a run that does
  pub above : (run : ℕ → Input) → LegalRun t run → Above run (row_at t) k
  above run legal =
      record {
        one = λ i h. single (row_at t i) (rules i (omega arith)) ((proper t good).plain i (omega arith));
        legal = λ i h. legal i (omega arith);
      }

  row_ends : (run : ℕ → Input) → LegalRun t run → (b : Bound) (R : ℕ) → of_bound b (whole (row_at t) k) (split (row_at t) k) ≡ some R → EndsIn run (row_at t) k R
  row_ends run legal Whole R e =
      let fix = (whole-fixed (row_at t) k rules R).0 e in
      whole_row run (row_at t) k (demand (row_at t) k) (bounded run (row_at t) k (above run legal)) R (omega (arith, fix.0.fixed))
  row_ends run legal Split R e =
      split-row run (row_at t) k R
      (splits (row_at t) k rules (free_at run k) (bounded run (row_at t) k (above run legal)) (parts (row_at t k).times)
      (positive (row_at t k) (rules k (omega arith))) (sane (row_at t k) (rules k (omega arith))).own-fits R ((split-some (row_at t) k R).0 e).0)

  -- where a row fits with R, R is at most D
  pub fits-deadline : {b : Bound} {R : Length} → verdict (row_at t) k ≡ Fits b R → R.0 ≤ (row_at t k).deadline
  fits-deadline {b} {R} e = go b (fits_bound (row_at t) k b R e)
    where
      go : (b : Bound) → of_bound b (whole (row_at t) k) (split (row_at t) k) ≡ some R.0 → R.0 ≤ (row_at t k).deadline
      go Whole e = ((whole-fixed (row_at t) k rules R.0).0 e).1
      go Split e = ((split-some (row_at t) k R.0).0 e).1

  -- and in each run that the rules allow, each job released at s or before is complete at every instant from s + R on
  pub fits-in-time : {b : Bound} {R : Length} → verdict (row_at t) k ≡ Fits b R →
      (run : ℕ → Input) → LegalRun t run → (s n : ℕ) → s + R.0 ≤ n → Complete s (after run n k)
  fits-in-time {b} {R} e run legal =
      ends-complete run (row_at t) k R.0 (row_ends run legal b R.0 (fits_bound (row_at t) k b R e))
      (omega (arith, fits-deadline e, (sane (row_at t k) (rules k (omega arith))).deadline-fits)) (legal k at)
