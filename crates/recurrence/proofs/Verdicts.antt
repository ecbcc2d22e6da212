-- What the figures of a right row say: each bound, each verdict and the rounds, as document 01 has them.
use Rattle.std.specs.Prelude.{if◌then◌else◌}
use mathlib.Core.Path.{◌≡◌, refl, sym, ap, ◌∙◌}
use mathlib.Core.Bool.{Bool, true, false}
use mathlib.Core.List.{List, [], ◌∷◌}
use mathlib.Core.Option.{Option, none, some}
use mathlib.Core.Logic.Iff
use mathlib.Core.Logic.{◌↔◌}
use Prim.Native.Nat.{ℕ, ◌+◌, ◌-◌, ◌≤◌, ◌<◌}
use native.Mathlib.Omega.{arith}
use lib.Dec.{leb}
use borrow.Author.Tests.{leb-true, leb-false, le-leb}
use Rattle.ticks.specs.declared.Length.{Length}
use Rattle.words.proofs.Choice.{if-true}
use Rattle.table.specs.Paper.{Row, Part, parts, right_row, waits}
use Rattle.ticks.specs.Ticks.{long}
use Rattle.verdicts.specs.Verdicts.{at_most, single, lesser}
use Rattle.verdicts.specs.declared.Bound.{Bound}
use Rattle.verdicts.specs.declared.Bound.TheVariants.{Whole, Split}
use Rattle.verdicts.specs.declared.Verdict.TheVariants.{Fits, Misses, Open}
use Rattle.recurrence.specs.Fixed.{Smallest, NoneUpTo, Took}
use Rattle.recurrence.specs.Figures.{right, result, rounds, own, whole, split, split_from, judge, verdict, with_split, row_rounds, split_rounds}
use Rattle.recurrence.proofs.Recurrence.{result-some, result-none, rounds-took, rounds-few, demand-mono}
use Rattle.recurrence.proofs.Rows.{Sane, sane, one_time, more-times}

-- the bound of that name, of whole and split
abbrev pub of_bound : Bound → Option ℕ → Option ℕ → Option ℕ
of_bound Whole w s = w
of_bound Split w s = s

never : {A : Type 0} → ◌≡◌ {A = ℕ} 0 1 → A
never e = absurd (omega arith)

same-figure : {a b : Bound} {x : ℕ} {R : Length} → Fits a (long x) ≡ Fits b R → x ≡ R.0
same-figure {x} {R} e = let z : long x ≡ R = cc in ap (λ (l : Length). l.0) z

single-fits : (w : Option ℕ) (R : ℕ) → (single w ≡ Fits Whole (long R)) ↔ (w ≡ some R)
single-fits none R = ((λ e. never (cc)), (λ e. never (cc)))
single-fits (some w) R = ((λ e. ap some (same-figure e)), (λ e. cc))

single-misses : (w : Option ℕ) → (single w ≡ Misses) ↔ (w ≡ none)
single-misses none = ((λ e. refl), (λ e. refl))
single-misses (some w) = ((λ e. never (cc)), (λ e. never (cc)))

single-whole : (w : Option ℕ) (b : Bound) (R : Length) → single w ≡ Fits b R → b ≡ Whole
single-whole none b R e = never (cc)
single-whole (some w) b R e = cc

single-open : (w : Option ℕ) → single w ≡ Open → ⊥
single-open none e = never (cc)
single-open (some w) e = never (cc)

lesser-whole : (w s : Option ℕ) (R : ℕ) → (lesser w s ≡ Fits Whole (long R)) ↔ ((w ≡ some R) × ((y : ℕ) → s ≡ some y → R ≤ y))
lesser-whole none none R = ((λ e. never (cc)), (λ h. never (cc)))
lesser-whole none (some y) R = ((λ e. never (cc)), (λ h. never (cc)))
lesser-whole (some x) none R = ((λ e. (ap some (same-figure e), λ y z. never (cc))), (λ h. cc))
lesser-whole (some x) (some y) R = go (leb x y) refl
  where
    go : (b : Bool) → leb x y ≡ b →
        ((if b then Fits Whole (long x) else Fits Split (long y)) ≡ Fits Whole (long R)) ↔ ((some x ≡ some R) × ((z : ℕ) → some y ≡ some z → R ≤ z))
    go true h = ((λ e. (ap some (same-figure e), λ z f. (let p : y ≡ z = cc in omega (arith, leb-true x y h, same-figure e)))), (λ p. cc))
    go false h = ((λ e. never (cc)), (λ p. let z : x ≡ R = cc in absurd (omega (arith, leb-false x y h, p.1 y refl))))

lesser-split : (w s : Option ℕ) (R : ℕ) → (lesser w s ≡ Fits Split (long R)) ↔ ((s ≡ some R) × ((x : ℕ) → w ≡ some x → R < x))
lesser-split none none R = ((λ e. never (cc)), (λ h. never (cc)))
lesser-split none (some y) R = ((λ e. (ap some (same-figure e), λ x z. never (cc))), (λ h. cc))
lesser-split (some x) none R = ((λ e. never (cc)), (λ h. never (cc)))
lesser-split (some x) (some y) R = go (leb x y) refl
  where
    go : (b : Bool) → leb x y ≡ b →
        ((if b then Fits Whole (long x) else Fits Split (long y)) ≡ Fits Split (long R)) ↔ ((some y ≡ some R) × ((z : ℕ) → some x ≡ some z → R < z))
    go true h = ((λ e. never (cc)), (λ p. let z : y ≡ R = cc in absurd (omega (arith, leb-true x y h, p.1 x refl))))
    go false h = ((λ e. (ap some (same-figure e), λ z f. (let p : x ≡ z = cc in omega (arith, leb-false x y h, same-figure e)))), (λ p. cc))

lesser-open : (w s : Option ℕ) → (lesser w s ≡ Open) ↔ ((w ≡ none) × (s ≡ none))
lesser-open none none = ((λ e. (refl, refl)), (λ h. refl))
lesser-open none (some y) = ((λ e. never (cc)), (λ h. never (cc)))
lesser-open (some x) none = ((λ e. never (cc)), (λ h. never (cc)))
lesser-open (some x) (some y) = ((λ e. go (leb x y) e), (λ h. never (cc)))
  where
    go : (b : Bool) → (if b then Fits Whole (long x) else Fits Split (long y)) ≡ Open → (some x ≡ none) × (some y ≡ none)
    go true e = never (cc)
    go false e = never (cc)

lesser-misses : (w s : Option ℕ) → lesser w s ≡ Misses → ⊥
lesser-misses none none e = never (cc)
lesser-misses none (some y) e = never (cc)
lesser-misses (some x) none e = never (cc)
lesser-misses (some x) (some y) e = go (leb x y) e
  where
    go : (b : Bool) → (if b then Fits Whole (long x) else Fits Split (long y)) ≡ Misses → ⊥
    go true e = never (cc)
    go false e = never (cc)

at_most-some : (d : ℕ) (o : Option ℕ) (B : ℕ) → (at_most d o ≡ some B) ↔ ((o ≡ some B) × (B ≤ d))
at_most-some d none B = ((λ e. never (cc)), (λ h. never (cc)))
at_most-some d (some b) B = ((λ e. to (leb b d) refl e), (λ h. from h.0 h.1))
  where
    to : (x : Bool) → leb b d ≡ x → (if x then some b else none) ≡ some B → (some b ≡ some B) × (B ≤ d)
    to true h e = let z : b ≡ B = cc in (e, omega (arith, leb-true b d h))
    to false h e = never (cc)

    from : some b ≡ some B → B ≤ d → at_most d (some b) ≡ some B
    from e h = let z : b ≡ B = cc in if-true (some b) none (le-leb b d (omega arith)) ∙ e

single-bound : (w s : Option ℕ) (b : Bound) (R : Length) → single w ≡ Fits b R → of_bound b w s ≡ some R.0
single-bound w s Whole R e = (single-fits w R.0).0 e
single-bound w s Split R e = let z = single-whole w Split R e in never (cc)

judge-bound : (m : List Part) (w s : Option ℕ) (b : Bound) (R : Length) → judge m w s ≡ Fits b R → of_bound b w s ≡ some R.0
judge-bound [] w s b R e = single-bound w s b R e
judge-bound (x ∷ []) w s b R e = single-bound w s b R e
judge-bound (x ∷ y ∷ m) w s Whole R e = ((lesser-whole w s R.0).0 e).0
judge-bound (x ∷ y ∷ m) w s Split R e = ((lesser-split w s R.0).0 e).0

same : {A : Type 0} {x y z : A} → x ≡ y → (x ≡ z) ↔ (y ≡ z)
same p = ((λ e. sym p ∙ e), (λ e. p ∙ e))

module _ (rows : ℕ → Row) (k : ℕ) where
  -- a row that fits has its figure from the bound that the verdict names
  pub fits_bound : (b : Bound) (R : Length) → verdict rows k ≡ Fits b R → of_bound b (whole rows k) (split rows k) ≡ some R.0
  fits_bound = judge-bound (parts (rows k).times) (whole rows k) (split rows k)

  -- split is B exactly where all stretches' results and all S add up to B, and B is at most D
  pub split-some : (B : ℕ) → (split rows k ≡ some B) ↔ ((split_from rows k (parts (rows k).times) ≡ some B) × (B ≤ (rows k).deadline))
  split-some = at_most-some (rows k).deadline (split_from rows k (parts (rows k).times))

  module _ (rules : (i : ℕ) → i ≤ k → right_row (rows i) ≡ true) where
    row : Sane (rows k)
    row = sane (rows k) (rules k (omega arith))

    right-mono : (c s t : ℕ) → s ≤ t → right rows k c s ≤ right rows k c t
    right-mono c s t le = omega (arith, demand-mono rows k (λ i h. (sane (rows i) (rules i (omega arith))).period-some) s t le)

    -- the recurrence of a stretch of c ticks, or of the whole row with all C and S
    module _ (c : ℕ) (c-some : 1 ≤ c) (c-fits : c ≤ (rows k).deadline) where
      -- its result is R exactly where R is the smallest positive fixed point, and at most D
      pub stretch-fixed : (R : ℕ) → (result (right rows k c) (rows k).deadline c ≡ some R) ↔ (Smallest (right rows k c) R × (R ≤ (rows k).deadline))
      stretch-fixed = result-some (right rows k c) (rows k).deadline (right-mono c) c c-some c-fits (λ t. omega arith)

      -- there is none exactly where no positive fixed point is at most D
      pub stretch-none : (result (right rows k c) (rows k).deadline c ≡ none) ↔ NoneUpTo (rows k).deadline (right rows k c)
      stretch-none = result-none (right rows k c) (rows k).deadline (right-mono c) c c-some c-fits (λ t. omega arith)

      -- so often its right side is worked out
      pub stretch-took : Took (right rows k c) (rows k).deadline c (rounds (right rows k c) (rows k).deadline c)
      stretch-took = rounds-took (right rows k c) (rows k).deadline (right-mono c) c c-some c-fits (λ t. omega arith)

      -- it takes at most D - c + 1 rounds
      pub stretch-rounds : rounds (right rows k c) (rows k).deadline c ≤ (rows k).deadline - c + 1
      stretch-rounds = rounds-few (right rows k c) (rows k).deadline (right-mono c) c c-some c-fits (λ t. omega arith)

    -- whole is R exactly where R is the smallest positive fixed point, and at most D
    pub whole-fixed : (R : ℕ) → (whole rows k ≡ some R) ↔ (Smallest (right rows k (own (rows k))) R × (R ≤ (rows k).deadline))
    whole-fixed = stretch-fixed (own (rows k)) row.own-some row.own-fits

    -- whole's right side is worked out so often
    pub whole-took : Took (right rows k (own (rows k))) (rows k).deadline (own (rows k))
        (rounds (right rows k (own (rows k))) (rows k).deadline (own (rows k)))
    whole-took = stretch-took (own (rows k)) row.own-some row.own-fits

    -- whole is none exactly where no positive fixed point is at most D
    pub whole-none : (whole rows k ≡ none) ↔ NoneUpTo (rows k).deadline (right rows k (own (rows k)))
    whole-none = stretch-none (own (rows k)) row.own-some row.own-fits

    module _ (one : waits (rows k) ≡ false) where
      one-judged : verdict rows k ≡ single (whole rows k)
      one-judged =
          ap (λ l. judge (parts l) (whole rows k) (split rows k)) (one_time (rows k) (rules k (omega arith)) one).1

      -- a row of one C fits with R exactly where R is the smallest positive fixed point, and at most D; its bound is whole
      pub one-fits : (R : ℕ) → (verdict rows k ≡ Fits Whole (long R)) ↔ (Smallest (right rows k (own (rows k))) R × (R ≤ (rows k).deadline))
      one-fits R = Iff.trans (same one-judged) (Iff.trans (single-fits (whole rows k) R) (whole-fixed R))

      -- a row of one C misses exactly where no positive fixed point is at most D
      pub one-misses : (verdict rows k ≡ Misses) ↔ NoneUpTo (rows k).deadline (right rows k (own (rows k)))
      one-misses = Iff.trans (same one-judged) (Iff.trans (single-misses (whole rows k)) whole-none)

      -- a row of one C has only whole
      pub one-whole : (b : Bound) (R : Length) → verdict rows k ≡ Fits b R → b ≡ Whole
      one-whole b R e = single-whole (whole rows k) b R (sym one-judged ∙ e)

      -- and is never open
      pub one-open : verdict rows k ≡ Open → ⊥
      one-open e = single-open (whole rows k) (sym one-judged ∙ e)

      -- a row of one C takes at most D - C + 1 rounds
      pub one-rounds : row_rounds rows k ≤ (rows k).deadline - own (rows k) + 1
      one-rounds =
          omega (
            arith,
            stretch-rounds (own (rows k)) row.own-some row.own-fits,
            ap (λ l. with_split (parts l) (rounds (right rows k (own (rows k))) (rows k).deadline (own (rows k))) (split_rounds rows k (parts (rows k).times)))
                (one_time (rows k) (rules k (omega arith)) one).1,
          )

    module _ (more : waits (rows k) ≡ true) where
      more-judged : verdict rows k ≡ lesser (whole rows k) (split rows k)
      more-judged =
          ap (λ l. judge (parts l) (whole rows k) (split rows k)) (more-times (rows k) (rules k (omega arith)) more).4

      -- a waiting row fits by whole exactly where whole is a figure and split is none or no less
      pub waiting-whole : (R : ℕ) →
          (verdict rows k ≡ Fits Whole (long R)) ↔ ((whole rows k ≡ some R) × ((s : ℕ) → split rows k ≡ some s → R ≤ s))
      waiting-whole R = Iff.trans (same more-judged) (lesser-whole (whole rows k) (split rows k) R)

      -- it fits by split exactly where split is a figure and whole is none or greater
      pub waiting-split : (R : ℕ) →
          (verdict rows k ≡ Fits Split (long R)) ↔ ((split rows k ≡ some R) × ((w : ℕ) → whole rows k ≡ some w → R < w))
      waiting-split R = Iff.trans (same more-judged) (lesser-split (whole rows k) (split rows k) R)

      -- it is open exactly where both are none
      pub waiting-open : (verdict rows k ≡ Open) ↔ ((whole rows k ≡ none) × (split rows k ≡ none))
      waiting-open = Iff.trans (same more-judged) (lesser-open (whole rows k) (split rows k))

      -- it never misses
      pub waiting-misses : verdict rows k ≡ Misses → ⊥
      waiting-misses e = lesser-misses (whole rows k) (split rows k) (sym more-judged ∙ e)
