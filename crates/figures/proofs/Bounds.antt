-- How large the figures and the rounds of a right row can be: no figure is above D, and no recurrence takes more than D rounds.
use mathlib.Core.Path.{◌≡◌}
use mathlib.Core.Bool.{true}
use mathlib.Core.List.{List, [], ◌∷◌}
use mathlib.Core.Option.{Option, none, some}
use Prim.Native.Nat.{ℕ, suc, ◌+◌, ◌*◌, ◌≤◌}
use native.Mathlib.Nat.{mul-le-mul_right}
use native.Mathlib.Omega.{arith}
use lib.ListN.{length}
use Rattle.ticks.specs.declared.Length.{Length}
use Rattle.words.specs.Lists.{sum, all}
use Rattle.words.proofs.Choice.{and_parts}
use Rattle.table.specs.Limits.{most_stretches}
use Rattle.table.specs.Paper.{Row, Part, part, behind, parts, right_number, right_row}
use Rattle.table.proofs.Rules.{row_count, row-times, row-sum, count_most, number-range}
use Rattle.verdicts.specs.declared.Bound.{Bound}
use Rattle.verdicts.specs.declared.Bound.TheVariants.{Whole, Split}
use Rattle.verdicts.specs.declared.Verdict.TheVariants.{Fits}
use Rattle.recurrence.specs.Figures.{right, result, rounds, own, whole, split, verdict, unless_none, split_rounds, with_split, row_rounds}
use Rattle.figures.specs.Answers.{split_shown}
use Rattle.recurrence.proofs.Rows.{sane}
use Rattle.recurrence.proofs.Verdicts.{fits_bound, split-some, whole-fixed, stretch-rounds}

-- each stretch takes 1 tick or more, and at most d
abbrev Within : ℕ → List Part → Type 0
Within d [] = Unit {0}
Within d (part s c ∷ l) = (1 ≤ c) × (c ≤ d) × Within d l

-- the stretches behind the first do, where right times come to at most d
within-behind : (d : ℕ) (l : List ℕ) → all right_number l ≡ true → sum l ≤ d → Within d (behind l)
unfolding all sum
within-behind d [] e h = tt
within-behind d (s ∷ []) e h = tt
within-behind d (s ∷ c ∷ l) e h =
    let p = and_parts (and_parts e).1 in
    ((number-range c p.0).0, omega arith, within-behind d l p.1 (omega arith))

-- and so do all stretches
within-parts : (d : ℕ) (times : List ℕ) → all right_number times ≡ true → sum times ≤ d → Within d (parts times)
unfolding all sum
within-parts d [] e h = tt
within-parts d (c ∷ l) e h =
    let p = and_parts e in
    ((number-range c p.0).0, omega arith, within-behind d l p.1 (omega arith))

-- a stretch behind the first has two times, its own and the suspension before it
behind-count : (l : List ℕ) → 2 * length (behind l) ≤ length l
behind-count [] = omega arith
behind-count (s ∷ []) = omega arith
behind-count (s ∷ c ∷ l) = omega (arith, behind-count l)

-- the first stretch has only its own
parts-count : (times : List ℕ) → 2 * length (parts times) ≤ suc (length times)
parts-count [] = omega arith
parts-count (c ∷ l) = omega (arith, behind-count l)

-- a right row has no more stretches than a row may have
pub stretches-most : (r : Row) → right_row r ≡ true → length (parts r.times) ≤ most_stretches
stretches-most r e = omega (arith, parts-count r.times, count_most (length r.times) (row_count r e))

-- what counts only where there is a result is no more than itself
unless-most : (o : Option ℕ) (n : ℕ) → unless_none o n ≤ n
unless-most none n = omega arith
unless-most (some r) n = omega arith

-- a row's rounds are no more than those of whole and split together
with-most : (l : List Part) (w s : ℕ) → with_split l w s ≤ w + s
with-most [] w s = omega arith
with-most (x ∷ []) w s = omega arith
with-most (x ∷ y ∷ l) w s = omega arith

module _ (rows : ℕ → Row) (k : ℕ) (rules : (i : ℕ) → i ≤ k → right_row (rows i) ≡ true) where
  -- the row itself keeps its rules
  here : right_row (rows k) ≡ true
  here = rules k (omega arith)

  -- WHOLE IS AT MOST D
  pub whole-most : (R : ℕ) → whole rows k ≡ some R → R ≤ (rows k).deadline
  whole-most R e = ((whole-fixed rows k rules R).0 e).1

  -- SPLIT IS AT MOST D
  pub split-most : (R : ℕ) → split rows k ≡ some R → R ≤ (rows k).deadline
  split-most R e = ((split-some rows k R).0 e).1

  -- and so is the split that is shown, which a row with one C does not have
  pub shown-most : (R : ℕ) → split_shown (parts (rows k).times) (split rows k) ≡ some R → R ≤ (rows k).deadline
  shown-most R e = go (parts (rows k).times) e
    where
      go : (l : List Part) → split_shown l (split rows k) ≡ some R → R ≤ (rows k).deadline
      go [] e = let z : ◌≡◌ {A = ℕ} 0 1 = cc in absurd (omega arith)
      go (x ∷ []) e = let z : ◌≡◌ {A = ℕ} 0 1 = cc in absurd (omega arith)
      go (x ∷ y ∷ l) e = split-most R e

  -- THE FIGURE WITH WHICH A ROW FITS IS AT MOST D
  pub fits-most : (b : Bound) (R : Length) → verdict rows k ≡ Fits b R → R.0 ≤ (rows k).deadline
  fits-most Whole R e = whole-most R.0 (fits_bound rows k Whole R e)
  fits-most Split R e = split-most R.0 (fits_bound rows k Split R e)

  -- one recurrence takes at most D rounds
  one-most : (c : ℕ) → 1 ≤ c → c ≤ (rows k).deadline → rounds (right rows k c) (rows k).deadline c ≤ (rows k).deadline
  one-most c low high = omega (arith, stretch-rounds rows k rules c low high)

  -- split takes at most D rounds a stretch
  split-rounds : (l : List Part) → Within (rows k).deadline l → split_rounds rows k l ≤ length l * (rows k).deadline
  split-rounds [] w = omega arith
  split-rounds (part s c ∷ l) w =
      omega (
        arith,
        one-most c w.0 w.1,
        unless-most (result (right rows k c) (rows k).deadline c) (split_rounds rows k l),
        split-rounds l w.2,
      )

  -- A ROW TAKES AT MOST D ROUNDS FOR WHOLE, AND AS MANY FOR EACH STRETCH
  pub rounds-most : row_rounds rows k ≤ suc most_stretches * (rows k).deadline
  rounds-most =
      let r = rows k in
      let own-rounds = rounds (right rows k (own r)) r.deadline (own r) in
      let l = parts r.times in
      omega (
        arith,
        with-most l own-rounds (split_rounds rows k l),
        one-most (own r) (sane r here).own-some (sane r here).own-fits,
        split-rounds l (within-parts r.deadline r.times (row-times r here) (row-sum r here)),
        mul-le-mul_right r.deadline (stretches-most r here),
      )
