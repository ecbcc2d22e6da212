-- What a right row has: the rules of document 01 that the figures rest on, one by one.
use mathlib.Core.Path.{◌≡◌, refl}
use mathlib.Core.Bool.{true, false}
use mathlib.Core.List.{List, [], ◌∷◌, ◌++◌}
use Prim.Native.Nat.{ℕ, zero, suc, ◌+◌, ◌-◌, ◌%◌, ◌≤◌, ◌<◌}
use native.Mathlib.Omega.{arith}
use lib.ListN.{length, drop, get_or, replicate, drop_of_length-le}
use borrow.Author.Tests.{eqb-true, ltb-true, ltb-false}
use Rattle.words.specs.Lists.{sum, all, padded}
use Rattle.words.proofs.Choice.{and_parts}
use Rattle.table.specs.Paper.{Row, Part, part, behind, parts, work, total, right_number, right_count, right_row, waits}
use Rattle.table.proofs.Rules.{number-range, row-period, row_count, row-times, row-order, row-sum}
use Rattle.recurrence.specs.Figures.{own}

behind_sum : (l : List ℕ) → length l % 2 ≡ 0 → total (behind l) ≡ sum l
unfolding sum
behind_sum [] e = refl
behind_sum (s ∷ []) e = absurd (omega arith)
behind_sum (s ∷ c ∷ l) e = omega (arith, behind_sum l (omega arith))

-- all C and S, added stretch by stretch or time by time
pub parts-sum : (times : List ℕ) → length times % 2 ≡ 1 → total (parts times) ≡ sum times
unfolding sum
parts-sum [] e = absurd (omega arith)
parts-sum (c ∷ l) e = omega (arith, behind_sum l (omega arith))

parts-some : (times : List ℕ) → length times % 2 ≡ 1 → all right_number times ≡ true → 1 ≤ total (parts times)
unfolding all
parts-some [] e h = absurd (omega arith)
parts-some (c ∷ l) e h = omega (arith, (number-range c (and_parts h).0).0)

work-behind : (l : List ℕ) → work (behind l) ≡ work (parts (drop 1 l))
work-behind [] = refl
work-behind (s ∷ []) = refl
work-behind (s ∷ c ∷ l) = refl

pub work-end : (times : List ℕ) (j : ℕ) → length times ≤ j → work (parts (drop j times)) ≡ 0
work-end times j h = rw (drop_of_length-le times h) refl

-- all C from a stretch on: its own, and those from the next one on
pub work-at : (times : List ℕ) (j : ℕ) → work (parts (drop j times)) ≡ get_or times j 0 + work (parts (drop (j + 2) times))
work-at [] j = omega (arith, work-end [] j (omega arith), work-end [] (j + 2) (omega arith))
work-at (c ∷ l) zero = omega (arith, work-behind l)
work-at (c ∷ l) (suc j) = let e : suc j + 2 ≡ suc (j + 2) = omega arith in rw e (work-at l j)

behind-zeros : (l : List ℕ) (n : ℕ) → length l % 2 ≡ 0 → work (behind (l ++ replicate n 0)) ≡ work (behind l)
behind-zeros [] zero e = refl
behind-zeros [] (suc zero) e = refl
behind-zeros [] (suc (suc n)) e = omega (arith, behind-zeros [] n e)
behind-zeros (s ∷ []) n e = absurd (omega arith)
behind-zeros (s ∷ c ∷ l) n e = omega (arith, behind-zeros l n (omega arith))

-- zeros behind the times add no C
pub work-padded : (times : List ℕ) (n : ℕ) → length times % 2 ≡ 1 → work (parts (padded n times)) ≡ work (parts times)
unfolding padded
work-padded [] n e = absurd (omega arith)
work-padded (c ∷ l) n e = omega (arith, behind-zeros l (n - length (c ∷ l)) (omega arith))

-- what the figures need of a row
pub record Sane (r : Row) : Type 0 where
  pub odd : length r.times % 2 ≡ 1
  pub numbers : all right_number r.times ≡ true
  pub own-some : 1 ≤ own r
  pub own-fits : own r ≤ r.deadline
  pub deadline-fits : r.deadline ≤ r.period
  pub period-some : 1 ≤ r.period

-- a row that keeps the rules of a row has all of these
pub sane : (r : Row) → right_row r ≡ true → Sane r
unfolding right_count
sane r e =
    let odd : length r.times % 2 ≡ 1 = eqb-true (length r.times % 2) 1 (and_parts (row_count r e)).0 in
    record {
      odd = odd;
      numbers = row-times r e;
      own-some = parts-some r.times odd (row-times r e);
      own-fits = omega (arith, parts-sum r.times odd, row-sum r e);
      deadline-fits = row-order r e;
      period-some = (number-range r.period (row-period r e)).0;
    }

-- a right row that does not wait has one time, its C
pub one_time : (r : Row) → right_row r ≡ true → waits r ≡ false → (c : ℕ) × (r.times ≡ c ∷ [])
unfolding waits
one_time r e h = go r.times refl (sane r e).odd (ltb-false 1 (length r.times) h)
  where
    go : (l : List ℕ) → r.times ≡ l → length l % 2 ≡ 1 → length l ≤ 1 → (c : ℕ) × (r.times ≡ c ∷ [])
    go [] z odd le = absurd (omega arith)
    go (c ∷ []) z odd le = (c, z)
    go (c ∷ s ∷ l) z odd le = absurd (omega arith)

-- a right row that waits has two C or more
pub more-times : (r : Row) → right_row r ≡ true → waits r ≡ true → (c s d : ℕ) × (l : List ℕ) × (r.times ≡ c ∷ s ∷ d ∷ l)
unfolding waits
more-times r e h = go r.times refl (sane r e).odd (ltb-true 1 (length r.times) h)
  where
    go : (l : List ℕ) → r.times ≡ l → length l % 2 ≡ 1 → 1 < length l → (c s d : ℕ) × (m : List ℕ) × (r.times ≡ c ∷ s ∷ d ∷ m)
    go [] z odd lt = absurd (omega arith)
    go (c ∷ []) z odd lt = absurd (omega arith)
    go (c ∷ s ∷ []) z odd lt = absurd (omega arith)
    go (c ∷ s ∷ d ∷ m) z odd lt = (c, s, d, m, z)

-- all C are at most all C and S
pub work-total : (l : List Part) → work l ≤ total l
work-total [] = omega arith
work-total (part s c ∷ l) = omega (arith, work-total l)
