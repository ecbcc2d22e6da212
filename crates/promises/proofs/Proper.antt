-- What a right table has: each row keeps the rules of a row, and each row but the last has one C.
use mathlib.Core.Path.{◌≡◌, ap}
use mathlib.Core.Bool.{Bool, true, false}
use mathlib.Core.List.{List, [], ◌∷◌, ◌++◌}
use Prim.Native.Nat.{ℕ, zero, suc, ◌≤◌, ◌<◌}
use native.Mathlib.Omega.{arith}
use lib.ListN.{length}
use borrow.Author.Tests.{not-true}
use Rattle.words.specs.Lists.{all, any}
use Rattle.words.proofs.Choice.{and_parts, or_parts}
use Rattle.table.specs.Paper.{Row, Table, row_at, part, behind, parts, total, right_number, right_row, waits, right_rows, right_table}
use Rattle.table.proofs.Rules.{number-range}
use Rattle.recurrence.proofs.Rows.{sane, one_time}
use Rattle.promises.proofs.Finish.{Positive}

-- what the promises need of a table
pub record Proper (t : Table) : Type 0 where
  pub rules : (i : ℕ) → i < length t → right_row (row_at t i) ≡ true
  pub plain : (i : ℕ) → suc i < length t → waits (row_at t i) ≡ false

any_last : {A : Type 0} (test : A → Bool) (xs : List A) (x : A) → any test (xs ++ (x ∷ [])) ≡ false → test x ≡ false
unfolding any
any_last test [] x e = (or_parts e).0
any_last test (y ∷ xs) x e = any_last test xs x (or_parts e).1

-- what the rules of rows say of the rows behind the first
next-rows : (above : Table) (r : Row) (t : Table) → right_rows above (r ∷ t) ≡ true → right_rows (above ++ (r ∷ [])) t ≡ true
unfolding right_rows
next-rows above r t e = (and_parts (and_parts (and_parts e).1).1).1

rules-below : (above t : Table) → right_rows above t ≡ true → (i : ℕ) → i < length t → right_row (row_at t i) ≡ true
unfolding right_rows
rules-below above [] e i h = absurd (omega arith)
rules-below above (r ∷ t) e zero h = (and_parts (and_parts e).1).0
rules-below above (r ∷ t) e (suc i) h = rules-below (above ++ (r ∷ [])) t (next-rows above r t e) i (omega arith)

plain-below : (above t : Table) → right_rows above t ≡ true → (i : ℕ) → suc i < length t → waits (row_at t i) ≡ false
unfolding right_rows
plain-below above [] e i h = absurd (omega arith)
plain-below above (r ∷ []) e i h = absurd (omega arith)
plain-below above (r ∷ b ∷ t) e zero h =
    any_last waits above r (not-true (any waits (above ++ (r ∷ []))) (and_parts (next-rows above r (b ∷ t) e)).0)
plain-below above (r ∷ b ∷ t) e (suc i) h = plain-below (above ++ (r ∷ [])) (b ∷ t) (next-rows above r (b ∷ t) e) i (omega arith)

-- a table that keeps all rules has both
pub proper : (t : Table) → right_table t ≡ true → Proper t
unfolding right_table
proper t e =
    let rows = (and_parts (and_parts e).1).1 in
    record { rules = rules-below [] t rows; plain = plain-below [] t rows }

positive-behind : (l : List ℕ) → all right_number l ≡ true → Positive (behind l)
unfolding all
positive-behind [] e = tt
positive-behind (s ∷ []) e = tt
positive-behind (s ∷ c ∷ l) e =
    let rest = and_parts (and_parts e).1 in
    ((number-range c rest.0).0, positive-behind l rest.1)

positive-parts : (times : List ℕ) → all right_number times ≡ true → Positive (parts times)
unfolding all
positive-parts [] e = tt
positive-parts (c ∷ l) e = ((number-range c (and_parts e).0).0, positive-behind l (and_parts e).1)

-- each stretch of a right row takes 1 tick or more
pub positive : (r : Row) → right_row r ≡ true → Positive (parts r.times)
positive r e = positive-parts r.times (sane r e).numbers

-- a row of one C
pub record Single (r : Row) : Type 0 where
  pub C : ℕ
  pub alone : parts r.times ≡ part 0 C ∷ []
  pub C-some : 1 ≤ C
  pub T-some : 1 ≤ r.period

-- a right row that does not wait is one
pub single : (r : Row) → right_row r ≡ true → waits r ≡ false → Single r
single r e h =
    let z = one_time r e h in
    record {
      C = z.0;
      alone = ap parts z.1;
      C-some = omega (arith, (sane r e).own-some, ap (λ l. total (parts l)) z.1);
      T-some = (sane r e).period-some;
    }
