-- What the rules say of a row on paper; and a well-formed value is the value of exactly one right table on paper.
use mathlib.Core.Path.{◌≡◌, refl, sym, ap, ◌∙◌}
use mathlib.Core.Bool.{Bool, true, not, false≢true}
use mathlib.Core.List.{List, [], ◌∷◌, ◌++◌, map}
use Prim.Native.Nat.{ℕ, zero, suc, ◌-◌, ◌≤◌}
use native.Mathlib.Omega.{arith}
use lib.Dec.{eqb}
use lib.ListN.{length, replicate, length-map}
use lib.Seq.{take-append_seam}
use borrow.Author.Tests.{eqb-true, eq-eqb, ne_eqb, leb-true}
use Rattle.ticks.specs.declared.Length.{Length}
use Rattle.words.specs.Choice.{◌and◌, ◌or◌}
use Rattle.words.specs.Lists.{sum, all, any, same, up_to, padded}
use Rattle.words.proofs.Choice.{and_parts, and_both, tests_same}
use Rattle.words.proofs.Lists.{lacks, same-eq, same_refl, eq-same, up_to-padded}
use Rattle.table.specs.declared.Row.{Row as RowValue}
use Rattle.table.specs.declared.Table.{Table as TableValue}
use Rattle.table.specs.Limits.{most_rows, most_times, longest_name, largest_number}
use Rattle.table.specs.Paper.{Row, Table, name_byte, right_name, right_number, right_count, right_row, named, right_rows, right_table}
use Rattle.table.specs.Value.{row_of, table_of, row_value, empty_row, table_value, name_in, same_row, same_rows, well_formed}
use Rattle.ticks.specs.Ticks.{ticks, long}

-- a row on paper, and what its rules say

pub row-name : (r : Row) → right_row r ≡ true → right_name r.name ≡ true
unfolding right_row
row-name r e = (and_parts e).0

pub row-period : (r : Row) → right_row r ≡ true → right_number r.period ≡ true
unfolding right_row
row-period r e = (and_parts (and_parts e).1).0

pub row-deadline : (r : Row) → right_row r ≡ true → right_number r.deadline ≡ true
unfolding right_row
row-deadline r e = (and_parts (and_parts (and_parts e).1).1).0

pub row_count : (r : Row) → right_row r ≡ true → right_count (length r.times) ≡ true
unfolding right_row
row_count r e = (and_parts (and_parts (and_parts (and_parts e).1).1).1).0

pub row-times : (r : Row) → right_row r ≡ true → all right_number r.times ≡ true
unfolding right_row
row-times r e = (and_parts (and_parts (and_parts (and_parts (and_parts e).1).1).1).1).0

pub row-order : (r : Row) → right_row r ≡ true → r.deadline ≤ r.period
unfolding right_row
row-order r e = leb-true _ _ (and_parts (and_parts (and_parts (and_parts (and_parts (and_parts e).1).1).1).1).1).0

pub row-sum : (r : Row) → right_row r ≡ true → sum r.times ≤ r.deadline
unfolding right_row
row-sum r e = leb-true _ _ (and_parts (and_parts (and_parts (and_parts (and_parts (and_parts e).1).1).1).1).1).1

pub number-range : (n : ℕ) → right_number n ≡ true → (1 ≤ n) × (n ≤ largest_number)
unfolding right_number
number-range n e = (leb-true 1 n (and_parts e).0, leb-true n largest_number (and_parts e).1)

pub name-length : (bs : List ℕ) → right_name bs ≡ true → (1 ≤ length bs) × (length bs ≤ longest_name)
unfolding right_name
name-length bs e = (leb-true 1 _ (and_parts e).0, leb-true _ longest_name (and_parts (and_parts e).1).0)

pub count_most : (n : ℕ) → right_count n ≡ true → n ≤ most_times
unfolding right_count
count_most n e = leb-true n most_times (and_parts e).1

-- no zero stands in a name or among the times
byte-not-zero : (b : ℕ) → name_byte b ≡ true → not (eqb b 0) ≡ true
unfolding name_byte ◌and◌ ◌or◌
byte-not-zero zero e = absurd (false≢true e)
byte-not-zero (suc b) e = ap not (ne_eqb (suc b) 0 (omega arith))

number-not-zero : (n : ℕ) → right_number n ≡ true → not (eqb n 0) ≡ true
number-not-zero n e = ap not (ne_eqb n 0 (omega (arith, (number-range n e).0)))

all_weaker : (p q : ℕ → Bool) → ((x : ℕ) → p x ≡ true → q x ≡ true) → (xs : List ℕ) → all p xs ≡ true → all q xs ≡ true
unfolding all
all_weaker p q f [] e = refl
all_weaker p q f (x ∷ xs) e = and_both (f x (and_parts e).0) (all_weaker p q f xs (and_parts e).1)

pub name-lacks : (bs : List ℕ) → right_name bs ≡ true → lacks 0 bs ≡ true
unfolding right_name
name-lacks bs e = all_weaker name_byte (λ x. not (eqb x 0)) byte-not-zero bs (and_parts (and_parts e).1).1

pub times-lack : (ts : List ℕ) → all right_number ts ≡ true → lacks 0 ts ≡ true
times-lack ts e = all_weaker right_number (λ x. not (eqb x 0)) number-not-zero ts e

-- a row's value, there and back

pub ticks-long : (ts : List ℕ) → map ticks (map long ts) ≡ ts
ticks-long [] = refl
ticks-long (t ∷ ts) = ap (λ (l : List ℕ). t ∷ l) (ticks-long ts)

pub long-ticks : (ts : List Length) → map long (map ticks ts) ≡ ts
long-ticks [] = refl
long-ticks (t ∷ ts) = ap (λ (l : List Length). t ∷ l) (long-ticks ts)

-- the value of a row stands for it
pub row_back : (r : Row) → right_row r ≡ true → row_of (row_value r) ≡ r
row_back r e =
    let p : up_to 0 (padded longest_name r.name) ≡ r.name = up_to-padded longest_name r.name (name-lacks _ (row-name r e)) in
    let q : up_to 0 (map ticks (map long (padded most_times r.times))) ≡ r.times
    = ap (up_to 0) (ticks-long (padded most_times r.times)) ∙ up_to-padded most_times r.times (times-lack _ (row-times r e)) in
    λ i. record { name = p i; period = r.period; deadline = r.deadline; times = q i }

-- rows on paper and their values, row by row

-- the values of rows on paper
abbrev pub values : Table → List RowValue
values t = map row_value t

names_same : (a b : List ℕ) → right_name a ≡ true → right_name b ≡ true → same (padded longest_name a) (padded longest_name b) ≡ same a b
names_same a b p q =
    tests_same _ _
    (λ e. eq-same a b (sym (up_to-padded longest_name a (name-lacks a p)) ∙ ap (up_to 0) (same-eq _ _ e) ∙ up_to-padded longest_name b (name-lacks b q)))
    (λ e. eq-same _ _ (ap (padded longest_name) (same-eq a b e)))

-- a name among values is a name among rows
pub named_value : (x : List ℕ) (t : Table) → right_name x ≡ true → all right_row t ≡ true → name_in (padded longest_name x) (values t) ≡ named x t
unfolding name_in named any all
named_value x [] p e = refl
named_value x (r ∷ t) p e =
    let h = names_same x r.name p (row-name r (and_parts e).0) in
    let k = named_value x t p (and_parts e).1 in
    ap (λ (b : Bool). b or any (λ (v : RowValue). same (padded longest_name x) v.name) (values t)) h ∙ ap (λ (b : Bool). same x r.name or b) k

pub rows_right : (above t : Table) → right_rows above t ≡ true → all right_row t ≡ true
unfolding right_rows all
rows_right above [] e = refl
rows_right above (r ∷ t) e =
    let a = and_parts (and_parts e).1 in
    and_both a.0 (rows_right (above ++ (r ∷ [])) t (and_parts a.1).1)

-- equality of values as a test

same_row-equal : (v w : RowValue) → same_row v w ≡ true → v ≡ w
unfolding same_row
same_row-equal v w e =
    let a = and_parts e in
    let b = and_parts a.1 in
    let d = and_parts b.1 in
    let p : v.name ≡ w.name = same-eq _ _ a.0 in
    let q : v.period.0 ≡ w.period.0 = eqb-true v.period.0 w.period.0 b.0 in
    let r : v.deadline.0 ≡ w.deadline.0 = eqb-true v.deadline.0 w.deadline.0 d.0 in
    let s : v.times ≡ w.times = sym (long-ticks v.times) ∙ ap (map long) (same-eq _ _ d.1) ∙ long-ticks w.times in
    λ i. record { name = p i; period = long (q i); deadline = long (r i); times = s i }

same-rows : (vs ws : List RowValue) → same_rows vs ws ≡ true → vs ≡ ws
unfolding same_rows
same-rows [] [] e = refl
same-rows [] (w ∷ ws) e = absurd (false≢true e)
same-rows (v ∷ vs) [] e = absurd (false≢true e)
same-rows (v ∷ vs) (w ∷ ws) e =
    ap (λ (x : RowValue). x ∷ vs) (same_row-equal v w (and_parts e).0) ∙ ap (λ (l : List RowValue). w ∷ l) (same-rows vs ws (and_parts e).1)

rows_refl : (vs : List RowValue) → same_rows vs vs ≡ true
unfolding same_rows same_row
rows_refl [] = refl
rows_refl (v ∷ vs) =
    and_both (and_both (same_refl v.name)
    (and_both (eq-eqb v.period.0 _ refl) (and_both (eq-eqb v.deadline.0 _ refl) (same_refl (map ticks v.times))))) (rows_refl vs)

-- A WELL-FORMED VALUE IS THE VALUE OF THE TABLE THAT IT STANDS FOR, and that is a right table
pub value-forth : (v : TableValue) → well_formed v ≡ true → (v ≡ table_value (table_of v)) × (right_table (table_of v) ≡ true)
unfolding well_formed
value-forth v e =
    let a = and_parts e in
    let b = and_parts a.1 in
    let l : v.len ≡ (table_value (table_of v)).len = eqb-true _ _ a.0 in
    let r : v.rows ≡ (table_value (table_of v)).rows = same-rows _ _ b.0 in
    ((λ i. record { rows = r i; len = l i }), b.1)

pub table-rows : (t : Table) → right_table t ≡ true → right_rows [] t ≡ true
unfolding right_table
table-rows t e = (and_parts (and_parts e).1).1

pub table-size : (t : Table) → right_table t ≡ true → (1 ≤ length t) × (length t ≤ most_rows)
unfolding right_table
table-size t e = (leb-true 1 (length t) (and_parts e).0, leb-true (length t) most_rows (and_parts (and_parts e).1).0)

pub table-right : (t : Table) → right_table t ≡ true → all right_row t ≡ true
table-right t e = rows_right [] t (table-rows t e)

-- THE VALUE OF A RIGHT TABLE STANDS FOR IT: no other table has that value
pub value-back : (t : Table) → all right_row t ≡ true → table_of (table_value t) ≡ t
unfolding table_of table_value all
value-back t e = rw (← length-map t row_value, take-append_seam (values t) (replicate (most_rows - length (values t)) empty_row)) (each t e)
  where
    each : (t : Table) → all right_row t ≡ true → map row_of (values t) ≡ t
    each [] e = refl
    each (r ∷ t) e = ap (λ (q : Row). q ∷ map row_of (values t)) (row_back r (and_parts e).0) ∙ ap (λ (l : Table). r ∷ l) (each t (and_parts e).1)

-- and is well-formed
pub value-right : (t : Table) → right_table t ≡ true → well_formed (table_value t) ≡ true
unfolding well_formed
value-right t e =
    let b = value-back t (table-right t e) in
    rw b (and_both (eq-eqb (table_value t).len _ refl) (and_both (rows_refl (table_value t).rows) e))
