-- Rows and tables as values while a text is read: each stays the value of the row, or table, that it stands for.
use Rattle.std.specs.Prelude.{if◌then◌else◌}
use mathlib.Core.Path.{◌≡◌, refl, sym, ap, ◌∙◌}
use mathlib.Core.Bool.{Bool, true, false, not}
use mathlib.Core.List.{List, [], ◌∷◌, ◌++◌, map, map-append}
use Prim.Native.Nat.{ℕ, zero, suc, ◌+◌, ◌-◌, ◌≤◌, ◌<◌}
use native.Mathlib.Omega.{arith}
use native.Mathlib.Nat.{sub-zero, zero-sub, suc-sub-suc}
use native.Mathlib.Decide.{dec_lt}
use native.Mathlib.Numerals.{add-one}
use lib.Dec.{eqb}
use lib.ListN.{length, take, drop, set, replicate, length-append, length-map, length-replicate}
use lib.Seq.{append_snoc, take_at, set_at, take-suc-set}
use borrow.Author.Tests.{eq-eqb, ne_eqb}
use Rattle.words.specs.Lists.{sum, all, up_to, padded}
use Rattle.words.specs.Buffer.{over}
use Rattle.words.proofs.Choice.{and_both}
use Rattle.words.proofs.Lists.{lacks, up_to-padded, all_append, sum-padded}
use Rattle.table.specs.declared.Row.{Row as RowValue}
use Rattle.table.specs.declared.Table.{Table as TableValue}
use Rattle.table.specs.Limits.{most_rows, most_times, longest_name}
use Rattle.table.specs.Paper.{Row, Table, right_name, right_row, named}
use Rattle.table.specs.Value.{row_of, row_value, empty_row, table_of, table_value, name_in}
use Rattle.ticks.specs.Ticks.{ticks, long}
use Rattle.table.proofs.Rules.{ticks-long, named_value}
use Rattle.text.specs.Read.{fixed_fields, with_name, with_number}

-- a value that keeps nothing but its row
abbrev pub Kept : RowValue → Type 0
Kept v = v ≡ row_value (row_of v)

lacks-up_to : (b : ℕ) (xs : List ℕ) → lacks b (up_to b xs) ≡ true
unfolding up_to all
lacks-up_to b [] = refl
lacks-up_to b (x ∷ xs) = go (eqb x b) refl (lacks-up_to b xs)
  where
    go : (t : Bool) → eqb x b ≡ t → lacks b (up_to b xs) ≡ true → lacks b (if t then [] else x ∷ up_to b xs) ≡ true
    go true e h = refl
    go false e h = and_both (ap not e) h

map-set : {A : Type 0} {B : Type 0} (f : A → B) (xs : List A) (i : ℕ) (y : A) → map f (set xs i y) ≡ set (map f xs) i (f y)
map-set f [] i y = refl
map-set f (x ∷ xs) zero y = refl
map-set f (x ∷ xs) (suc i) y = ap (λ l. f x ∷ l) (map-set f xs i y)

-- one number more before the zeros
set-padded : (n : ℕ) (xs : List ℕ) (y : ℕ) → length xs < n → set (padded n xs) (length xs) y ≡ padded n (xs ++ (y ∷ []))
unfolding padded
set-padded n xs y h =
    let k : n - length xs ≡ suc (n - length (xs ++ (y ∷ []))) = omega (arith, length-append xs (y ∷ [])) in
    rw k (set_at xs 0 (replicate (n - length (xs ++ (y ∷ []))) 0) y (length xs) refl ∙ sym (append_snoc xs y (replicate (n - length (xs ++ (y ∷ []))) 0)))

drop-zeros : (k m : ℕ) → drop {A = ℕ} k (replicate m 0) ≡ replicate (m - k) 0
drop-zeros zero m = rw (sub-zero m)
drop-zeros (suc k) zero = rw (zero-sub (suc k))
drop-zeros (suc k) (suc m) = rw (suc-sub-suc m k) (drop-zeros k m)

-- a name put into an array of zeros
pub over_zeros : (m : ℕ) (xs : List ℕ) → over xs (replicate m 0) ≡ padded m xs
unfolding over padded
over_zeros m xs = rw (drop-zeros (length xs) m)

-- the value of a row without zeros stands for it
pub stands : (v : RowValue) (r : Row) → v ≡ row_value r → lacks 0 r.name ≡ true → lacks 0 r.times ≡ true → (row_of v ≡ r) × Kept v
stands v r e n t =
    let p : up_to 0 (padded longest_name r.name) ≡ r.name = up_to-padded longest_name r.name n in
    let q : up_to 0 (map ticks (map long (padded most_times r.times))) ≡ r.times = ap (up_to 0) (ticks-long (padded most_times r.times)) ∙ up_to-padded most_times r.times t in
    let s : row_of v ≡ r = ap row_of e ∙ λ i. record { name = p i; period = r.period; deadline = r.deadline; times = q i } in
    (s, e ∙ ap row_value (sym s))

pub row-lacks : (v : RowValue) → (lacks 0 (row_of v).name ≡ true) × (lacks 0 (row_of v).times ≡ true)
row-lacks v = (lacks-up_to 0 v.name, lacks-up_to 0 (map ticks v.times))

-- a row with one field more

abbrev with_period : Row → ℕ → Row
with_period r v = record { name = r.name; period = v; deadline = r.deadline; times = r.times }

abbrev with_deadline : Row → ℕ → Row
with_deadline r v = record { name = r.name; period = r.period; deadline = v; times = r.times }

abbrev with_time : Row → ℕ → Row
with_time r v = record { name = r.name; period = r.period; deadline = r.deadline; times = r.times ++ (v ∷ []) }

-- what holds of the row whichever the field is
with-any : (P : Row → Type 0) (r : Row) (f v : ℕ) → P (with_period r v) → P (with_deadline r v) → P (with_time r v) → P (with_number r f v)
unfolding with_number
with-any P r f v a b c = go (eqb f 2) (eqb f 3)
  where
    go : (s t : Bool) → P (if s then with_period r v else if t then with_deadline r v else with_time r v)
    go true t = a
    go false true = b
    go false false = c

pub number-lacks : (r : Row) (f v : ℕ) → 1 ≤ v → lacks 0 r.name ≡ true → lacks 0 r.times ≡ true
    → (lacks 0 (with_number r f v).name ≡ true) × (lacks 0 (with_number r f v).times ≡ true)
unfolding all
number-lacks r f v h n t =
    let l : lacks 0 (r.times ++ (v ∷ [])) ≡ true = all_append (λ x. not (eqb x 0)) r.times (v ∷ []) t (and_both (ap not (ne_eqb v 0 (omega arith))) refl) in
    with-any (λ q. (lacks 0 q.name ≡ true) × (lacks 0 q.times ≡ true)) r f v (n, t) (n, t) (n, l)

pub number-times : (r : Row) (f v : ℕ) → 2 ≤ f → length r.times ≡ f - suc fixed_fields → length (with_number r f v).times ≡ f + 1 - suc fixed_fields
unfolding with_number
number-times r f v h e = go (dec_lt f 3) (dec_lt f 4)
  where
    go : Dec (f < 3) → Dec (f < 4) → length (with_number r f v).times ≡ f + 1 - suc fixed_fields
    go (yes a) q = rw (eq-eqb f 2 (omega arith)) (omega arith)
    go (no a) (yes q) = rw (ne_eqb f 2 (omega arith), eq-eqb f 3 (omega arith)) (omega arith)
    go (no a) (no q) = rw (ne_eqb f 2 (omega arith), ne_eqb f 3 (omega arith)) (omega (arith, length-append r.times (v ∷ [])))

module _ (v : RowValue) (n : ℕ) (k : Kept v) where
  pub value-period : (f : ℕ) → f ≡ 2 → record { name = v.name; period = long n; deadline = v.deadline; times = v.times } ≡ row_value (with_number (row_of v) f n)
  unfolding with_number
  value-period f e = rw (eq-eqb f 2 e) (λ i. record { name = (k i).name; period = long n; deadline = v.deadline; times = (k i).times })

  pub value-deadline : (f : ℕ) → f ≡ 3 → record { name = v.name; period = v.period; deadline = long n; times = v.times } ≡ row_value (with_number (row_of v) f n)
  unfolding with_number
  value-deadline f e = rw (ne_eqb f 2 (omega arith), eq-eqb f 3 e) (λ i. record { name = (k i).name; period = v.period; deadline = long n; times = (k i).times })

  pub value-time : (f i : ℕ) → (f ≡ 2 → ⊥) → (f ≡ 3 → ⊥) → i ≡ length (row_of v).times → i < most_times
      → record { name = v.name; period = v.period; deadline = v.deadline; times = set v.times i (long n) } ≡ row_value (with_number (row_of v) f n)
  unfolding with_number
  value-time f i a b e h =
      let us = (row_of v).times in
      let t : set v.times i (long n) ≡ map long (padded most_times (us ++ (n ∷ []))) =
      rw e (ap (λ (w : RowValue). set w.times (length us) (long n)) k
      ∙ sym (map-set long (padded most_times us) (length us) n)
      ∙ ap (map long) (set-padded most_times us n (omega arith))) in
      rw (ne_eqb f 2 a, ne_eqb f 3 b) (λ i. record { name = (k i).name; period = v.period; deadline = v.deadline; times = t i })

pub value-name : (v : RowValue) (x : List ℕ) → Kept v
    → record { name = padded longest_name x; period = v.period; deadline = v.deadline; times = v.times } ≡ row_value (with_name (row_of v) x)
value-name v x k = λ i. record { name = padded longest_name x; period = v.period; deadline = v.deadline; times = (k i).times }

-- the sum of all times, unused ones too
pub times-sum : (v : RowValue) → Kept v → sum (map ticks v.times) ≡ sum (row_of v).times
times-sum v k =
    ap (λ (w : RowValue). sum (map ticks w.times)) k
    ∙ ap sum (ticks-long (padded most_times (row_of v).times))
    ∙ sum-padded most_times (row_of v).times

-- a table's length, and that of its rows

module _ (v : TableValue) (k : v ≡ table_value (table_of v)) where
  pub table-length : v.len ≡ length (table_of v)
  unfolding table_value
  table-length = ap (λ (w : TableValue). w.len) k

  table-rows : v.rows ≡ map row_value (table_of v) ++ replicate (most_rows - length (table_of v)) empty_row
  unfolding table_value
  table-rows = ap (λ (w : TableValue). w.rows) k

  pub rows-sized : v.len ≤ most_rows → length v.rows ≡ most_rows
  rows-sized h =
      let t = table_of v in
      let rest = replicate (most_rows - length t) empty_row in
      ap length table-rows ∙ omega (arith, table-length, length-append (map row_value t) rest, length-map t row_value, length-replicate (most_rows - length t) empty_row)

  -- the rows in use, as values
  rows-used : take v.len v.rows ≡ map row_value (table_of v)
  rows-used =
      let t = table_of v in
      let n : v.len ≡ length (map row_value t) = table-length ∙ sym (length-map t row_value) in
      ap (λ (rs : List RowValue). take v.len rs) table-rows ∙ take_at (map row_value t) _ v.len (sym n)

-- a table with one row more

abbrev pub and_row : TableValue → RowValue → TableValue
and_row v w = record { rows = set v.rows v.len w; len = v.len + 1 }

pub table-next : (v : TableValue) (w : RowValue) → v.len < length v.rows → table_of (and_row v w) ≡ table_of v ++ (row_of w ∷ [])
unfolding table_of
table-next v w h = rw (add-one, take-suc-set v.rows v.len w h) (map-append row_of (take v.len v.rows) (w ∷ []))

-- one row more before those that are not used
rows_next : (t : Table) (w : RowValue) → Kept w → length t < most_rows
    → set (map row_value t ++ replicate (most_rows - length t) empty_row) (length t) w
    ≡ map row_value (t ++ (row_of w ∷ [])) ++ replicate (most_rows - length (t ++ (row_of w ∷ []))) empty_row
rows_next t w k h =
    let m = most_rows - length (t ++ (row_of w ∷ [])) in
    let s : most_rows - length t ≡ suc m = omega (arith, length-append t (row_of w ∷ [])) in
    rw s
    (set_at (map row_value t) empty_row (replicate m empty_row) w (length t) (length-map t row_value)
    ∙ ap (λ (q : RowValue). map row_value t ++ q ∷ replicate m empty_row) k
    ∙ sym (append_snoc (map row_value t) (row_value (row_of w)) (replicate m empty_row))
    ∙ ap (λ (qs : List RowValue). qs ++ replicate m empty_row) (sym (map-append row_value t (row_of w ∷ []))))

pub table_kept : (v : TableValue) (w : RowValue) → v ≡ table_value (table_of v) → Kept w → v.len < most_rows → v.len < length v.rows
    → and_row v w ≡ table_value (table_of (and_row v w))
unfolding table_value
table_kept v w k j h l =
    let t = table_of v in
    let n = table-length v k in
    let p : set v.rows v.len w ≡ map row_value (t ++ (row_of w ∷ [])) ++ replicate (most_rows - length (t ++ (row_of w ∷ []))) empty_row =
    ap (λ (rs : List RowValue). set rs v.len w) (table-rows v k)
    ∙ ap (λ (i : ℕ). set (map row_value t ++ replicate (most_rows - length t) empty_row) i w) n
    ∙ rows_next t w j (omega arith) in
    let q : v.len + 1 ≡ length (t ++ (row_of w ∷ [])) = omega (arith, n, length-append t (row_of w ∷ [])) in
    rw (table-next v w l) (λ i. record { rows = p i; len = q i })

-- a name among those of the rows, with and without the zeros
pub name-known : (v : TableValue) (w : RowValue) → v ≡ table_value (table_of v) → all right_row (table_of v) ≡ true → Kept w → right_name (row_of w).name ≡ true
    → name_in w.name (take v.len v.rows) ≡ named (row_of w).name (table_of v)
name-known v w k r j n =
    ap (λ (q : RowValue). name_in q.name (take v.len v.rows)) j
    ∙ ap (name_in (padded longest_name (row_of w).name)) (rows-used v k)
    ∙ named_value (row_of w).name (table_of v) n r
