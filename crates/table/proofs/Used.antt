-- A well-formed table value, row by row: the rows in use stand for the rows on paper, in order.
use mathlib.Core.Path.{◌≡◌, refl, ap, ◌∙◌}
use mathlib.Core.Bool.{true}
use mathlib.Core.List.{List, [], ◌∷◌, ◌++◌, map}
use Prim.Native.Nat.{ℕ, zero, suc, ◌-◌, ◌≤◌, ◌<◌}
use native.Mathlib.Omega.{arith}
use lib.ListN.{length, get_or, replicate, length-map, length-append, length-replicate}
use Rattle.words.specs.Lists.{all, up_to}
use Rattle.words.proofs.Choice.{and_parts}
use Rattle.words.proofs.Lists.{all-each}
use Rattle.table.specs.Limits.{most_rows}
use Rattle.table.specs.Paper.{Table, row_at, right_row}
use Rattle.table.specs.Value.{no_value, row_of, row_value, empty_row, table_of, table_value, well_formed}
use Rattle.table.specs.declared.Row.{Row as RowValue}
use Rattle.table.specs.declared.Table.{Table as TableValue}
use Rattle.table.proofs.Rules.{row_back, value-forth, table-right, table-size}

-- in use or not, a row of a table's value stands for the row on paper
row-there : (t : Table) (m : ℕ) → all right_row t ≡ true → (i : ℕ) → row_of (get_or (map row_value t ++ replicate m empty_row) i no_value) ≡ row_at t i
unfolding up_to all
row-there [] zero e i = refl
row-there [] (suc m) e zero = refl
row-there [] (suc m) e (suc i) = row-there [] m e i
row-there (r ∷ t) m e zero = row_back r (and_parts e).0
row-there (r ∷ t) m e (suc i) = row-there t m (and_parts e).1 i

value_there : (t : Table) (m i : ℕ) → i < length t → get_or (map row_value t ++ replicate m empty_row) i no_value ≡ row_value (row_at t i)
value_there [] m i h = absurd (omega arith)
value_there (r ∷ t) m zero h = refl
value_there (r ∷ t) m (suc i) h = value_there t m i (omega arith)

module _ (v : TableValue) (ok : well_formed v ≡ true) where
  rows_are : v.rows ≡ map row_value (table_of v) ++ replicate (most_rows - length (table_of v)) empty_row
  unfolding table_value
  rows_are = ap (λ (w : TableValue). w.rows) (value-forth v ok).0

  -- the row that the value at a place stands for
  pub row_is : (i : ℕ) → row_of (get_or v.rows i no_value) ≡ row_at (table_of v) i
  row_is i =
      ap (λ (l : List RowValue). row_of (get_or l i no_value)) rows_are
      ∙ row-there (table_of v) (most_rows - length (table_of v)) (table-right (table_of v) (value-forth v ok).1) i

  -- the count is right
  pub len_is : v.len ≡ length (table_of v)
  unfolding table_value
  len_is = ap (λ (w : TableValue). w.len) (value-forth v ok).0

  pub len-most : v.len ≤ most_rows
  len-most = omega (arith, len_is, (table-size (table_of v) (value-forth v ok).1).1)

  -- 16 rows, used or not
  pub rows-length : length v.rows ≡ most_rows
  rows-length =
      let n = length (table_of v) in
      let a : length (map row_value (table_of v)) ≡ n = length-map (table_of v) row_value in
      let b : length (replicate (most_rows - n) empty_row) ≡ most_rows - n = length-replicate (most_rows - n) empty_row in
      ap length rows_are ∙ length-append (map row_value (table_of v)) (replicate (most_rows - n) empty_row) ∙ omega (arith, len_is, len-most)

  -- a row in use is the value of the row on paper, which is right
  pub value-is : (i : ℕ) → i < v.len → get_or v.rows i no_value ≡ row_value (row_at (table_of v) i)
  value-is i h = ap (λ (l : List RowValue). get_or l i no_value) rows_are ∙ value_there (table_of v) (most_rows - length (table_of v)) i (omega (arith, len_is))

  pub row-right : (i : ℕ) → i < v.len → right_row (row_at (table_of v) i) ≡ true
  row-right i h = all-each right_row (table_of v) (table-right (table_of v) (value-forth v ok).1) i _ (omega (arith, len_is))
