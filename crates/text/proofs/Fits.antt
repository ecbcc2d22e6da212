-- The text of a right table is no longer than a text may be (`text-fits`): the line's bound comes from the limits.
use mathlib.Core.Path.{◌≡◌, refl, ap}
use mathlib.Core.Bool.{true}
use mathlib.Core.List.{List, [], ◌∷◌, map}
use Prim.Native.Nat.{ℕ, suc, ◌+◌, ◌*◌, ◌≤◌}
use native.Mathlib.Omega.{arith}
use native.Mathlib.Nat.{mul-le-mul_right}
use lib.ListN.{length}
use Rattle.words.specs.Lists.{all}
use Rattle.words.proofs.Choice.{and_parts}
use Rattle.words.proofs.Lists.{all-each}
use Rattle.decimal.specs.Decimal.{digits, last_digits}
use Rattle.decimal.proofs.Digits.{length-grows}
use Rattle.fields.specs.Fields.{fields_text}
use Rattle.fields.proofs.Lines.{fields-none, fields-length, line-length, lines-length}
use Rattle.table.specs.Limits.{most_rows, most_times, longest_name, largest_number, longest_text}
use Rattle.table.specs.Paper.{Row, Table, row_at, right_number, right_row, right_table}
use Rattle.table.proofs.Rules.{row-name, row_count, number-range, name-length, count_most, table-size, table-right}
use Rattle.text.specs.Write.{line_text, table_text}
use Rattle.text.proofs.Lines.{numbers_of, row-numbers, table-lines}

-- a tab and a number
unfoldable pub longest_field : ℕ
longest_field = suc (length (digits largest_number))

-- a name, T, D and all times, and the line feed
unfoldable pub longest_line : ℕ
longest_line = longest_name + (most_times + 2) * longest_field + 1

-- THE LIMIT ON A TEXT is that of its lines together
pub limits-agree : most_rows * longest_line ≡ longest_text
unfolding longest_line longest_field digits last_digits
limits-agree = refl

numbers-length : (ns : List ℕ) → all right_number ns ≡ true → length (fields_text (map digits ns)) ≤ length ns * longest_field
unfolding all longest_field
numbers-length [] e = omega (arith, fields-none)
numbers-length (n ∷ ns) e =
    let p = and_parts e in
    omega (arith, fields-length (digits n) (map digits ns), length-grows largest_number n (number-range n p.0).1, numbers-length ns p.1)

-- A RIGHT ROW'S LINE IS NO LONGER THAN A LINE MAY BE
pub line-fits : (r : Row) → right_row r ≡ true → length (line_text r) ≤ longest_line
unfolding line_text longest_line
line-fits r e =
    let m : length (numbers_of r) ≤ most_times + 2 = omega (arith, count_most (length r.times) (row_count r e)) in
    omega (arith, line-length r.name (map digits (numbers_of r)), (name-length r.name (row-name r e)).1, numbers-length (numbers_of r) (row-numbers r e), mul-le-mul_right longest_field m)

-- THE TEXT OF A RIGHT TABLE IS NO LONGER THAN A TEXT MAY BE
pub text-fits : (t : Table) → right_table t ≡ true → length (table_text t) ≤ longest_text
text-fits t e =
    let rules = all-each right_row t (table-right t e) in
    omega (
      arith,
      ap length (table-lines t),
      lines-length (λ k. line_text (row_at t k)) longest_line (length t) (λ k lt. line-fits (row_at t k) (rules k _ lt)),
      mul-le-mul_right longest_line (table-size t e).1,
      limits-agree,
    )
