-- The case laws of reading: for each refusal, and for each step on, what the code's tests give.
use mathlib.Core.Path.{◌≡◌, refl}
use mathlib.Core.Bool.{true, false}
use mathlib.Core.List.{List, [], ◌∷◌, ◌++◌}
use Prim.Native.Nat.{ℕ, ◌+◌, ◌-◌, ◌≤◌, ◌<◌}
use lib.Dec.{ltb}
use lib.ListN.{length, get_or}
use borrow.Author.Tests.{eq-eqb, ne_eqb, lt-ltb, le-ltb}
use Rattle.words.specs.Lists.{sum, any}
use Rattle.decimal.specs.Decimal.{read_number}
use Rattle.std.specs.Prelude.{Some, None}
use Rattle.table.specs.Limits.{most_rows, largest_number, longest_text}
use Rattle.table.specs.Paper.{Row, Table, right_name, waits, named}
use Rattle.refusals.specs.declared.Refusal.{Refusal}
use Rattle.refusals.specs.declared.Refusal.TheVariants.{NoText, LongText, NoLineFeed, ManyLines, AfterWaiting, FieldCount, BadName, BadNumber, LateDeadline, LongTimes, NameTaken}
use Rattle.fields.specs.Fields.{line_feed}
use Rattle.text.specs.Split.{lines, fields}
use Rattle.text.specs.Read.{accepted, refused, got, bad, right_fields, no_row, with_name, with_number, read_fields, check_row, read_line, read_lines, read_text}

-- the fields of line n from field f on, where r is the row so far
module _ (n f : ℕ) (r : Row) where
  pub fields-over : read_fields n f r [] ≡ got r
  unfolding read_fields
  fields-over = refl

  module _ (x : List ℕ) (xs : List (List ℕ)) where
    pub bad-name : f ≡ 1 → right_name x ≡ false → read_fields n f r (x ∷ xs) ≡ bad (BadName n)
    unfolding read_fields
    bad-name h e = rw (eq-eqb f 1 h, e)

    pub next-name : f ≡ 1 → right_name x ≡ true → read_fields n f r (x ∷ xs) ≡ read_fields n (f + 1) (with_name r x) xs
    unfolding read_fields
    next-name h e = rw (eq-eqb f 1 h, e)

    pub bad-number : (f ≡ 1 → ⊥) → read_number 1 largest_number x ≡ None → read_fields n f r (x ∷ xs) ≡ bad (BadNumber n f)
    unfolding read_fields
    bad-number h e = rw (ne_eqb f 1 h, e)

    pub next-number : (v : ℕ) → (f ≡ 1 → ⊥) → read_number 1 largest_number x ≡ Some v → read_fields n f r (x ∷ xs) ≡ read_fields n (f + 1) (with_number r f v) xs
    unfolding read_fields
    next-number v h e = rw (ne_eqb f 1 h, e)

-- the row of line n, below the rows above it
module _ (n : ℕ) (above : Table) (r : Row) where
  pub late-deadline : r.period < r.deadline → check_row n above r ≡ bad (LateDeadline n)
  unfolding check_row
  late-deadline h = rw (lt-ltb r.period r.deadline h)

  pub long-times : r.deadline ≤ r.period → ltb r.deadline (sum r.times) ≡ true → check_row n above r ≡ bad (LongTimes n)
  unfolding check_row
  long-times h e = rw (le-ltb r.period r.deadline h, e)

  pub name-taken : r.deadline ≤ r.period → ltb r.deadline (sum r.times) ≡ false → named r.name above ≡ true → check_row n above r ≡ bad (NameTaken n)
  unfolding check_row
  name-taken h e q = rw (le-ltb r.period r.deadline h, e, q)

  pub row-checked : r.deadline ≤ r.period → ltb r.deadline (sum r.times) ≡ false → named r.name above ≡ false → check_row n above r ≡ got r
  unfolding check_row
  row-checked h e q = rw (le-ltb r.period r.deadline h, e, q)

-- line n, below the rows above it
module _ (n : ℕ) (above : Table) (l : List ℕ) where
  pub after-waiting : any waits above ≡ true → read_line n above l ≡ bad (AfterWaiting n)
  unfolding read_line
  after-waiting e = rw e

  pub field-count : any waits above ≡ false → right_fields (length (fields l)) ≡ false → read_line n above l ≡ bad (FieldCount n)
  unfolding read_line
  field-count e k = rw (e, k)

  pub bad-field : any waits above ≡ false → right_fields (length (fields l)) ≡ true → (x : Refusal) → read_fields n 1 no_row (fields l) ≡ bad x → read_line n above l ≡ bad x
  unfolding read_line
  bad-field e k x q = rw (e, k, q)

  pub row_read : any waits above ≡ false → right_fields (length (fields l)) ≡ true → (r : Row) → read_fields n 1 no_row (fields l) ≡ got r → read_line n above l ≡ check_row n above r
  unfolding read_line
  row_read e k r q = rw (e, k, q)

-- the lines below the rows above them
pub lines-over : (above : Table) → read_lines above [] ≡ accepted above
unfolding read_lines
lines-over above = refl

module _ (above : Table) (l : List ℕ) (ls : List (List ℕ)) where
  pub many-lines : length above ≡ most_rows → read_lines above (l ∷ ls) ≡ refused (ManyLines (length above + 1))
  unfolding read_lines
  many-lines h = rw (eq-eqb (length above) most_rows h)

  pub bad-line : (length above ≡ most_rows → ⊥) → (x : Refusal) → read_line (length above + 1) above l ≡ bad x → read_lines above (l ∷ ls) ≡ refused x
  unfolding read_lines
  bad-line h x e = rw (ne_eqb (length above) most_rows h, e)

  pub next-line : (length above ≡ most_rows → ⊥) → (r : Row) → read_line (length above + 1) above l ≡ got r → read_lines above (l ∷ ls) ≡ read_lines (above ++ (r ∷ [])) ls
  unfolding read_lines
  next-line h r e = rw (ne_eqb (length above) most_rows h, e)

-- the whole text
module _ (s : List ℕ) where
  pub no_text : length s ≡ 0 → read_text s ≡ refused NoText
  unfolding read_text
  no_text h = rw (eq-eqb (length s) 0 h)

  pub long-text : (length s ≡ 0 → ⊥) → longest_text < length s → read_text s ≡ refused LongText
  unfolding read_text
  long-text h k = rw (ne_eqb (length s) 0 h, lt-ltb longest_text (length s) k)

  pub no-line-feed : (length s ≡ 0 → ⊥) → length s ≤ longest_text → (get_or s (length s - 1) 0 ≡ line_feed → ⊥) → read_text s ≡ refused NoLineFeed
  unfolding read_text
  no-line-feed h k e = rw (ne_eqb (length s) 0 h, le-ltb longest_text (length s) k, ne_eqb (get_or s (length s - 1) 0) line_feed e)

  pub text-lines : (length s ≡ 0 → ⊥) → length s ≤ longest_text → get_or s (length s - 1) 0 ≡ line_feed → read_text s ≡ read_lines [] (lines s)
  unfolding read_text
  text-lines h k e = rw (ne_eqb (length s) 0 h, le-ltb longest_text (length s) k, eq-eqb (get_or s (length s - 1) 0) line_feed e)
