-- The text of a table, line by line and field by field.
use mathlib.Core.Path.{◌≡◌, refl, sym, ap, ◌∙◌}
use mathlib.Core.Bool.{true, false, not}
use mathlib.Core.List.{List, [], ◌∷◌, ◌++◌, map}
use Prim.Native.Nat.{ℕ, ◌≤◌}
use lib.Dec.{eqb}
use lib.ListN.{length, drop}
use borrow.Author.Tests.{le-leb}
use Rattle.words.specs.Choice.{◌and◌, ◌or◌}
use Rattle.words.specs.Lists.{sum, all, below}
use Rattle.words.proofs.Choice.{and_parts, and_both}
use Rattle.words.proofs.Lists.{lacks}
use Rattle.words.proofs.Filled.{all-below}
use Rattle.decimal.specs.Decimal.{digits, digit}
use Rattle.decimal.proofs.Reading.{all_digits}
use Rattle.fields.specs.Fields.{line_feed, tab, fields_text, line, joined}
use Rattle.fields.proofs.Lines.{fields-all}
use Rattle.table.specs.Limits.{largest_number}
use Rattle.table.specs.Paper.{Row, Table, row_at, name_byte, right_name, right_number, right_count, right_row}
use Rattle.table.proofs.Rows.{number-some}
use Rattle.table.proofs.Rules.{row-period, row-deadline, row-times}
use Rattle.text.specs.Split.{lines, fields}
use Rattle.text.specs.Write.{line_text, table_text}
use Rattle.text.proofs.Split.{ended, lacks-by, fields-text, lines-ended, fields-parted}

-- the numbers of a row
abbrev pub numbers_of : Row → List ℕ
numbers_of r = r.period ∷ r.deadline ∷ r.times

-- a row's rules

pub row-numbers : (r : Row) → right_row r ≡ true → all right_number (numbers_of r) ≡ true
unfolding all
row-numbers r e = and_both (row-period r e) (and_both (row-deadline r e) (row-times r e))

pub right-row : (r : Row) → right_name r.name ≡ true → all right_number (numbers_of r) ≡ true
    → right_count (length r.times) ≡ true → r.deadline ≤ r.period → sum r.times ≤ r.deadline → right_row r ≡ true
unfolding right_row all
right-row r n a c h k =
    let t = and_parts a in
    let d = and_parts t.1 in
    let b = and_both (le-leb r.deadline r.period h) (le-leb (sum r.times) r.deadline k) in
    and_both n (and_both t.0 (and_both d.0 (and_both c (and_both d.1 b))))

pub right-number : (n : ℕ) → 1 ≤ n → n ≤ largest_number → right_number n ≡ true
right-number n l h = number-some n l ∙ le-leb n largest_number h

name-all : (x : List ℕ) → right_name x ≡ true → all name_byte x ≡ true
unfolding right_name
name-all x e = (and_parts (and_parts e).1).1

-- the fields of a row, and its line without the line feed

unfoldable pub fields_of : Row → List (List ℕ)
fields_of r = r.name ∷ map digits (numbers_of r)

unfoldable pub line_of : Row → List ℕ
line_of r = r.name ++ fields_text (map digits (numbers_of r))

-- a line that has a row's fields is the row's line
pub line-written : (l : List ℕ) (r : Row) → fields l ≡ fields_of r → ended l ≡ line_text r
unfolding fields_text fields_of line_text line
line-written l r e = ap (λ (s : List ℕ). ended (drop 1 s)) (sym (fields-text l) ∙ ap fields_text e)

-- the text of a table, line by line
pub table-lines : (t : Table) → table_text t ≡ joined (map (λ k. line_text (row_at t k)) (below (length t)))
unfolding table_text
table-lines t = ap joined (all-below line_text t _)

-- no field of a row has a tab, and no line a line feed

no-tab : (name_byte tab ≡ false) × (digit tab ≡ false)
unfolding name_byte digit ◌and◌ ◌or◌
no-tab = (refl, refl)

no-feed : (name_byte line_feed ≡ false) × (digit line_feed ≡ false)
unfolding name_byte digit ◌and◌ ◌or◌
no-feed = (refl, refl)

-- a row's fields have no byte that neither a name nor a number may have
fields-lack : (b : ℕ) → (name_byte b ≡ false) × (digit b ≡ false) → (r : Row) → right_name r.name ≡ true → all (lacks b) (fields_of r) ≡ true
unfolding all fields_of
fields-lack b f r e = and_both (lacks-by name_byte b r.name f.0 (name-all r.name e)) (numbers (numbers_of r))
  where
    numbers : (ns : List ℕ) → all (lacks b) (map digits ns) ≡ true
    numbers [] = refl
    numbers (n ∷ ns) = and_both (lacks-by digit b (digits n) f.1 (all_digits n)) (numbers ns)

pub fields-line : (r : Row) → right_name r.name ≡ true → fields (line_of r) ≡ fields_of r
unfolding line_of fields_of
fields-line r e = fields-parted (map digits (numbers_of r)) r.name (fields-lack tab no-tab r e)

line-lacks : (r : Row) → right_name r.name ≡ true → lacks line_feed (line_of r) ≡ true
unfolding line_of fields_of fields_text all
line-lacks r e = (and_parts (fields-all (λ x. not (eqb x line_feed)) (fields_of r) refl (fields-lack line_feed no-feed r e))).1

pub lines-line : (r : Row) (rest : List ℕ) → right_name r.name ≡ true → lines (line_text r ++ rest) ≡ line_of r ∷ lines rest
unfolding line_text line line_of
lines-line r rest e = lines-ended (line_of r) rest (line-lacks r e)
