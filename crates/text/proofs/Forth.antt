-- The text of a right table reads back to that table (`text-forth`).
use mathlib.Core.Path.{◌≡◌, refl, sym, ap, ◌∙◌}
use mathlib.Core.Bool.{true, false}
use mathlib.Core.List.{List, [], ◌∷◌, ◌++◌, map, append_assoc, append-nil}
use Prim.Native.Nat.{ℕ, suc, ◌+◌, ◌-◌, ◌≤◌}
use native.Mathlib.Omega.{arith}
use lib.ListN.{length, get_or, length-append, length-map}
use lib.Seq.{get_or-append_seam}
use borrow.Author.Tests.{le-ltb, not-true}
use Rattle.words.specs.Lists.{sum, all, any}
use Rattle.words.proofs.Choice.{and_parts}
use Rattle.decimal.specs.Decimal.{digits}
use Rattle.decimal.proofs.Reading.{number_digits}
use Rattle.table.specs.Limits.{most_rows, largest_number}
use Rattle.table.specs.Paper.{Row, Table, right_number, right_count, right_row, waits, named, right_rows, right_table}
use Rattle.table.proofs.Rules.{row-name, row_count, row-order, row-sum, number-range, table-size}
use Rattle.fields.specs.Fields.{line_feed, line, joined}
use Rattle.text.specs.Split.{lines}
use Rattle.text.specs.Read.{accepted, got, fixed_fields, right_fields, no_row, with_name, with_number, read_fields, read_line, read_lines, read_text}
use Rattle.text.specs.Write.{line_text, table_text}
use Rattle.text.proofs.Split.{ended}
use Rattle.text.proofs.Steps.{fields-over, next-name, next-number, row-checked, row_read, lines-over, next-line, text-lines}
use Rattle.text.proofs.Lines.{numbers_of, row-numbers, fields_of, line_of, fields-line, lines-line}
use Rattle.text.proofs.Fits.{text-fits}
use Rattle.text.proofs.Back.{with_numbers, row_made}

numbers-forth : (vs : List ℕ) (n f : ℕ) (r : Row) → 2 ≤ f → all right_number vs ≡ true → read_fields n f r (map digits vs) ≡ got (with_numbers r f vs)
unfolding with_numbers all
numbers-forth [] n f r h e = fields-over n f r
numbers-forth (v ∷ vs) n f r h e =
    let k = number-range v (and_parts e).0 in
    next-number n f r (digits v) (map digits vs) v (omega arith) (number_digits 1 largest_number v k.0 k.1)
    ∙ numbers-forth vs n (f + 1) (with_number r f v) (omega arith) (and_parts e).1

-- a right row's fields read to that row
row-forth : (n : ℕ) (r : Row) → right_row r ≡ true → read_fields n 1 no_row (fields_of r) ≡ got r
unfolding fields_of
row-forth n r e =
    next-name n 1 no_row r.name (map digits (numbers_of r)) refl (row-name r e)
    ∙ numbers-forth (numbers_of r) n 2 (with_name no_row r.name) (omega arith) (row-numbers r e)
    ∙ ap got (row_made r.name r.period r.deadline r.times)

right-fields : (r : Row) → right_count (length r.times) ≡ true → right_fields (length (fields_of r)) ≡ true
unfolding right_fields fields_of
right-fields r e =
    let k : suc (suc (suc (length (map digits r.times)))) - fixed_fields ≡ length r.times = omega (arith, length-map r.times digits) in
    rw k e

-- and so does its line, where no row above it waits or has its name
line-forth : (n : ℕ) (above : Table) (r : Row) → any waits above ≡ false → right_row r ≡ true → named r.name above ≡ false → read_line n above (line_of r) ≡ got r
line-forth n above r w e q =
    let f = fields-line r (row-name r e) in
    row_read n above (line_of r) w (rw f (right-fields r (row_count r e))) r (rw f (row-forth n r e))
    ∙ row-checked n above r (row-order r e) (le-ltb r.deadline (sum r.times) (row-sum r e)) q

-- and so do the lines of a text
lines-forth : (rs above : Table) → length above + length rs ≤ most_rows → right_rows above rs ≡ true → read_lines above (lines (table_text rs)) ≡ accepted (above ++ rs)
unfolding right_rows lines table_text joined
lines-forth [] above h e = lines-over above ∙ rw (append-nil above)
lines-forth (r ∷ rs) above h e =
    let w = and_parts e in
    let k = and_parts w.1 in
    let q = and_parts k.1 in
    ap (read_lines above) (lines-line r (table_text rs) (row-name r k.0))
    ∙ next-line above (line_of r) (lines (table_text rs)) (omega arith) r (line-forth (length above + 1) above r (not-true (any waits above) w.0) k.0 (not-true (named r.name above) q.0))
    ∙ lines-forth rs (above ++ (r ∷ [])) (omega (arith, length-append above (r ∷ []))) q.1
    ∙ ap accepted (append_assoc above (r ∷ []) rs)

-- a text ends with its last line
text-end : (r : Row) (rs : Table) → (l : List ℕ) × (table_text (r ∷ rs) ≡ ended l)
unfolding table_text joined line_text line line_of
text-end r [] = (line_of r, append-nil (line_text r))
text-end r (q ∷ rs) =
    let p = text-end q rs in
    (line_text r ++ p.0, ap (λ (l : List ℕ). line_text r ++ l) p.1 ∙ sym (append_assoc (line_text r) p.0 (line_feed ∷ [])))

-- and its last byte is a line feed
ended-last : (s l : List ℕ) → s ≡ ended l → (length s ≡ 0 → ⊥) × (get_or s (length s - 1) 0 ≡ line_feed)
ended-last s l e =
    let n : length s ≡ length l + 1 = ap length e ∙ length-append l (line_feed ∷ []) in
    let k : length s - 1 ≡ length l = omega arith in
    ((λ z. omega arith), rw (k, e) (get_or-append_seam l line_feed [] 0))

-- THE TEXT OF A RIGHT TABLE READS BACK TO THAT TABLE
pub text-forth : (t : Table) → right_table t ≡ true → read_text (table_text t) ≡ accepted t
unfolding right_table
text-forth [] e = absurd (omega (arith, table-size [] e))
text-forth (r ∷ rs) e =
    let t = r ∷ rs in
    let p = text-end r rs in
    let b = ended-last (table_text t) p.0 p.1 in
    text-lines (table_text t) b.0 (text-fits t e) b.1 ∙ lines-forth t [] (omega (arith, (table-size t e).1)) (and_parts (and_parts e).1).1
