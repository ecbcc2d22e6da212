-- Every accepted text reads to a right table (`text-right`), whose text it is (`text-back`): so a table has exactly one text (`text-one`).
use Rattle.std.specs.Prelude.{if◌then◌else◌}
use mathlib.Core.Path.{◌≡◌, refl, sym, ap, ◌∙◌}
use mathlib.Core.Bool.{Bool, true, false, false≢true}
use mathlib.Core.List.{List, [], ◌∷◌, ◌++◌, map, append_assoc, append-nil}
use Prim.Native.Nat.{ℕ, suc, ◌+◌, ◌-◌, ◌≤◌, ◌<◌}
use native.Mathlib.Omega.{arith}
use lib.Dec.{eqb, ltb}
use lib.ListN.{length, get_or, length-append, length-map}
use borrow.Author.Tests.{eqb-true, eqb-false, ltb-false, ne_eqb, le-leb}
use Rattle.words.specs.Choice.{◌and◌}
use Rattle.words.specs.Lists.{sum, all, any}
use Rattle.words.proofs.Choice.{and_both}
use Rattle.decimal.specs.Decimal.{read_number, digits}
use Rattle.std.specs.Prelude.{Option, Some, None, Ok, Err}
use Rattle.decimal.proofs.Reading.{digits_number}
use Rattle.table.specs.Limits.{most_rows, largest_number, longest_text}
use Rattle.table.specs.Paper.{Row, Table, right_name, right_number, right_count, right_row, waits, named, right_rows, right_table}
use Rattle.table.specs.Value.{table_of, table_value, well_formed}
use Rattle.table.proofs.Rules.{value-back, value-right, table-right}
use Rattle.table.specs.declared.Table.{Table as TableValue}
use Rattle.refusals.specs.declared.Refusal.{Refusal}
use Rattle.refusals.specs.declared.Refusal.TheVariants.{NoText, LongText, NoLineFeed, ManyLines, AfterWaiting, FieldCount, BadName, BadNumber, LateDeadline, LongTimes, NameTaken}
use Rattle.fields.specs.Fields.{line_feed, joined}
use Rattle.text.specs.Split.{lines, fields}
use Rattle.text.specs.Read.{Answer, accepted, refused, Line, got, bad, fixed_fields, right_fields, no_row, with_name, with_number, on_number, on_line, read_fields, check_row, read_line, read_lines, read_text, reading_of}
use Rattle.text.specs.Write.{line_text, table_text}
use Rattle.text.proofs.Split.{ended, lines-some, lines-text}
use Rattle.text.proofs.Lines.{numbers_of, right-row, right-number, fields_of, line-written}

-- a refusal is no row, and no table

not-bad : {A : Type 0} (x : Refusal) (r : Row) → bad x ≡ got r → A
not-bad x r e = absurd (let z : ◌≡◌ {A = ℕ} 0 1 = cc in omega arith)

not-refused : {A : Type 0} (x : Refusal) (t : Table) → refused x ≡ accepted t → A
not-refused x t e = absurd (let z : ◌≡◌ {A = ℕ} 0 1 = cc in omega arith)

-- a test that a row, or a table, has passed
pass-line : (b : Bool) (x : Refusal) (y : Line) (r : Row) → (if b then bad x else y) ≡ got r → (b ≡ false) × (y ≡ got r)
pass-line true x y r e = not-bad x r e
pass-line false x y r e = (refl, e)

pass-text : (b : Bool) (x : Refusal) (y : Answer) (t : Table) → (if b then refused x else y) ≡ accepted t → (b ≡ false) × (y ≡ accepted t)
pass-text true x y t e = not-refused x t e
pass-text false x y t e = (refl, e)

-- the row after numbers from its field f on
unfoldable pub with_numbers : Row → ℕ → List ℕ → Row
with_numbers r f [] = r
with_numbers r f (v ∷ vs) = with_numbers (with_number r f v) (f + 1) vs

-- times, one after the other
with-times : (vs : List ℕ) (r : Row) (f : ℕ) → 4 ≤ f
    → with_numbers r f vs ≡ record { name = r.name; period = r.period; deadline = r.deadline; times = r.times ++ vs }
unfolding with_numbers with_number
with-times [] r f h = rw (append-nil r.times)
with-times (v ∷ vs) r f h =
    rw (ne_eqb f 2 (omega arith), ne_eqb f 3 (omega arith))
    (with-times vs (record { name = r.name; period = r.period; deadline = r.deadline; times = r.times ++ (v ∷ []) }) (f + 1) (omega arith)
    ∙ rw (append_assoc r.times (v ∷ []) vs))

-- all numbers of a row
pub row_made : (x : List ℕ) (p d : ℕ) (ts : List ℕ) → with_numbers (with_name no_row x) 2 (p ∷ d ∷ ts) ≡ record { name = x; period = p; deadline = d; times = ts }
unfolding with_numbers with_number
row_made x p d ts = with-times ts (record { name = x; period = p; deadline = d; times = [] }) 4 (omega arith)

-- what the fields of numbers, from f on, have given
record Numbers (f : ℕ) (r : Row) (fs : List (List ℕ)) (q : Row) : Type 0 where
  values : List ℕ
  written : fs ≡ map digits values
  right : all right_number values ≡ true
  row : q ≡ with_numbers r f values

numbers-back : (fs : List (List ℕ)) (n f : ℕ) (r q : Row) → 2 ≤ f → read_fields n f r fs ≡ got q → Numbers f r fs q
unfolding read_fields with_numbers all
numbers-back [] n f r q h e = record { values = []; written = refl; right = refl; row = cc }
numbers-back (x ∷ xs) n f r q h e =
    go (read_number 1 largest_number x) refl (rw (ne_eqb f 1 (omega arith)) at e)
    (λ v i. numbers-back xs n (f + 1) (with_number r f v) q (omega arith) i)
  where
    go : (m : Option ℕ) → read_number 1 largest_number x ≡ m → on_number m (λ v. read_fields n (f + 1) (with_number r f v) xs) (bad (BadNumber n f)) ≡ got q
        → ((v : ℕ) → read_fields n (f + 1) (with_number r f v) xs ≡ got q → Numbers (f + 1) (with_number r f v) xs q) → Numbers f r (x ∷ xs) q
    go None p e ih = not-bad (BadNumber n f) q e
    go (Some v) p e ih =
        let i = ih v e in
        let d = digits_number 1 largest_number x v p in
        record { values = v ∷ i.values; written = rw (d.0, ← i.written); right = and_both (right-number v d.1 d.2) i.right; row = i.row }

-- what a row's fields have given
pub record Fields (fs : List (List ℕ)) (q : Row) : Type 0 where
  pub written : fs ≡ fields_of q
  pub name : right_name q.name ≡ true
  pub numbers : all right_number (numbers_of q) ≡ true
  pub count : right_count (length q.times) ≡ true

few-fields : {A : Type 0} (k : ℕ) → k ≤ fixed_fields → right_fields k ≡ true → A
unfolding right_fields right_count ◌and◌
few-fields k h e =
    let z : k - fixed_fields ≡ 0 = omega arith in
    absurd (false≢true (rw z at e))

pub fields_back : (fs : List (List ℕ)) (n : ℕ) (q : Row) → right_fields (length fs) ≡ true → read_fields n 1 no_row fs ≡ got q → Fields fs q
unfolding read_fields fields_of right_fields
fields_back [] n q c e = few-fields 0 (omega arith) c
fields_back (x ∷ xs) n q c e = go (right_name x) refl e
  where
    made : right_name x ≡ true → (vs : List ℕ) → xs ≡ map digits vs → all right_number vs ≡ true → q ≡ with_numbers (with_name no_row x) 2 vs → Fields (x ∷ xs) q
    made h [] w a r = few-fields (suc (length xs)) (omega (arith, ap length w)) c
    made h (p ∷ []) w a r = few-fields (suc (length xs)) (omega (arith, ap length w)) c
    made h (p ∷ d ∷ ts) w a r =
        let k : suc (length xs) - fixed_fields ≡ length ts = omega (arith, ap length w, length-map ts digits) in
        rw (r ∙ row_made x p d ts) (record { written = ap (λ (l : List (List ℕ)). x ∷ l) w; name = h; numbers = a; count = rw k at c })

    go : (b : Bool) → right_name x ≡ b → (if b then read_fields n 2 (with_name no_row x) xs else bad (BadName n)) ≡ got q → Fields (x ∷ xs) q
    go true h e =
        let i = numbers-back xs n 2 (with_name no_row x) q (omega arith) e in
        made h i.values i.written i.right i.row
    go false h e = not-bad (BadName n) q e

-- what a line has given
record Taken (above : Table) (l : List ℕ) (r : Row) : Type 0 where
  first : any waits above ≡ false
  written : ended l ≡ line_text r
  right : right_row r ≡ true
  new : named r.name above ≡ false

check-back : (n : ℕ) (above : Table) (r q : Row) → check_row n above r ≡ got q
    → (r ≡ q) × (r.deadline ≤ r.period) × (sum r.times ≤ r.deadline) × (named r.name above ≡ false)
unfolding check_row
check-back n above r q e =
    let p9 = pass-line (ltb r.period r.deadline) (LateDeadline n) _ q e in
    let p10 = pass-line (ltb r.deadline (sum r.times)) (LongTimes n) _ q p9.1 in
    let p11 = pass-line (named r.name above) (NameTaken n) _ q p10.1 in
    (cc p11.1, ltb-false r.period r.deadline p9.0, ltb-false r.deadline (sum r.times) p10.0, p11.0)

line-back : (n : ℕ) (above : Table) (l : List ℕ) (q : Row) → read_line n above l ≡ got q → Taken above l q
unfolding read_line
line-back n above l q e =
    let p5 = pass-line (any waits above) (AfterWaiting n) _ q e in
    go (right_fields (length (fields l))) (read_fields n 1 no_row (fields l)) refl refl p5.0 p5.1
  where
    go : (b : Bool) (f : Line) → right_fields (length (fields l)) ≡ b → read_fields n 1 no_row (fields l) ≡ f → any waits above ≡ false
        → (if b then on_line f (check_row n above) bad else bad (FieldCount n)) ≡ got q → Taken above l q
    go false f c g w e = not-bad (FieldCount n) q e
    go true (bad x) c g w e = not-bad x q e
    go true (got r) c g w e =
        let k = check-back n above r q e in
        let i = fields_back (fields l) n r c g in
        rw (← k.0) (record {
          first = w;
          written = line-written l r i.written;
          right = right-row r i.name i.numbers i.count k.1 k.2;
          new = k.3;
        })

-- what the lines below the rows above them have given
record Rows (above : Table) (ls : List (List ℕ)) (t : Table) : Type 0 where
  rows : Table
  whole : t ≡ above ++ rows
  written : map ended ls ≡ map line_text rows
  right : right_rows above rows ≡ true
  few : length t ≤ most_rows

lines-back : (ls : List (List ℕ)) (above t : Table) → length above ≤ most_rows → read_lines above ls ≡ accepted t → Rows above ls t
unfolding read_lines right_rows
lines-back [] above t h e =
    let z : above ≡ t = cc in
    rw (← z) (record { rows = []; whole = sym (append-nil above); written = refl; right = refl; few = h })
lines-back (l ∷ ls) above t h e =
    let p4 = pass-text (eqb (length above) most_rows) (ManyLines (length above + 1)) _ t e in
    let n = eqb-false (length above) most_rows p4.0 in
    go (read_line (length above + 1) above l) refl p4.1
    (λ r i. lines-back ls (above ++ (r ∷ [])) t (omega (arith, n, length-append above (r ∷ []))) i)
  where
    go : (x : Line) → read_line (length above + 1) above l ≡ x → on_line x (λ r. read_lines (above ++ (r ∷ [])) ls) refused ≡ accepted t
        → ((r : Row) → read_lines (above ++ (r ∷ [])) ls ≡ accepted t → Rows (above ++ (r ∷ [])) ls t) → Rows above (l ∷ ls) t
    go (bad x) q e ih = not-refused x t e
    go (got r) q e ih =
        let k = line-back (length above + 1) above l r q in
        let i = ih r e in
        record {
          rows = r ∷ i.rows;
          whole = i.whole ∙ append_assoc above (r ∷ []) i.rows;
          written = rw (k.written, i.written);
          right = and_both (simp k.first) (and_both k.right (and_both (simp k.new) i.right));
          few = i.few;
        }

-- what the whole text has given
read_back : (s : List ℕ) (t : Table) → read_text s ≡ accepted t → (length s ≡ 0 → ⊥) × (get_or s (length s - 1) 0 ≡ line_feed) × Rows [] (lines s) t
unfolding read_text
read_back s t e =
    let p1 = pass-text (eqb (length s) 0) NoText _ t e in
    let p2 = pass-text (ltb longest_text (length s)) LongText _ t p1.1 in
    go (eqb (get_or s (length s - 1) 0) line_feed) refl (eqb-false (length s) 0 p1.0) p2.1
  where
    go : (b : Bool) → eqb (get_or s (length s - 1) 0) line_feed ≡ b → (length s ≡ 0 → ⊥) → (if b then read_lines [] (lines s) else refused NoLineFeed) ≡ accepted t
        → (length s ≡ 0 → ⊥) × (get_or s (length s - 1) 0 ≡ line_feed) × Rows [] (lines s) t
    go true q n e = (n, eqb-true (get_or s (length s - 1) 0) line_feed q, lines-back (lines s) [] t (omega arith) e)
    go false q n e = not-refused NoLineFeed t e

-- THE TEXT THAT WAS READ IS THE TABLE'S TEXT
pub text-back : (s : List ℕ) (t : Table) → read_text s ≡ accepted t → table_text t ≡ s
unfolding table_text
text-back s t e =
    let p = read_back s t e in
    rw p.2.whole (ap joined (sym p.2.written) ∙ lines-text s p.0 p.1)

-- EVERY ACCEPTED TEXT READS TO A RIGHT TABLE
pub text-right : (s : List ℕ) (t : Table) → read_text s ≡ accepted t → right_table t ≡ true
unfolding right_table
text-right s t e =
    let p = read_back s t e in
    let n : 0 < length s = omega (arith, p.0) in
    let k : 1 ≤ length p.2.rows = omega (arith, lines-some s n, length-map (lines s) ended, ap length p.2.written, length-map p.2.rows line_text) in
    rw p.2.whole (and_both (le-leb 1 (length p.2.rows) k) (and_both (le-leb (length p.2.rows) most_rows (rw p.2.whole at p.2.few)) p.2.right))

-- A TABLE HAS EXACTLY ONE TEXT
pub text-one : (s s' : List ℕ) (t : Table) → read_text s ≡ accepted t → read_text s' ≡ accepted t → s ≡ s'
text-one s s' t e e' = sym (text-back s t e) ∙ text-back s' t e'

-- a reading that was accepted has a well-formed table, which stands for the text's
pub reading-accepted : (s : List ℕ) (v : TableValue) → Ok v ≡ reading_of (read_text s) → (well_formed v ≡ true) × (read_text s ≡ accepted (table_of v))
reading-accepted s v e = go (read_text s) refl
  where
    go : (a : Answer) → read_text s ≡ a → (well_formed v ≡ true) × (read_text s ≡ accepted (table_of v))
    go (accepted t) p =
        let o : Ok v ≡ Ok (table_value t) = e ∙ ap reading_of p in
        let q : v ≡ table_value t = cc in
        let ok = text-right s t p in
        (ap well_formed q ∙ value-right t ok, p ∙ ap accepted (sym (ap table_of q ∙ value-back t (table-right t ok))))
    go (refused x) p =
        let o : Ok v ≡ Err x = e ∙ ap reading_of p in
        cc

-- one that was refused has the text's refusal
pub reading-refused : (s : List ℕ) (x : Refusal) → Err x ≡ reading_of (read_text s) → read_text s ≡ refused x
reading-refused s x e = go (read_text s) refl
  where
    go : (a : Answer) → read_text s ≡ a → read_text s ≡ refused x
    go (accepted t) p =
        let o : Err x ≡ Ok (table_value t) = e ∙ ap reading_of p in
        cc
    go (refused w) p =
        let o : Err x ≡ Err w = e ∙ ap reading_of p in
        let q : w ≡ x = cc in
        p ∙ ap refused q
