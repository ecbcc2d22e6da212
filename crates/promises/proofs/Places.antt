-- The page of places, specs/Places, shown.
use Rattle.std.specs.Prelude.{Option as Maybe, Some, None, if◌then◌else◌}
use mathlib.Core.Path.{◌≡◌, refl, sym, ap, ◌∙◌}
use mathlib.Core.Bool.{Bool, true, false, not, false≢true}
use mathlib.Core.List.{List, [], ◌∷◌, ◌++◌, map, append_assoc, append-nil}
use Prim.Native.Nat.{ℕ, zero, suc, ◌+◌, ◌-◌, ◌%◌, ◌≤◌, ◌<◌}
use native.Mathlib.Omega.{arith}
use lib.Dec.{eqb, ltb, leb}
use lib.ListN.{length, get_or, length-append, length-map}
use borrow.Author.Tests.{eqb-true, eqb-false, ne_eqb, ltb-true, ltb-false, lt-ltb, le-ltb, lt-leb, not-true}
use Rattle.words.specs.Choice.{◌and◌, ◌or◌}
use Rattle.words.specs.Lists.{sum, all, any}
use Rattle.words.proofs.Choice.{and_parts, and_both, and-false, and-last-false}
use Rattle.words.proofs.Lists.{lacks}
use Rattle.decimal.specs.Decimal.{digits, read_number}
use Rattle.decimal.proofs.Reading.{number_digits, digits_number}
use Rattle.fields.specs.Fields.{line_feed, joined}
use Rattle.refusals.specs.declared.Refusal.{Refusal}
use Rattle.refusals.specs.declared.Refusal.TheVariants.{AfterWaiting, FieldCount, BadName, BadNumber, LateDeadline, LongTimes, NameTaken}
use Rattle.refusals.specs.Refusals.{number_of, line_of, field_of}
use Rattle.table.specs.Limits.{most_rows, most_times, largest_number}
use Rattle.table.specs.Paper.{Row, Table, right_name, right_number, right_count, right_row, waits, named, right_rows}
use Rattle.table.proofs.Rules.{row-name, row_count, row-order, row-sum, number-range}
use Rattle.text.specs.Split.{lines, fields, on_first}
use Rattle.text.specs.Read.{Answer, accepted, refused, Line, got, bad, fixed_fields, right_fields, no_row, with_name, with_number}
use Rattle.text.specs.Read.{on_number, on_line, read_fields, check_row, read_line, read_lines, read_text, reading_of, number_of_outcome, line_of_outcome, field_of_outcome}
use Rattle.text.specs.Write.{line_text, table_text}
use Rattle.text.proofs.Split.{ended, lines-text, lines-ended}
use Rattle.text.proofs.Lines.{numbers_of, row-numbers, right-row, fields_of, line_of as row_line, line-written, fields-line, lines-line}
use Rattle.text.proofs.Back.{with_numbers, row_made, fields_back}
use Rattle.text.proofs.Numbers.{InLines, Fared, empty, long, unended, lined, fared}
use Rattle.text.proofs.Steps.{fields-over, bad-name, next-name, bad-number, next-number, late-deadline, long-times, name-taken, row-checked}
use Rattle.text.proofs.Steps.{after-waiting, field-count, bad-field, row_read, many-lines, bad-line, next-line, text-lines}
use Rattle.promises.specs.Places.{counted, Number, Spells, Wrong, due4, due5, due6, due7, due8, due9, due10, due11, RefusedAt, Places}

-- ---- every refusal has its reason

-- what both branches of a test have, the choice has; each branch knows how the test came out
if-both : {A : Type 0} (P : A → Type 0) (b : Bool) {x y : A} → (b ≡ true → P x) → (b ≡ false → P y) → P (if b then x else y)
if-both P true p q = p refl
if-both P false p q = q refl

-- of the fields xs of line n, from field f on, the first that is no number
record NoNumber (n f : ℕ) (xs : List (List ℕ)) (w : Refusal) : Type 0 where
  left : ℕ
  is : w ≡ BadNumber n (f + left)
  there : left < length xs
  before : (z : ℕ) → z < left → Number (get_or xs z [])
  not-one : Number (get_or xs left []) → ⊥

abbrev NumbersCause : ℕ → ℕ → List (List ℕ) → Line → Type 0
NumbersCause n f xs (got r) = Unit {0}
NumbersCause n f xs (bad w) = NoNumber n f xs w

-- a number reads as one
number_read : (x : List ℕ) → Number x → read_number 1 largest_number x ≡ None → ⊥
number_read x (k, l, h, e) q =
    let z : ◌≡◌ {A = Maybe ℕ} (Some k) None = sym (number_digits 1 largest_number k l h) ∙ ap (read_number 1 largest_number) (sym e) ∙ q in
    let y : ◌≡◌ {A = ℕ} 0 1 = cc in
    omega arith

numbers-cause : (xs : List (List ℕ)) (n f : ℕ) (r : Row) → 2 ≤ f → NumbersCause n f xs (read_fields n f r xs)
unfolding read_fields
numbers-cause [] n f r h = tt
numbers-cause (x ∷ xs) n f r h =
    rw (ne_eqb f 1 (omega arith)) (go (read_number 1 largest_number x) refl (λ v. numbers-cause xs n (f + 1) (with_number r f v) (omega arith)))
  where
    number : (v : ℕ) → read_number 1 largest_number x ≡ Some v → Number x
    number v e = let d = digits_number 1 largest_number x v e in (v, d.1, d.2, sym d.0)

    before : Number x → (k : ℕ) → ((z : ℕ) → z < k → Number (get_or xs z [])) → (z : ℕ) → z < suc k → Number (get_or (x ∷ xs) z [])
    before a k g zero h = a
    before a k g (suc z) h = g z (omega arith)

    more : Number x → (y : Line) → NumbersCause n (f + 1) xs y → NumbersCause n f (x ∷ xs) y
    more a (got q) i = tt
    more a (bad w) i =
        let k : f + 1 + i.left ≡ f + suc i.left = omega arith in
        record {
          left = suc i.left;
          is = i.is ∙ ap (BadNumber n) k;
          there = omega (arith, i.there);
          before = before a i.left i.before;
          not-one = i.not-one;
        }

    go : (m : Maybe ℕ) → read_number 1 largest_number x ≡ m → ((v : ℕ) → NumbersCause n (f + 1) xs (read_fields n (f + 1) (with_number r f v) xs))
        → NumbersCause n f (x ∷ xs) (on_number m (λ v. read_fields n (f + 1) (with_number r f v) xs) (bad (BadNumber n f)))
    go (Some v) e ih = more (number v e) (read_fields n (f + 1) (with_number r f v) xs) (ih v)
    go None e ih =
        let k : f ≡ f + 0 = omega arith in
        record { left = 0; is = ap (BadNumber n) k; there = omega arith; before = λ z h. absurd (omega arith); not-one = λ a. number_read x a e }

-- a line's first wrong field, by 7 or 8
data WrongField (n : ℕ) (fs : List (List ℕ)) : Refusal → Type 0 where
  no_name : right_name (get_or fs 0 []) ≡ false → WrongField n fs (BadName n)
  no_number : (y : ℕ) → right_name (get_or fs 0 []) ≡ true → 2 ≤ y → y ≤ length fs → ((z : ℕ) → 2 ≤ z → z < y → Number (get_or fs (z - 1) []))
      → (Number (get_or fs (y - 1) []) → ⊥) → WrongField n fs (BadNumber n y)

fields-cause : (fs : List (List ℕ)) (n : ℕ) (w : Refusal) → read_fields n 1 no_row fs ≡ bad w → WrongField n fs w
unfolding read_fields
fields-cause [] n w e = absurd (let z : ◌≡◌ {A = ℕ} 0 1 = cc in omega arith)
fields-cause (x ∷ xs) n w e = go (right_name x) refl e
  where
    shifted : (k : ℕ) → ((z : ℕ) → z < k → Number (get_or xs z [])) → (z : ℕ) → 2 ≤ z → z < 2 + k → Number (get_or (x ∷ xs) (z - 1) [])
    shifted k g zero l h = absurd (omega arith)
    shifted k g (suc zero) l h = absurd (omega arith)
    shifted k g (suc (suc z)) l h =
        let e : suc (suc z) - 1 ≡ suc z = omega arith in
        rw e (g z (omega arith))

    go : (b : Bool) → right_name x ≡ b → (if b then read_fields n 2 (with_name no_row x) xs else bad (BadName n)) ≡ bad w → WrongField n (x ∷ xs) w
    go false q e =
        let z : w ≡ BadName n = cc in
        rw z (no_name q)
    go true q e =
        let i : NoNumber n 2 xs w = rw e at (numbers-cause xs n 2 (with_name no_row x) (omega arith)) in
        let k : 2 + i.left - 1 ≡ suc i.left = omega arith in
        rw i.is (no_number (2 + i.left) q (omega arith) (omega (arith, i.there)) (shifted i.left i.before) (rw k i.not-one))

-- 4, 6, 8 or 10 fields

other-count : (k : ℕ) → (k ≡ 4 → ⊥) → (k ≡ 6 → ⊥) → (k ≡ 8 → ⊥) → (k ≡ 10 → ⊥) → (b : Bool) → eqb ((k - fixed_fields) % 2) 1 ≡ b → right_fields k ≡ false
unfolding right_fields right_count
other-count k p q r s true e =
    and-last-false (eqb ((k - fixed_fields) % 2) 1) (lt-leb (k - fixed_fields) most_times (omega (arith, eqb-true ((k - fixed_fields) % 2) 1 e)))
other-count k p q r s false e = and-false (leb (k - fixed_fields) most_times) e

count_same : (k : ℕ) → any (eqb k) (4 ∷ 6 ∷ 8 ∷ 10 ∷ []) ≡ right_fields k
unfolding any ◌or◌ right_fields right_count ◌and◌
count_same k = go (eqb k 4) refl (eqb k 6) refl (eqb k 8) refl (eqb k 10) refl
  where
    go : (a : Bool) → eqb k 4 ≡ a → (b : Bool) → eqb k 6 ≡ b → (c : Bool) → eqb k 8 ≡ c → (d : Bool) → eqb k 10 ≡ d
        → (a or b or c or d or false) ≡ right_fields k
    go true p b q c r d s = rw (eqb-true k 4 p)
    go false p true q c r d s = rw (eqb-true k 6 q)
    go false p false q true r d s = rw (eqb-true k 8 r)
    go false p false q false r true s = rw (eqb-true k 10 s)
    go false p false q false r false s =
        sym (other-count k (eqb-false k 4 p) (eqb-false k 6 q) (eqb-false k 8 r) (eqb-false k 10 s) (eqb ((k - fixed_fields) % 2) 1) refl)

count-right : (l : List ℕ) → counted l ≡ right_fields (length (fields l))
count-right l = count_same (length (fields l))

-- what a line has given: a right row, of which it is the line, or a refusal that is due
abbrev LineCause : ℕ → Table → List ℕ → Line → Type 0
LineCause n t l (got r) = (ended l ≡ line_text r) × (any waits t ≡ false) × (right_row r ≡ true) × (named r.name t ≡ false)
LineCause n t l (bad w) = (line_of w ≡ n) × Wrong t l (number_of w) (field_of w)

line-cause : (n : ℕ) (t : Table) (l : List ℕ) → length t < most_rows → LineCause n t l (read_line n t l)
unfolding read_line check_row fields_of
line-cause n t l h =
    if-both P (any waits t) (λ e. (refl, due5 h e))
    (λ w. if-both P (right_fields (length (fields l))) (λ c. go w c (read_fields n 1 no_row (fields l)) refl) (λ c. (refl, due6 (h, w) (count-right l ∙ c))))
  where
    P : Line → Type 0
    P = LineCause n t l

    wrong : any waits t ≡ false → right_fields (length (fields l)) ≡ true → (w : Refusal) → WrongField n (fields l) w → P (bad w)
    wrong w c x (no_name e) = (refl, due7 (h, w) (count-right l ∙ c) e)
    wrong w c x (no_number y e a b g z) = (refl, due8 y (h, w) (count-right l ∙ c) e a b g z)

    go : any waits t ≡ false → right_fields (length (fields l)) ≡ true → (x : Line) → read_fields n 1 no_row (fields l) ≡ x → P (on_line x (check_row n t) bad)
    go w c (bad x) e = wrong w c x (fields-cause (fields l) n x e)
    go w c (got r) e =
        let i = fields_back (fields l) n r c e in
        let k : Spells l r = record { written = i.written; name = i.name; count = count-right l ∙ c; numbers = i.numbers } in
        let D = r.deadline in
        if-both P (ltb r.period D) (λ a. (refl, due9 r (h, w) k (ltb-true r.period D a)))
        (λ a.
        let p : D ≤ r.period = ltb-false r.period D a in
        if-both P (ltb D (sum r.times)) (λ b. (refl, due10 r (h, w) k (omega arith) (ltb-true D (sum r.times) b)))
        (λ b.
        let q : sum r.times ≤ D = ltb-false D (sum r.times) b in
        if-both P (named r.name t) (λ d. (refl, due11 r (h, w) k p q d))
        (λ d. (line-written l r i.written, w, right-row r i.name i.numbers i.count p q, d))))

-- the first bad one of lines below the rows t: right rows, then a line to be refused
record Found (t : Table) (ls : List (List ℕ)) (w : Refusal) : Type 0 where
  rows : Table
  here : List ℕ
  rest : List ℕ
  cut : joined (map ended ls) ≡ table_text rows ++ (here ++ (line_feed ∷ rest))
  one_line : lacks line_feed here ≡ true
  kept : right_rows t rows ≡ true
  place : line_of w ≡ length (t ++ rows) + 1
  wrong : Wrong (t ++ rows) here (number_of w) (field_of w)

abbrev LinesCause : Table → List (List ℕ) → Answer → Type 0
LinesCause t ls (accepted u) = Unit {0}
LinesCause t ls (refused w) = Found t ls w

lines-cause : (ls : List (List ℕ)) (t : Table) → length t ≤ most_rows → all (lacks line_feed) ls ≡ true → LinesCause t ls (read_lines t ls)
unfolding read_lines all joined table_text right_rows
lines-cause [] t h a = tt
lines-cause (l ∷ ls) t h a =
    if-both (LinesCause t (l ∷ ls)) (eqb (length t) most_rows) (λ e. first _ refl (due4 (eqb-true (length t) most_rows e)))
    (λ e.
    let n : length t < most_rows = omega (arith, eqb-false (length t) most_rows e) in
    go (read_line (length t + 1) t l) (line-cause (length t + 1) t l n)
    (λ r. lines-cause ls (t ++ (r ∷ [])) (omega (arith, length-append t (r ∷ []))) (and_parts a).1))
  where
    first : (w : Refusal) → line_of w ≡ length t + 1 → Wrong t l (number_of w) (field_of w) → Found t (l ∷ ls) w
    first w p q = record {
      rows = [];
      here = l;
      rest = joined (map ended ls);
      cut = append_assoc l (line_feed ∷ []) (joined (map ended ls));
      one_line = (and_parts a).0;
      kept = refl;
      place = rw (append-nil t) p;
      wrong = rw (append-nil t) q;
    }

    later : (r : Row) → LineCause (length t + 1) t l (got r) → (x : Answer) → LinesCause (t ++ (r ∷ [])) ls x → LinesCause t (l ∷ ls) x
    later r k (accepted u) i = tt
    later r (e, w, q, d) (refused x) i = record {
      rows = r ∷ i.rows;
      here = i.here;
      rest = i.rest;
      cut = rw (e, i.cut) (sym (append_assoc (line_text r) (table_text i.rows) (i.here ++ (line_feed ∷ i.rest))));
      one_line = i.one_line;
      kept = and_both (ap not w) (and_both q (and_both (ap not d) i.kept));
      place = rw append_assoc at i.place;
      wrong = rw append_assoc at i.wrong;
    }

    go : (x : Line) → LineCause (length t + 1) t l x → ((r : Row) → LinesCause (t ++ (r ∷ [])) ls (read_lines (t ++ (r ∷ [])) ls))
        → LinesCause t (l ∷ ls) (on_line x (λ r. read_lines (t ++ (r ∷ [])) ls) refused)
    go (bad w) (p, q) ih = first w p q
    go (got r) k ih = later r k (read_lines (t ++ (r ∷ [])) ls) (ih r)

-- no line has a line feed
lines-lack : (s : List ℕ) → all (lacks line_feed) (lines s) ≡ true
unfolding lines on_first all
lines-lack [] = refl
lines-lack (x ∷ s) = go (eqb x line_feed) refl (lines s) (lines-lack s)
  where
    go : (b : Bool) → eqb x line_feed ≡ b → (ls : List (List ℕ)) → all (lacks line_feed) ls ≡ true
        → all (lacks line_feed) (if b then [] ∷ ls else on_first x ls) ≡ true
    go true e ls h = and_both refl h
    go false e [] h = and_both (and_both (ap not e) refl) refl
    go false e (l ∷ ls) h = and_both (and_both (ap not e) (and_parts h).0) (and_parts h).1

-- number, line and field of an answer

abbrev number : Answer → ℕ
number a = number_of_outcome (reading_of a)

abbrev line : Answer → ℕ
line a = line_of_outcome (reading_of a)

abbrev place : Answer → ℕ
place a = field_of_outcome (reading_of a)

-- an answer says: number x, line n, field y
abbrev Says : Answer → ℕ → ℕ → ℕ → Type 0
Says a x n y = (number a ≡ x) × (line a ≡ n) × (place a ≡ y)

-- a refused text: from 4 on, its refusal is due; before, there is no place
text-cause : (s : List ℕ) (w : Refusal) → read_text s ≡ refused w → 4 ≤ number_of w → RefusedAt s (number_of w) (line_of w) (field_of w)
text-cause s w e h = go (fared s)
  where
    go : Fared s → RefusedAt s (number_of w) (line_of w) (field_of w)
    go (empty l g) = absurd (omega (arith, ap number (sym g ∙ e)))
    go (long l g) = absurd (omega (arith, ap number (sym g ∙ e)))
    go (unended k l x g) = absurd (omega (arith, ap number (sym g ∙ e)))
    go (lined k l g p) =
        let n : length s ≡ 0 → ⊥ = λ z. omega arith in
        let q : read_lines [] (lines s) ≡ refused w = sym (text-lines s n l g) ∙ e in
        let i : Found [] (lines s) w = rw q at (lines-cause (lines s) [] (omega arith) (lines-lack s)) in
        record {
          short = l;
          ended = g;
          above = i.rows;
          here = i.here;
          rest = i.rest;
          cut = sym (lines-text s n g) ∙ i.cut;
          one_line = i.one_line;
          kept = i.kept;
          place = omega (arith, i.place);
          wrong = i.wrong;
        }

said-cause : (s : List ℕ) (a : Answer) → read_text s ≡ a → (x n y : ℕ) → 4 ≤ x → Says a x n y → RefusedAt s x n y
said-cause s (accepted t) e x n y h (p, q, r) = absurd (omega arith)
said-cause s (refused w) e x n y h (p, q, r) = rw (← p, ← q, ← r) (text-cause s w e (omega arith))

no_place : (s : List ℕ) (a : Answer) → read_text s ≡ a → number a ≤ 3 → (line a ≡ 0) × (place a ≡ 0)
no_place s (accepted t) e h = (refl, refl)
no_place s (refused w) e h = go (fared s)
  where
    go : Fared s → (line_of w ≡ 0) × (field_of w ≡ 0)
    go (empty l g) = (ap line (sym e ∙ g), ap place (sym e ∙ g))
    go (long l g) = (ap line (sym e ∙ g), ap place (sym e ∙ g))
    go (unended k l x g) = (ap line (sym e ∙ g), ap place (sym e ∙ g))
    go (lined k l g p) = let i : InLines (refused w) = rw e at p in absurd (omega (arith, i.low))

-- ---- what is due is answered

-- the fields of right numbers read on
numbers-read : (vs : List ℕ) (n f : ℕ) (r : Row) → 2 ≤ f → all right_number vs ≡ true → read_fields n f r (map digits vs) ≡ got (with_numbers r f vs)
unfolding with_numbers all
numbers-read [] n f r h e = fields-over n f r
numbers-read (v ∷ vs) n f r h e =
    let k = number-range v (and_parts e).0 in
    next-number n f r (digits v) (map digits vs) v (omega arith) (number_digits 1 largest_number v k.0 k.1)
    ∙ numbers-read vs n (f + 1) (with_number r f v) (omega arith) (and_parts e).1

-- up to the first that is none
number-refused : (i : ℕ) (xs : List (List ℕ)) (n f : ℕ) (r : Row) → 2 ≤ f → i < length xs → ((z : ℕ) → z < i → Number (get_or xs z []))
    → (Number (get_or xs i []) → ⊥) → read_fields n f r xs ≡ bad (BadNumber n (f + i))
number-refused zero [] n f r h l g q = absurd (omega arith)
number-refused (suc i) [] n f r h l g q = absurd (omega arith)
number-refused zero (x ∷ xs) n f r h l g q =
    let k : f ≡ f + 0 = omega arith in
    bad-number n f r x xs (omega arith) (go (read_number 1 largest_number x) refl) ∙ ap (λ y. bad (BadNumber n y)) k
  where
    go : (m : Maybe ℕ) → read_number 1 largest_number x ≡ m → read_number 1 largest_number x ≡ None
    go (Some v) e = let d = digits_number 1 largest_number x v e in absurd (q (v, d.1, d.2, sym d.0))
    go None e = e
number-refused (suc i) (x ∷ xs) n f r h l g q =
    let a = g 0 (omega arith) in
    let k : f + 1 + i ≡ f + suc i = omega arith in
    next-number n f r x xs a.0 (omega arith) (ap (read_number 1 largest_number) a.3 ∙ number_digits 1 largest_number a.0 a.1 a.2)
    ∙ number-refused i xs n (f + 1) (with_number r f a.0) (omega arith) (omega arith) (λ z b. g (suc z) (omega arith)) q
    ∙ ap (λ y. bad (BadNumber n y)) k

-- a line's fields, the first of which is its name
field-refused : (fs : List (List ℕ)) (n y : ℕ) → right_name (get_or fs 0 []) ≡ true → 2 ≤ y → y ≤ length fs
    → ((z : ℕ) → 2 ≤ z → z < y → Number (get_or fs (z - 1) [])) → (Number (get_or fs (y - 1) []) → ⊥) → read_fields n 1 no_row fs ≡ bad (BadNumber n y)
field-refused [] n y e a b g q = absurd (omega arith)
field-refused (x ∷ xs) n y e a b g q =
    let k : y - 1 ≡ suc (y - 2) = omega arith in
    let m : 2 + (y - 2) ≡ y = omega arith in
    next-name n 1 no_row x xs refl e
    ∙ number-refused (y - 2) xs n 2 (with_name no_row x) (omega arith) (omega arith) (λ z h. shifted z h) (rw k at q)
    ∙ ap (λ y. bad (BadNumber n y)) m
  where
    shifted : (z : ℕ) → z < y - 2 → Number (get_or xs z [])
    shifted z h =
        let k : 2 + z - 1 ≡ suc z = omega arith in
        rw k at (g (2 + z) (omega arith) (omega arith))

name-refused : (fs : List (List ℕ)) (n : ℕ) → 1 ≤ length fs → right_name (get_or fs 0 []) ≡ false → read_fields n 1 no_row fs ≡ bad (BadName n)
name-refused [] n h e = absurd (omega arith)
name-refused (x ∷ xs) n h e = bad-name n 1 no_row x xs refl e

-- a line that spells a row reads to it
module _ (l : List ℕ) (r : Row) (k : Spells l r) where
  spelled-row : (n : ℕ) → read_fields n 1 no_row (fields l) ≡ got r
  spelled-row n =
      ap (read_fields n 1 no_row) k.written
      ∙ next-name n 1 no_row r.name (map digits (numbers_of r)) refl k.name
      ∙ numbers-read (numbers_of r) n 2 (with_name no_row r.name) (omega arith) k.numbers
      ∙ ap got (row_made r.name r.period r.deadline r.times)

  spelled-read : (n : ℕ) (t : Table) → any waits t ≡ false → read_line n t l ≡ check_row n t r
  spelled-read n t w = row_read n t l w (sym (count-right l) ∙ k.count) r (spelled-row n)

said : (t : Table) (l : List ℕ) (ls : List (List ℕ)) → length t < most_rows → (w : Refusal) → read_line (length t + 1) t l ≡ bad w
    → Says (read_lines t (l ∷ ls)) (number_of w) (line_of w) (field_of w)
said t l ls h w e = rw (bad-line t l ls (omega arith) w e) (refl, refl, refl)

some-fields : (k : ℕ) → right_fields k ≡ true → 1 ≤ k
unfolding right_fields right_count ◌and◌
some-fields zero e = absurd (false≢true e)
some-fields (suc k) e = omega arith

-- a line that breaks a rule is refused by it
wrong-said : {t : Table} {l : List ℕ} {x y : ℕ} → Wrong t l x y → (ls : List (List ℕ)) → Says (read_lines t (l ∷ ls)) x (length t + 1) y
wrong-said {t} {l} (due4 e) ls = rw (many-lines t l ls e) (refl, refl, refl)
wrong-said {t} {l} (due5 h e) ls = said t l ls h (AfterWaiting (length t + 1)) (after-waiting (length t + 1) t l e)
wrong-said {t} {l} (due6 (h, w) e) ls = said t l ls h (FieldCount (length t + 1)) (field-count (length t + 1) t l w (sym (count-right l) ∙ e))
wrong-said {t} {l} (due7 (h, w) c e) ls =
    let n = length t + 1 in
    let k : right_fields (length (fields l)) ≡ true = sym (count-right l) ∙ c in
    said t l ls h (BadName n) (bad-field n t l w k (BadName n) (name-refused (fields l) n (some-fields (length (fields l)) k) e))
wrong-said {t} {l} (due8 y (h, w) c e a b g q) ls =
    let n = length t + 1 in
    said t l ls h (BadNumber n y) (bad-field n t l w (sym (count-right l) ∙ c) (BadNumber n y) (field-refused (fields l) n y e a b g q))
wrong-said {t} {l} (due9 r (h, w) k a) ls =
    let n = length t + 1 in
    said t l ls h (LateDeadline n) (spelled-read l r k n t w ∙ late-deadline n t r a)
wrong-said {t} {l} (due10 r (h, w) k a b) ls =
    let n = length t + 1 in
    said t l ls h (LongTimes n) (spelled-read l r k n t w ∙ long-times n t r (omega arith) (lt-ltb r.deadline (sum r.times) b))
wrong-said {t} {l} (due11 r (h, w) k a b d) ls =
    let n = length t + 1 in
    said t l ls h (NameTaken n) (spelled-read l r k n t w ∙ name-taken n t r a (le-ltb r.deadline (sum r.times) b) d)

-- the line of a right row has as many fields as it should
row-counted : (r : Row) → right_row r ≡ true → counted (row_line r) ≡ true
unfolding right_fields fields_of
row-counted r e =
    let f = fields-line r (row-name r e) in
    let k : length (fields (row_line r)) - fixed_fields ≡ length r.times = omega (arith, ap length f, length-map r.times digits) in
    count-right (row_line r) ∙ rw k (row_count r e)

-- right rows read on, whatever follows them
rows-read : (rs t : Table) (u : List ℕ) → length t + length rs ≤ most_rows → right_rows t rs ≡ true
    → read_lines t (lines (table_text rs ++ u)) ≡ read_lines (t ++ rs) (lines u)
unfolding right_rows table_text joined fields_of
rows-read [] t u h e = rw (append-nil t)
rows-read (r ∷ rs) t u h e =
    let w = and_parts e in
    let k = and_parts w.1 in
    let q = and_parts k.1 in
    let m = row-name r k.0 in
    let p : Spells (row_line r) r = record { written = fields-line r m; name = m; count = row-counted r k.0; numbers = row-numbers r k.0 } in
    ap (λ s. read_lines t (lines s)) (append_assoc (line_text r) (table_text rs) u)
    ∙ ap (read_lines t) (lines-line r (table_text rs ++ u) m)
    ∙ next-line t (row_line r) (lines (table_text rs ++ u)) (omega arith) r
    (spelled-read (row_line r) r p (length t + 1) t (not-true (any waits t) w.0)
    ∙ row-checked (length t + 1) t r (row-order r k.0) (le-ltb r.deadline (sum r.times) (row-sum r k.0)) (not-true (named r.name t) q.0))
    ∙ rows-read rs (t ++ (r ∷ [])) u (omega (arith, length-append t (r ∷ []))) q.1
    ∙ ap (λ v. read_lines v (lines u)) (append_assoc t (r ∷ []) rs)

-- there is room for the rows above a wrong line
wrong-room : {t : Table} {l : List ℕ} {x y : ℕ} → Wrong t l x y → length t ≤ most_rows
wrong-room (due4 e) = omega arith
wrong-room (due5 h e) = omega arith
wrong-room (due6 n e) = omega arith
wrong-room (due7 n c e) = omega arith
wrong-room (due8 y n c e a b g q) = omega arith
wrong-room (due9 r n k a) = omega arith
wrong-room (due10 r n k a b) = omega arith
wrong-room (due11 r n k a b d) = omega arith

due-said : (s : List ℕ) (x n y : ℕ) → RefusedAt s x n y → Says (read_text s) x n y
due-said s x n y i =
    let u = i.here ++ (line_feed ∷ i.rest) in
    let k : length s ≡ 0 → ⊥ = λ z. omega (arith, ap length i.cut, length-append (table_text i.above) u, length-append i.here (line_feed ∷ i.rest)) in
    let e : read_text s ≡ read_lines i.above (i.here ∷ lines i.rest) =
    text-lines s k i.short i.ended
    ∙ ap (λ s. read_lines [] (lines s)) i.cut
    ∙ rows-read i.above [] u (omega (arith, wrong-room i.wrong)) i.kept
    ∙ ap (read_lines i.above) (ap lines (sym (append_assoc i.here (line_feed ∷ []) i.rest)) ∙ lines-ended i.here i.rest i.one_line) in
    rw (e, i.place) (wrong-said i.wrong (lines i.rest))

-- EVERY REFUSAL FROM 4 ON IS GIVEN EXACTLY WHERE IT IS DUE, AT ITS LINE AND FIELD
pub places-hold : Places
places-hold s = (no_place s (read_text s) refl, (λ x n y h. (said-cause s (read_text s) refl x n y h, due-said s x n y)))
