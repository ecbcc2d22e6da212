-- Where a text can be refused (`text-place`): on one of its lines or the first too many, and at one of a line's fields.
use Rattle.std.specs.Prelude.{if◌then◌else◌}
use mathlib.Core.Path.{◌≡◌, refl}
use mathlib.Core.Bool.{Bool, true, false}
use mathlib.Core.List.{List, [], ◌∷◌, ◌++◌}
use Prim.Native.Nat.{ℕ, ◌+◌, ◌-◌, ◌≤◌, ◌<◌}
use native.Mathlib.Omega.{arith}
use lib.Dec.{eqb, ltb}
use lib.ListN.{length, get_or, length-append}
use borrow.Author.Tests.{eqb-false}
use Rattle.words.specs.Lists.{sum, any}
use Rattle.decimal.specs.Decimal.{read_number}
use Rattle.std.specs.Prelude.{Option, Some, None}
use Rattle.table.specs.Limits.{most_rows, most_times, largest_number, longest_text}
use Rattle.table.specs.Paper.{Row, Table, right_name, waits, named}
use Rattle.table.proofs.Rules.{count_most}
use Rattle.refusals.specs.declared.Refusal.{Refusal}
use Rattle.refusals.specs.Refusals.{number_of, line_of, field_of}
use Rattle.fields.specs.Fields.{line_feed}
use Rattle.text.specs.Split.{lines, fields}
use Rattle.text.specs.Read.{Answer, accepted, refused, Line, got, bad, fixed_fields, right_fields, no_row, with_name, with_number, on_number, on_line, read_fields, check_row, read_line, read_lines, read_text}

-- a refusal of a text: below 20, on one of the lines that a text may have or the next, and at one of a line's fields; 0 is none of them
pub record Place (x : Refusal) : Type 0 where
  pub number : number_of x < 20
  pub line : line_of x ≤ most_rows + 1
  pub field : field_of x ≤ fixed_fields + most_times

-- where a line is refused, it is by one of these
abbrev LinePlace : Line → Type 0
LinePlace (got r) = Unit {0}
LinePlace (bad x) = Place x

-- and so is a text
abbrev TextPlace : Answer → Type 0
TextPlace (accepted t) = Unit {0}
TextPlace (refused x) = Place x

-- what both branches of a test have, the choice has; each branch knows how the test came out
if-both : {A : Type 0} (P : A → Type 0) (b : Bool) (x y : A) → (b ≡ true → P x) → (b ≡ false → P y) → P (if b then x else y)
if-both P true x y p q = p refl
if-both P false x y p q = q refl

-- so has what goes on with a number, or without
number-both : {A : Type 0} (P : A → Type 0) (m : Option ℕ) (f : ℕ → A) (a : A) → ((v : ℕ) → P (f v)) → P a → P (on_number m f a)
number-both P (Some v) f a p q = p v
number-both P None f a p q = q

-- how many fields a line has that passed 6
fields-most : (k : ℕ) → right_fields k ≡ true → k ≤ fixed_fields + most_times
unfolding right_fields
fields-most k e = omega (arith, count_most (k - fixed_fields) e)

-- 7 and 8 name a field of the line: from field f on, none lies behind the last
fields-place : (xs : List (List ℕ)) (n f : ℕ) (r : Row) → n ≤ most_rows + 1 → f + length xs ≤ fixed_fields + most_times + 1 → LinePlace (read_fields n f r xs)
unfolding read_fields
fields-place [] n f r h k = tt
fields-place (x ∷ xs) n f r h k =
    if-both LinePlace (eqb f 1) _ _
    (λ e. if-both LinePlace (right_name x) _ _ (λ e. fields-place xs n (f + 1) (with_name r x) h (omega arith)) (λ e. omega arith))
    (λ e. number-both LinePlace (read_number 1 largest_number x) _ _ (λ v. fields-place xs n (f + 1) (with_number r f v) h (omega arith)) (omega arith))

-- 9, 10 and 11 name a fixed field, or none
check-place : (n : ℕ) (above : Table) (r : Row) → n ≤ most_rows + 1 → LinePlace (check_row n above r)
unfolding check_row
check-place n above r h =
    if-both LinePlace (ltb r.period r.deadline) _ _ (λ e. omega arith)
    (λ e. if-both LinePlace (ltb r.deadline (sum r.times)) _ _ (λ e. omega arith)
    (λ e. if-both LinePlace (named r.name above) _ _ (λ e. omega arith) (λ e. tt)))

-- 5 to 11 name line n
line-place : (n : ℕ) (above : Table) (l : List ℕ) → n ≤ most_rows + 1 → LinePlace (read_line n above l)
unfolding read_line
line-place n above l h =
    if-both LinePlace (any waits above) _ _ (λ e. omega arith)
    (λ e. if-both LinePlace (right_fields (length (fields l))) _ _
    (λ e. go (read_fields n 1 no_row (fields l)) (fields-place (fields l) n 1 no_row h (omega (arith, fields-most (length (fields l)) e))))
    (λ e. omega arith))
  where
    go : (x : Line) → LinePlace x → LinePlace (on_line x (check_row n above) bad)
    go (got r) p = check-place n above r h
    go (bad x) p = p

-- 4 to 11: a line is read only where the table has room for its row
lines-place : (ls : List (List ℕ)) (above : Table) → length above ≤ most_rows → TextPlace (read_lines above ls)
unfolding read_lines
lines-place [] above h = tt
lines-place (l ∷ ls) above h =
    if-both TextPlace (eqb (length above) most_rows) _ _ (λ e. omega arith)
    (λ e. go (read_line (length above + 1) above l) (line-place (length above + 1) above l (omega arith))
    (λ r. lines-place ls (above ++ (r ∷ [])) (omega (arith, eqb-false (length above) most_rows e, length-append above (r ∷ [])))))
  where
    go : (x : Line) → LinePlace x → ((r : Row) → TextPlace (read_lines (above ++ (r ∷ [])) ls)) → TextPlace (on_line x (λ r. read_lines (above ++ (r ∷ [])) ls) refused)
    go (got r) p q = q r
    go (bad x) p q = p

-- 1, 2 and 3 have no line
read-place : (s : List ℕ) → TextPlace (read_text s)
unfolding read_text
read-place s =
    if-both TextPlace (eqb (length s) 0) _ _ (λ e. omega arith)
    (λ e. if-both TextPlace (ltb longest_text (length s)) _ _ (λ e. omega arith)
    (λ e. if-both TextPlace (eqb (get_or s (length s - 1) 0) line_feed) _ _ (λ e. lines-place (lines s) [] (omega arith)) (λ e. omega arith)))

-- A TEXT IS REFUSED AT A PLACE THAT A TEXT CAN HAVE
pub text-place : (s : List ℕ) (x : Refusal) → read_text s ≡ refused x → Place x
text-place s x e = rw e at (read-place s)
