-- Which refusals a text can meet: 1, 2 and 3 for the whole of it, and 4 to 11 from its lines; and how far line and field can go.
use Rattle.std.specs.Prelude.{if◌then◌else◌}
use mathlib.Core.Path.{◌≡◌, refl, sym, ◌∙◌}
use mathlib.Core.Bool.{Bool, true, false}
use mathlib.Core.List.{List, [], ◌∷◌, ◌++◌}
use Prim.Native.Nat.{ℕ, ◌+◌, ◌-◌, ◌≤◌, ◌<◌}
use native.Mathlib.Omega.{arith}
use lib.Dec.{eqb, ltb}
use lib.ListN.{length, get_or, length-append}
use borrow.Author.Tests.{eqb-true, eqb-false, ltb-true, ltb-false, leb-true}
use Rattle.words.specs.Lists.{sum, any}
use Rattle.words.proofs.Choice.{and_parts}
use Rattle.std.specs.Prelude.{Option, Some, None}
use Rattle.decimal.specs.Decimal.{read_number}
use Rattle.table.specs.Limits.{most_rows, most_times, largest_number, longest_text}
use Rattle.table.specs.Paper.{Row, Table, right_name, right_count, waits, named}
use Rattle.refusals.specs.declared.Refusal.{Refusal}
use Rattle.refusals.specs.declared.Refusal.TheVariants.{NoText, LongText, NoLineFeed, ManyLines, FieldCount}
use Rattle.refusals.specs.Refusals.{number_of, line_of, field_of}
use Rattle.fields.specs.Fields.{line_feed}
use Rattle.text.specs.Split.{lines, fields}
use Rattle.text.specs.Read.{Answer, accepted, refused, Line, got, bad, fixed_fields, right_fields, no_row, with_name, with_number, on_number, read_fields, check_row, on_line, read_line, read_lines, read_text}

-- the most fields of a line
abbrev most_fields : ℕ
most_fields = fixed_fields + most_times

-- line n is refused by 4 to 11, at line n
record AtLine (n : ℕ) (x : Refusal) : Type 0 where
  low : 4 ≤ number_of x
  high : number_of x ≤ 11
  line : line_of x ≡ n
  field : field_of x ≤ most_fields

data InLine (n : ℕ) : Line → Type 0 where
  good : {r : Row} → InLine n (got r)
  numbered : {x : Refusal} → AtLine n x → InLine n (bad x)

-- lines are refused by 4 to 11, at one of the lines that a table may have or the one behind them
pub record InText (x : Refusal) : Type 0 where
  pub low : 4 ≤ number_of x
  pub high : number_of x ≤ 11
  pub first : 1 ≤ line_of x
  pub last : line_of x ≤ most_rows + 1
  pub field : field_of x ≤ most_fields

abbrev pub InLines : Answer → Type 0
InLines (accepted t) = Unit {0}
InLines (refused x) = InText x

either : {n : ℕ} (b : Bool) {x y : Line} → InLine n x → InLine n y → InLine n (if b then x else y)
either true p q = p
either false p q = q

on-number : {n : ℕ} (o : Option ℕ) (g : ℕ → Line) (x : Line) → ((v : ℕ) → InLine n (g v)) → InLine n x → InLine n (on_number o g x)
on-number (Some v) g x p q = p v
on-number None g x p q = q

fields_in : (n f : ℕ) (r : Row) (xs : List (List ℕ)) → f + length xs ≤ most_fields + 1 → InLine n (read_fields n f r xs)
unfolding read_fields
fields_in n f r [] h = good
fields_in n f r (x ∷ xs) h =
    either (eqb f 1)
    (either (right_name x) (fields_in n (f + 1) (with_name r x) xs (omega arith)) (numbered (record { low = omega arith; high = omega arith; line = refl; field = omega arith })))
    (on-number (read_number 1 largest_number x) _ _ (λ v. fields_in n (f + 1) (with_number r f v) xs (omega arith))
    (numbered (record { low = omega arith; high = omega arith; line = refl; field = omega arith })))

check-in : (n : ℕ) (above : Table) (r : Row) → InLine n (check_row n above r)
unfolding check_row
check-in n above r =
    either (ltb r.period r.deadline) (numbered (record { low = omega arith; high = omega arith; line = refl; field = omega arith }))
    (either (ltb r.deadline (sum r.times)) (numbered (record { low = omega arith; high = omega arith; line = refl; field = omega arith }))
    (either (named r.name above) (numbered (record { low = omega arith; high = omega arith; line = refl; field = omega arith })) good))

on_line-in : {n : ℕ} (x : Line) (g : Row → Line) → InLine n x → ((r : Row) → InLine n (g r)) → InLine n (on_line x g bad)
on_line-in (got r) g p q = q r
on_line-in (bad x) g p q = p

few-fields : (k : ℕ) → right_fields k ≡ true → 1 + k ≤ most_fields + 1
unfolding right_fields right_count
few-fields k e = omega (arith, leb-true (k - fixed_fields) most_times (and_parts e).1)

line-in : (n : ℕ) (above : Table) (l : List ℕ) → InLine n (read_line n above l)
unfolding read_line
line-in n above l =
    either (any waits above) (numbered (record { low = omega arith; high = omega arith; line = refl; field = omega arith }))
    (go (right_fields (length (fields l))) refl)
  where
    go : (b : Bool) → right_fields (length (fields l)) ≡ b
        → InLine n (if b then on_line (read_fields n 1 no_row (fields l)) (check_row n above) bad else bad (FieldCount n))
    go true e = on_line-in _ (check_row n above) (fields_in n 1 no_row (fields l) (few-fields (length (fields l)) e)) (check-in n above)
    go false e = numbered {x = FieldCount n} (record { low = omega arith; high = omega arith; line = refl; field = omega arith })

lines-in : (above : Table) (ls : List (List ℕ)) → length above ≤ most_rows → InLines (read_lines above ls)
unfolding read_lines
lines-in above [] h = tt
lines-in above (l ∷ ls) h =
    go (eqb (length above) most_rows) refl (read_line (length above + 1) above l) (line-in (length above + 1) above l)
    (λ r le. lines-in (above ++ (r ∷ [])) ls (omega (arith, length-append above (r ∷ []))))
  where
    go : (b : Bool) → eqb (length above) most_rows ≡ b → (x : Line) → InLine (length above + 1) x
        → ((r : Row) → length above < most_rows → InLines (read_lines (above ++ (r ∷ [])) ls))
        → InLines (if b then refused (ManyLines (length above + 1)) else on_line x (λ r. read_lines (above ++ (r ∷ [])) ls) refused)
    go true e x p q = record { low = omega arith; high = omega arith; first = omega arith; last = omega arith; field = omega arith }
    go false e (got r) p q = q r (omega (arith, eqb-false (length above) most_rows e))
    go false e (bad x) (numbered p) q =
        record { low = p.low; high = p.high; first = omega (arith, p.line); last = omega (arith, p.line); field = p.field }

-- how a text fares: 1, 2, 3, or line by line
pub data Fared (s : List ℕ) : Type 0 where
  empty : length s ≡ 0 → read_text s ≡ refused NoText → Fared s
  long : longest_text < length s → read_text s ≡ refused LongText → Fared s
  unended : 1 ≤ length s → length s ≤ longest_text → (get_or s (length s - 1) 0 ≡ line_feed → ⊥) → read_text s ≡ refused NoLineFeed → Fared s
  lined : 1 ≤ length s → length s ≤ longest_text → get_or s (length s - 1) 0 ≡ line_feed → InLines (read_text s) → Fared s

pub fared : (s : List ℕ) → Fared s
unfolding read_text
fared s = go (eqb (length s) 0) refl (ltb longest_text (length s)) refl (eqb (get_or s (length s - 1) 0) line_feed) refl
  where
    go : (a : Bool) → eqb (length s) 0 ≡ a → (b : Bool) → ltb longest_text (length s) ≡ b → (c : Bool) → eqb (get_or s (length s - 1) 0) line_feed ≡ c → Fared s
    go true p b q c r = empty (eqb-true (length s) 0 p) (rw p)
    go false p true q c r = long (ltb-true longest_text (length s) q) (rw (p, q))
    go false p false q false r =
        unended (omega (arith, eqb-false (length s) 0 p)) (ltb-false longest_text (length s) q) (eqb-false (get_or s (length s - 1) 0) line_feed r) (rw (p, q, r))
    go false p false q true r =
        lined (omega (arith, eqb-false (length s) 0 p)) (ltb-false longest_text (length s) q) (eqb-true (get_or s (length s - 1) 0) line_feed r)
        (rw (p, q, r) (lines-in [] (lines s) (omega arith)))

-- a text is refused by 1 to 11, at a line of at most 17 and a field of at most 10
pub record Refuses (x : Refusal) : Type 0 where
  pub low : 1 ≤ number_of x
  pub high : number_of x ≤ 11
  pub last : line_of x ≤ most_rows + 1
  pub field : field_of x ≤ most_fields

pub text-refuses : (s : List ℕ) (x : Refusal) → read_text s ≡ refused x → Refuses x
text-refuses s x z = go (fared s)
  where
    same : (w x : Refusal) → refused w ≡ refused x → w ≡ x
    same w x e = cc

    go : Fared s → Refuses x
    go (empty l e) = rw (← same NoText x (sym e ∙ z)) (record { low = omega arith; high = omega arith; last = omega arith; field = omega arith })
    go (long l e) = rw (← same LongText x (sym e ∙ z)) (record { low = omega arith; high = omega arith; last = omega arith; field = omega arith })
    go (unended k l g e) = rw (← same NoLineFeed x (sym e ∙ z)) (record { low = omega arith; high = omega arith; last = omega arith; field = omega arith })
    go (lined k l g h) =
        let p : InLines (refused x) = rw z at h in
        record { low = omega (arith, p.low); high = p.high; last = p.last; field = p.field }
