-- THE REFUSALS 4 TO 11 OF A TEXT, a second time and with no reader: which line is the first bad one, and which rule it breaks first, at
-- which field. Document 01, 'Refusal numbers'. proofs/Places shows that text::read gives exactly these; 1, 2 and 3 are in specs/Demands.
use Rattle.std.specs.Prelude.{◌≡◌, Bool, true, false, not, List, [], ◌∷◌, ◌++◌, map, ◌↔◌, ℕ, ◌+◌, ◌-◌, ◌≤◌, ◌<◌, eqb, length, get_or}
use Rattle.words.specs.Lists.{sum, all, any}
use Rattle.decimal.specs.Decimal.{digits}
use Rattle.fields.specs.Fields.{line_feed}
use Rattle.table.specs.Limits.{most_rows, largest_number, longest_text}
use Rattle.table.specs.Paper.{Row, Table, right_name, right_number, waits, named, right_rows}
use Rattle.text.specs.Split.{fields}
use Rattle.text.specs.Read.{line_of_outcome, field_of_outcome}
use Rattle.text.specs.Write.{table_text}
use Rattle.promises.specs.Demands.{reading, text_number}

-- the line of what a text reads as
abbrev pub text_line : List ℕ → ℕ
text_line s = line_of_outcome (reading s)

-- its field
abbrev pub text_field : List ℕ → ℕ
text_field s = field_of_outcome (reading s)

-- field y of a line, from 1
abbrev pub field : List ℕ → ℕ → List ℕ
field l y = get_or (fields l) (y - 1) []

-- a line of 4, 6, 8 or 10 fields
abbrev pub counted : List ℕ → Bool
counted l = any (eqb (length (fields l))) (4 ∷ 6 ∷ 8 ∷ 10 ∷ [])

-- the bytes of a number: decimal, 1 to 1,000,000, with no leading zero and no sign
abbrev pub Number : List ℕ → Type 0
Number x = (k : ℕ) × (1 ≤ k) × (k ≤ largest_number) × (x ≡ digits k)

-- a line may follow the rows t: it is at most the 16th, and none of them has a suspension
abbrev pub Next : Table → Type 0
Next t = (length t < most_rows) × (any waits t ≡ false)

-- the fields of l are name, T, D, C1, S1, C2 and so on of the row r; their count, the name and the numbers are right
pub record Spells (l : List ℕ) (r : Row) : Type 0 where
  pub written : fields l ≡ r.name ∷ map digits (r.period ∷ r.deadline ∷ r.times)
  pub count : counted l ≡ true
  pub name : right_name r.name ≡ true
  pub numbers : all right_number (r.period ∷ r.deadline ∷ r.times) ≡ true

-- the line l, below the rows t, breaks the rule with that number, none before it, at that field
pub data Wrong (t : Table) (l : List ℕ) : ℕ → ℕ → Type 0 where
  -- a 17th line begins
  due4 : length t ≡ most_rows → Wrong t l 4 0
  -- a line begins after a row with a suspension
  due5 : length t < most_rows → any waits t ≡ true → Wrong t l 5 0
  -- field count not 4, 6, 8 or 10
  due6 : Next t → counted l ≡ false → Wrong t l 6 0
  -- name of wrong length or with another byte
  due7 : Next t → counted l ≡ true → right_name (field l 1) ≡ false → Wrong t l 7 1
  -- not a number, and all fields to the left of it are right
  due8 : (y : ℕ) → Next t → counted l ≡ true → right_name (field l 1) ≡ true
      → 2 ≤ y → y ≤ length (fields l) → ((z : ℕ) → 2 ≤ z → z < y → Number (field l z)) → (Number (field l y) → ⊥) → Wrong t l 8 y
  -- D above T
  due9 : (r : Row) → Next t → Spells l r → r.period < r.deadline → Wrong t l 9 3
  -- all C and S of the row add up to more than D
  due10 : (r : Row) → Next t → Spells l r → r.deadline ≤ r.period → r.deadline < sum r.times → Wrong t l 10 0
  -- name of an earlier row
  due11 : (r : Row) → Next t → Spells l r → r.deadline ≤ r.period → sum r.times ≤ r.deadline → named r.name t ≡ true → Wrong t l 11 1

-- the text s is to be refused by x at line n, field y
pub record RefusedAt (s : List ℕ) (x n y : ℕ) : Type 0 where
  -- 2 and 3 come first
  pub short : length s ≤ longest_text
  pub ended : get_or s (length s - 1) 0 ≡ line_feed
  -- the text of right rows, then one line more
  pub above : Table
  pub here : List ℕ
  pub rest : List ℕ
  pub cut : s ≡ table_text above ++ (here ++ (line_feed ∷ rest))
  pub one_line : all (λ b. not (eqb b line_feed)) here ≡ true
  pub kept : right_rows [] above ≡ true
  -- that line is line n, and the first bad one
  pub place : n ≡ length above + 1
  pub wrong : Wrong above here x y

-- a text is refused by x from 4 on, at line n, field y, exactly where it is to be; without such a number it has neither line nor field
abbrev pub Places : Type 0
Places = (s : List ℕ)
    → (text_number s ≤ 3 → (text_line s ≡ 0) × (text_field s ≡ 0))
    × ((x n y : ℕ) → 4 ≤ x → ((text_number s ≡ x) × (text_line s ≡ n) × (text_field s ≡ y)) ↔ RefusedAt s x n y)
