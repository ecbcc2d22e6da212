-- What reading a text gives: document 01, 'Refusal numbers', in the order in which it tests.
use Rattle.std.specs.Prelude.{Option, Some, None, Result, Ok, Err, Bool, List, [], ◌∷◌, ◌++◌, ℕ, ◌+◌, ◌-◌, eqb, ltb, length, get_or, if◌then◌else◌}
use Rattle.words.specs.Lists.{sum, any}
use Rattle.decimal.specs.Decimal.{read_number}
use Rattle.table.specs.Limits.{most_rows, largest_number, longest_text}
use Rattle.table.specs.Paper.{Row, Table, right_name, right_count, waits, named}
use Rattle.table.specs.Value.{table_value, empty_table}
use Rattle.table.specs.declared.Table.{Table as TableValue}
use Rattle.refusals.specs.declared.Refusal.{Refusal}
use Rattle.refusals.specs.declared.Refusal.TheVariants.{NoText, LongText, NoLineFeed, ManyLines, AfterWaiting, FieldCount, BadName, BadNumber, LateDeadline, LongTimes, NameTaken}
use Rattle.refusals.specs.Refusals.{number_of, line_of, field_of}
use Rattle.fields.specs.Fields.{line_feed}
use Rattle.text.specs.Split.{lines, fields}

-- a table, or the refusal that ended the reading
pub data Answer : Type 0 where
  accepted : Table → Answer
  refused : Refusal → Answer

-- a line's row, or the refusal of the line
pub data Line : Type 0 where
  got : Row → Line
  bad : Refusal → Line

-- the fields of a line before its times: name, T, D
abbrev pub fixed_fields : ℕ
fixed_fields = 3

-- 4, 6, 8 or 10 fields
unfoldable pub right_fields : ℕ → Bool
right_fields k = right_count (k - fixed_fields)

-- the row before any field is read
abbrev pub no_row : Row
no_row = record { name = []; period = 0; deadline = 0; times = [] }

-- the row with its name
abbrev pub with_name : Row → List ℕ → Row
with_name r x = record { name = x; period = r.period; deadline = r.deadline; times = r.times }

-- the row with the number of field f: T, D, then the times one after another
unfoldable pub with_number : Row → ℕ → ℕ → Row
with_number r f v =
    if eqb f 2 then record { name = r.name; period = v; deadline = r.deadline; times = r.times }
    else if eqb f 3 then record { name = r.name; period = r.period; deadline = v; times = r.times }
    else record { name = r.name; period = r.period; deadline = r.deadline; times = r.times ++ (v ∷ []) }

-- goes on with the number, where there is one
abbrev pub on_number : {A : Type 0} → Option ℕ → (ℕ → A) → A → A
on_number (Some v) f a = f v
on_number None f a = a

-- 7 and 8: the fields of line n from field f on, left to right, where r is the row so far
unfoldable pub read_fields : ℕ → ℕ → Row → List (List ℕ) → Line
read_fields n f r [] = got r
read_fields n f r (x ∷ xs) =
    if eqb f 1
    then (if right_name x then read_fields n (f + 1) (with_name r x) xs else bad (BadName n))
    else on_number (read_number 1 largest_number x) (λ v. read_fields n (f + 1) (with_number r f v) xs) (bad (BadNumber n f))

-- 9, 10 and 11: the row of line n, below the rows above it
unfoldable pub check_row : ℕ → Table → Row → Line
check_row n above r =
    if ltb r.period r.deadline then bad (LateDeadline n)
    else if ltb r.deadline (sum r.times) then bad (LongTimes n)
    else if named r.name above then bad (NameTaken n)
    else got r

-- goes on with the row, or with the refusal
abbrev pub on_line : {A : Type 0} → Line → (Row → A) → (Refusal → A) → A
on_line (got r) f g = f r
on_line (bad x) f g = g x

-- 5 to 11: line n, below the rows above it
unfoldable pub read_line : ℕ → Table → List ℕ → Line
read_line n above l =
    if any waits above then bad (AfterWaiting n)
    else if right_fields (length (fields l)) then on_line (read_fields n 1 no_row (fields l)) (check_row n above) bad
    else bad (FieldCount n)

-- 4 to 11: the lines below the rows above them
unfoldable pub read_lines : Table → List (List ℕ) → Answer
read_lines above [] = accepted above
read_lines above (l ∷ ls) =
    if eqb (length above) most_rows then refused (ManyLines (length above + 1))
    else on_line (read_line (length above + 1) above l) (λ r. read_lines (above ++ (r ∷ [])) ls) refused

-- 1, 2 and 3 look at the whole text, then it goes line by line
unfoldable pub read_text : List ℕ → Answer
read_text s =
    if eqb (length s) 0 then refused NoText
    else if ltb longest_text (length s) then refused LongText
    else if eqb (get_or s (length s - 1) 0) line_feed then read_lines [] (lines s)
    else refused NoLineFeed

-- the answer as a value
abbrev pub reading_of : Answer → Result TableValue Refusal
reading_of (accepted t) = Ok (table_value t)
reading_of (refused x) = Err x

-- the table of a reading: the empty table after a refusal, of which no row is kept
abbrev pub table_in : Result TableValue Refusal → TableValue
table_in (Ok v) = v
table_in (Err x) = empty_table

-- the number of a reading: 0 where the text was accepted
abbrev pub number_of_outcome : Result TableValue Refusal → ℕ
number_of_outcome (Ok v) = 0
number_of_outcome (Err x) = number_of x

-- its line, 0 where the text was accepted
abbrev pub line_of_outcome : Result TableValue Refusal → ℕ
line_of_outcome (Ok v) = 0
line_of_outcome (Err x) = line_of x

-- its field, 0 where the text was accepted
abbrev pub field_of_outcome : Result TableValue Refusal → ℕ
field_of_outcome (Ok v) = 0
field_of_outcome (Err x) = field_of x
