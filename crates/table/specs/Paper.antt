-- A table on paper, and the rules that it keeps: document 01, 'The table and its text'.
use Rattle.std.specs.Prelude.{Bool, true, not, List, [], ◌∷◌, ◌++◌, ℕ, ◌+◌, ◌%◌, eqb, ltb, leb, length, get_or}
use Rattle.words.specs.Choice.{◌and◌, ◌or◌}
use Rattle.words.specs.Lists.{sum, all, any, same}
use Rattle.table.specs.Limits.{most_rows, most_times, longest_name, largest_number}

-- a row: its name, T, D, and its times C1, S1, C2, ..
pub record Row : Type 0 where
  pub name : List ℕ
  pub period : ℕ
  pub deadline : ℕ
  pub times : List ℕ

-- a table: its rows, highest priority first
abbrev pub Table : Type 0
Table = List Row

-- the row with number k, from 0; one with nothing in it where there is none
abbrev pub row_at : Table → ℕ → Row
row_at t k = get_or t k (record { name = []; period = 0; deadline = 0; times = [] })

-- a stretch, with the suspension before it
pub data Part : Type 0 where
  part : ℕ → ℕ → Part

-- S1 C2, S2 C3, ..
abbrev pub behind : List ℕ → List Part
behind [] = []
behind (s ∷ []) = []
behind (s ∷ c ∷ l) = part s c ∷ behind l

-- a row's times, stretch by stretch: C1 with no suspension before it, then the others
abbrev pub parts : List ℕ → List Part
parts [] = []
parts (c ∷ l) = part 0 c ∷ behind l

-- all C added
abbrev pub work : List Part → ℕ
work [] = 0
work (part s c ∷ l) = c + work l

-- all C and S added
abbrev pub total : List Part → ℕ
total [] = 0
total (part s c ∷ l) = s + c + total l

-- a byte from a to z, 0 to 9 or the hyphen
unfoldable pub name_byte : ℕ → Bool
name_byte b = (leb 97 b and leb b 122) or (leb 48 b and leb b 57) or eqb b 45

-- a name: 1 to 12 such bytes
unfoldable pub right_name : List ℕ → Bool
right_name bs = leb 1 (length bs) and leb (length bs) longest_name and all name_byte bs

-- a number: 1 to 1,000,000
unfoldable pub right_number : ℕ → Bool
right_number n = leb 1 n and leb n largest_number

-- 1 to 4 computation times, with one suspension time between each two: an odd number of times
unfoldable pub right_count : ℕ → Bool
right_count n = eqb (n % 2) 1 and leb n most_times

-- the rules of a row by itself; D is at most T, and all C and S add up to at most D
unfoldable pub right_row : Row → Bool
right_row r =
    right_name r.name and right_number r.period and right_number r.deadline
    and right_count (length r.times) and all right_number r.times
    and leb r.deadline r.period and leb (sum r.times) r.deadline

-- a row with a suspension, the waiting row
unfoldable pub waits : Row → Bool
waits r = ltb 1 (length r.times)

-- a row of the table has the name
unfoldable pub named : List ℕ → Table → Bool
named name t = any (λ r. same name r.name) t

-- each row below those above it: none above it waits, it keeps its own rules, and its name is new
unfoldable pub right_rows : Table → Table → Bool
right_rows above [] = true
right_rows above (r ∷ rs) =
    not (any waits above) and right_row r and not (named r.name above) and right_rows (above ++ (r ∷ [])) rs

-- a table: 1 to 16 rows
unfoldable pub right_table : Table → Bool
right_table t = leb 1 (length t) and leb (length t) most_rows and right_rows [] t
