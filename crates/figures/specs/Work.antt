-- What the functions within the crate go by: the rows above as loads, and how far their releases are counted.
use Rattle.std.specs.Prelude.{◌≡◌, true, List, [], ◌∷◌, ℕ, ◌+◌, ◌*◌, ◌≤◌, ◌<◌, length, get_or}
use Rattle.std.proofs.Common.{lit≤}
use Rattle.std.proofs.Math.Option.{Option, some}
use Rattle.table.specs.Limits.{most_rows}
use Rattle.table.specs.Paper.{Row, Part, part, parts, work, right_row}
use Rattle.table.specs.Value.{no_value, row_of, row_value}
use Rattle.table.specs.declared.Row.{Row as RowValue}
use Rattle.figures.specs.declared.load.Load.{Load}
use Rattle.figures.specs.declared.Worked.{Worked}
use Rattle.recurrence.specs.Figures.{arrivals, demand, right, result, rounds, plus, unless_none}
use Rattle.verdicts.specs.Verdicts.{figure_of}

-- what a recurrence comes to
abbrev pub worked_of : (ℕ → ℕ) → ℕ → ℕ → Worked
worked_of f d c = record { figure = figure_of (result f d c); rounds = rounds f d c }

-- split and its rounds, by the result and the rounds of a stretch of c
abbrev pub split_by : (ℕ → Option ℕ) → List Part → Option ℕ
split_by res [] = some 0
split_by res (part s c ∷ l) = plus s (res c) (split_by res l)

abbrev pub rounds_by : (ℕ → Option ℕ) → (ℕ → ℕ) → List Part → ℕ
rounds_by res num [] = 0
rounds_by res num (part s c ∷ l) = num c + unless_none (res c) (rounds_by res num l)

-- what a list of loads gives where it has none: a row that asks for nothing, with what the type says of it
abbrev pub no_load : Load
no_load = record { period = 1; work = 0; until = 0; some = lit≤ tt; period_safe = lit≤ tt; work_safe = lit≤ tt; near = lit≤ tt }

-- the rows above, as the loads have them
abbrev pub rows_from : List Load → ℕ → Row
rows_from above i = record { name = []; period = (get_or above i no_load).period; deadline = 0; times = (get_or above i no_load).work ∷ [] }

-- the right side of the recurrence, below these rows
abbrev pub right_below : List Load → ℕ → ℕ → ℕ
right_below above c = right (rows_from above) (length above) c

-- what the stretches of a row by themselves come to, below these rows
abbrev pub split_worked : List Load → Row → Worked
split_worked above r =
    record {
      figure = figure_of (split_by (λ c. result (right_below above c) r.deadline c) (parts r.times));
      rounds = rounds_by (λ c. result (right_below above c) r.deadline c) (λ c. rounds (right_below above c) r.deadline c) (parts r.times);
    }

-- the releases counted at some instant `at` no later than t: sum is what they ask for, and each row's count holds until its own instant
pub record Counted (above : List Load) (t sum : ℕ) : Type 0 where
  pub at : ℕ
  pub before : at ≤ t
  pub sums : sum ≡ demand (rows_from above) (length above) at
  pub holds : (i : ℕ) → i < length above → (get_or above i no_load).until ≡ arrivals (rows_from above i) at * (rows_from above i).period

-- the same, counted at t
pub record CountedAt (above : List Load) (t sum : ℕ) : Type 0 where
  pub sums : sum ≡ demand (rows_from above) (length above) t
  pub holds : (i : ℕ) → i < length above → (get_or above i no_load).until ≡ arrivals (rows_from above i) t * (rows_from above i).period

-- the rows that row values stand for, from 0
abbrev pub rows_of : List RowValue → ℕ → Row
rows_of rows i = row_of (get_or rows i no_value)

-- loads for as many rows as a table may have, those of these rows first
pub record Loaded (rows : List RowValue) (above : List Load) : Type 0 where
  pub size : length above ≡ most_rows
  pub period : (i : ℕ) → i < length rows → (get_or above i no_load).period ≡ (rows_of rows i).period
  pub work-is : (i : ℕ) → i < length rows → (get_or above i no_load).work ≡ work (parts (rows_of rows i).times)

-- a row value that keeps its rules: it is the value of a right row
pub record Kept (v : RowValue) : Type 0 where
  pub value : v ≡ row_value (row_of v)
  pub right : right_row (row_of v) ≡ true
