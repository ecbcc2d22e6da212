-- A table as a value: what it stands for on paper, and the value that a table on paper has.
use Rattle.std.specs.Prelude.{Bool, true, false, List, [], ◌∷◌, ◌++◌, map, ℕ, ◌-◌, eqb, length, take, replicate}
use Rattle.ticks.specs.Ticks.{ticks, long}
use Rattle.words.specs.Choice.{◌and◌}
use Rattle.words.specs.Lists.{any, same, up_to, padded}
use Rattle.table.specs.declared.Row.{Row as RowValue}
use Rattle.table.specs.declared.Table.{Table as TableValue}
use Rattle.table.specs.Limits.{most_rows, most_times, longest_name}
use Rattle.table.specs.Paper.{Row, Table, right_table}

-- the row that a value stands for: its name and its times end at the first zero
abbrev pub row_of : RowValue → Row
row_of v = record { name = up_to 0 v.name; period = v.period.0; deadline = v.deadline.0; times = up_to 0 (map ticks v.times) }

-- the table that a value stands for
unfoldable pub table_of : TableValue → Table
table_of v = map row_of (take v.len v.rows)

-- the value of a row: zeros behind its name and its times
abbrev pub row_value : Row → RowValue
row_value r =
    record {
      name = padded longest_name r.name;
      period = long r.period;
      deadline = long r.deadline;
      times = map long (padded most_times r.times);
    }

-- a row that is not used: all zero
abbrev pub empty_row : RowValue
empty_row = record { name = replicate longest_name 0; period = long 0; deadline = long 0; times = replicate most_times (long 0) }

-- what a list of row values gives where it has none
abbrev pub no_value : RowValue
no_value = record { name = []; period = long 0; deadline = long 0; times = [] }

-- the value of a table: rows that are not used behind its own
unfoldable pub table_value : Table → TableValue
table_value t = record { rows = map row_value t ++ replicate (most_rows - length t) empty_row; len = length t }

-- no row at all
abbrev pub empty_table : TableValue
empty_table = record { rows = replicate most_rows empty_row; len = 0 }

-- one of the rows has the name, both with the zeros behind it
unfoldable pub name_in : List ℕ → List RowValue → Bool
name_in name rows = any (λ v. same name v.name) rows

-- two values of a row are equal
unfoldable pub same_row : RowValue → RowValue → Bool
same_row v w =
    same v.name w.name and eqb v.period.0 w.period.0 and eqb v.deadline.0 w.deadline.0
    and same (map ticks v.times) (map ticks w.times)

-- two lists of such values are equal
unfoldable pub same_rows : List RowValue → List RowValue → Bool
same_rows [] [] = true
same_rows [] (w ∷ ws) = false
same_rows (v ∷ vs) [] = false
same_rows (v ∷ vs) (w ∷ ws) = same_row v w and same_rows vs ws

-- the test behind refusal 20: the value is that of the table it stands for, and that is a right table
unfoldable pub well_formed : TableValue → Bool
well_formed v =
    eqb v.len (table_value (table_of v)).len and same_rows v.rows (table_value (table_of v)).rows and right_table (table_of v)
