-- The lines of a table, as the code has them. proofs/Writer shows that together they are `table_text`.
use Rattle.std.specs.Prelude.{List, map, ℕ, min, get_or}
use Rattle.words.specs.Lists.{below}
use Rattle.table.specs.Limits.{most_rows}
use Rattle.table.specs.Value.{no_value, row_of}
use Rattle.table.specs.declared.Row.{Row as RowValue}
use Rattle.text.specs.Write.{line_text}
use Rattle.table.specs.declared.Table.{Table as TableValue}

-- the line of row k, from 0
abbrev pub line_at : List RowValue → ℕ → List ℕ
line_at rows k = line_text (row_of (get_or rows k no_value))

-- the lines of all rows: no more than the array has
abbrev pub row_lines : TableValue → List (List ℕ)
row_lines v = map (line_at v.rows) (below (min v.len most_rows))
