-- The lines of a run, as the code has them. proofs/Tables shows that together they are `run_text`.
use Rattle.std.specs.Prelude.{Option, Some, None, List, [], ◌∷◌, map, ℕ, min, get_or}
use Rattle.words.specs.Lists.{below}
use Rattle.words.specs.Spelled.{spelled}
use Rattle.decimal.specs.Decimal.{digits}
use Rattle.fields.specs.Fields.{line}
use Rattle.table.specs.Value.{no_value, row_of}
use Rattle.table.specs.declared.Row.{Row as RowValue}
use Rattle.table.specs.declared.Table.{Table as TableValue}
use Rattle.ticks.specs.declared.Instant.{Instant}
use Rattle.table.specs.Limits.{most_rows}

-- a completion, as the machine has it
abbrev pub first_text : Option Instant → List ℕ
first_text (Some i) = digits i.0
first_text None = spelled "-"

-- the line of row k, from 0
abbrev pub line_at : List RowValue → List (Option Instant) → ℕ → List ℕ
line_at rows firsts k = line (row_of (get_or rows k no_value)).name (first_text (get_or firsts k None) ∷ [])

-- the lines of a run: no more than the arrays have
abbrev pub run_lines : TableValue → List (Option Instant) → List (List ℕ)
run_lines v firsts = map (line_at v.rows firsts) (below (min v.len most_rows))
