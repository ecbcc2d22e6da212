-- The parts of a report, and its lines as the code has them. proofs/Tables shows that together they are `report_text`.
use Rattle.std.specs.Prelude.{Result, Ok, Err, List, [], ◌∷◌, ◌++◌, map, ℕ, min, get_or}
use Rattle.words.specs.Lists.{below}
use Rattle.fields.specs.Fields.{line, joined}
use Rattle.refusals.specs.declared.Refusal.{Refusal}
use Rattle.refusals.specs.declared.Refusal.TheVariants.{NoSuchRow}
use Rattle.table.specs.Paper.{Row}
use Rattle.table.specs.Value.{no_value, row_of}
use Rattle.table.specs.declared.Row.{Row as RowValue}
use Rattle.table.specs.Limits.{most_rows}
use Rattle.table.specs.declared.Table.{Table as TableValue}
use Rattle.figures.specs.declared.TableFigures.{TableFigures}
use Rattle.figures.specs.declared.RowFigures.{RowFigures}
use Rattle.report.specs.Report.{row_line, last_line}

-- the line of an answer about a row; a refused row has none
abbrev pub answer_line : Row → Result RowFigures Refusal → List ℕ
answer_line r (Ok f) = row_line r f
answer_line r (Err why) = []

-- what is said to stand behind an array's end, where nothing does
abbrev pub no_answer : Result RowFigures Refusal
no_answer = Err NoSuchRow

-- the line of row k, from 0
abbrev pub line_at : List RowValue → List (Result RowFigures Refusal) → ℕ → List ℕ
line_at rows answers k = answer_line (row_of (get_or rows k no_value)) (get_or answers k no_answer)

-- the first n lines
abbrev pub lines_text : List RowValue → List (Result RowFigures Refusal) → ℕ → List ℕ
lines_text rows answers n = joined (map (line_at rows answers) (below n))

-- the line of a row value, as the code has it: its name alone where nothing is said of it
abbrev pub said_line : RowValue → Result RowFigures Refusal → List ℕ
said_line v (Ok f) = row_line (row_of v) f
said_line v (Err why) = line (row_of v).name []

-- what is said of row k, from 0
abbrev pub said_at : TableValue → TableFigures → ℕ → List ℕ
said_at v f k = said_line (get_or v.rows k no_value) (get_or f.rows k no_answer)

-- the lines of a report: those of the rows, no more than the arrays have, and the last line
abbrev pub report_lines : TableValue → TableFigures → List (List ℕ)
report_lines v f = map (said_at v f) (below (min v.len most_rows)) ++ (last_line f.verdict ∷ [])
