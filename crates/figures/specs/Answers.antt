-- The library's answers about figures, as values.
use Rattle.std.specs.Prelude.{List, [], ◌∷◌, ◌++◌, map, ℕ, ◌-◌, leb, length, replicate, Result, Ok, Err, if◌then◌else◌}
use Rattle.std.proofs.Math.Option.{Option, none}
use Rattle.words.specs.Choice.{◌and◌}
use Rattle.words.specs.Lists.{below}
use Rattle.refusals.specs.Refusals.{number_of}
use Rattle.refusals.specs.declared.Refusal.{Refusal}
use Rattle.refusals.specs.declared.Refusal.TheVariants.{BadTable, NoSuchRow}
use Rattle.table.specs.Limits.{most_rows}
use Rattle.table.specs.Paper.{Row, Table, row_at, Part, parts}
use Rattle.table.specs.Value.{table_of, well_formed}
use Rattle.table.specs.declared.Table.{Table as TableValue}
use Rattle.verdicts.specs.Verdicts.{figure_of, overall}
use Rattle.verdicts.specs.declared.Verdict.{Verdict}
use Rattle.verdicts.specs.declared.TableVerdict.{TableVerdict}
use Rattle.figures.specs.declared.RowFigures.{RowFigures}
use Rattle.figures.specs.declared.TableFigures.{TableFigures}
use Rattle.recurrence.specs.Figures.{whole, split, verdict, row_rounds}

-- a row with one C has no split
abbrev pub split_shown : List Part → Option ℕ → Option ℕ
split_shown [] s = none
split_shown (x ∷ []) s = none
split_shown (x ∷ y ∷ l) s = s

-- the figures of row k, from 0
abbrev pub figures_of : (ℕ → Row) → ℕ → RowFigures
figures_of rows k =
    record {
      verdict = verdict rows k;
      whole = figure_of (whole rows k);
      split = figure_of (split_shown (parts (rows k).times) (split rows k));
      rounds = row_rounds rows k;
    }

-- 20, then 21 for a row number of 0 or beyond the last row, else the figures of the row with that number, from 1
unfoldable pub row_answer : TableValue → ℕ → Result RowFigures Refusal
row_answer v n =
    if well_formed v
    then (if leb 1 n and leb n (length (table_of v)) then Ok (figures_of (row_at (table_of v)) (n - 1)) else Err NoSuchRow)
    else Err BadTable

-- the verdicts of all rows
unfoldable pub verdicts : Table → List Verdict
verdicts t = map (verdict (row_at t)) (below (length t))

-- the table's verdict
unfoldable pub table_verdict : Table → TableVerdict
table_verdict t = overall (verdicts t)

-- the answer about each row, and 21 behind the last
unfoldable pub answers : Table → List (Result RowFigures Refusal)
answers t = map (λ k. Ok (figures_of (row_at t) k)) (below (length t)) ++ replicate (most_rows - length t) (Err NoSuchRow)

-- 20, else the table's verdict and the answer about each row
unfoldable pub table_figures : TableValue → Result TableFigures Refusal
table_figures v = if well_formed v then Ok (record { verdict = table_verdict (table_of v); rows = answers (table_of v) }) else Err BadTable

-- the number of an answer about a row: 0 where it has figures
abbrev pub number_of_answer : Result RowFigures Refusal → ℕ
number_of_answer (Ok f) = 0
number_of_answer (Err why) = number_of why

-- the number of the answer about a table: 0 where it has a verdict
abbrev pub number_of_verdict : Result TableFigures Refusal → ℕ
number_of_verdict (Ok f) = 0
number_of_verdict (Err why) = number_of why
