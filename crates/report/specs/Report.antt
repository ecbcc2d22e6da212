-- The report: document 01, 'The report'.
use Rattle.std.specs.Prelude.{Option, Some, None, Result, Err, List, [], ◌∷◌, ◌++◌, map, ℕ, ◌+◌, ◌*◌, length, if◌then◌else◌}
use Rattle.words.specs.Lists.{below}
use Rattle.words.specs.Spelled.{spelled}
use Rattle.words.specs.Buffer.{placed}
use Rattle.decimal.specs.Decimal.{digits}
use Rattle.fields.specs.Fields.{line, joined}
use Rattle.refusals.specs.declared.Refusal.{Refusal}
use Rattle.refusals.specs.declared.Refusal.TheVariants.{BadTable}
use Rattle.ticks.specs.declared.Length.{Length}
use Rattle.table.specs.Limits.{most_rows, longest_name}
use Rattle.table.specs.Paper.{Row, Table, row_at}
use Rattle.table.specs.Value.{table_of, well_formed}
use Rattle.table.specs.declared.Table.{Table as TableValue}
use Rattle.text.specs.Read.{Answer, accepted, refused, read_text}
use Rattle.text.specs.Write.{length_in}
use Rattle.refused.specs.Refused.{refused_line}
use Rattle.verdicts.specs.declared.Verdict.{Verdict}
use Rattle.verdicts.specs.declared.Verdict.TheVariants.{Fits, Misses, Open}
use Rattle.figures.specs.declared.RowFigures.{RowFigures}
use Rattle.verdicts.specs.declared.TableVerdict.{TableVerdict}
use Rattle.verdicts.specs.declared.TableVerdict.TheVariants.{Fits as TableFits, Misses as TableMisses, Open as TableOpen}
use Rattle.figures.specs.Answers.{figures_of, table_verdict}

-- a missing figure is a hyphen
abbrev pub figure_text : Option Length → List ℕ
figure_text (Some l) = digits l.0
figure_text None = spelled "-"

-- the verdict of a row
abbrev pub verdict_word : Verdict → List ℕ
verdict_word (Fits b r) = spelled "fits"
verdict_word Misses = spelled "misses"
verdict_word Open = spelled "open"

-- the figure with which a row fits
abbrev pub figure_in : Verdict → Option Length
figure_in (Fits b r) = Some r
figure_in Misses = None
figure_in Open = None

-- the line of a row: name, verdict, figure, whole, split, rounds
unfoldable pub row_line : Row → RowFigures → List ℕ
row_line r f =
    line r.name
    (verdict_word f.verdict ∷ figure_text (figure_in f.verdict) ∷ figure_text f.whole ∷ figure_text f.split ∷ digits f.rounds ∷ [])

-- the verdict of a table
abbrev pub table_word : TableVerdict → List ℕ
table_word TableFits = spelled "fits"
table_word TableMisses = spelled "misses"
table_word TableOpen = spelled "open"

-- the last line: "table" and the verdict
unfoldable pub last_line : TableVerdict → List ℕ
last_line v = line (spelled "table") (table_word v ∷ [])

-- the report: one line a row, and the last line
unfoldable pub report_text : Table → List ℕ
report_text t = joined (map (λ k. row_line (row_at t k) (figures_of (row_at t) k)) (below (length t))) ++ last_line (table_verdict t)

-- the answer to what was read
abbrev pub answer_to : Answer → List ℕ
answer_to (accepted t) = report_text t
answer_to (refused why) = refused_line why

-- the whole answer to a text
unfoldable pub answer_text : List ℕ → List ℕ
answer_text s = answer_to (read_text s)

-- writing a report: 20, then 22, else the length
unfoldable pub reported : TableValue → List ℕ → Result ℕ Refusal
reported v d = if well_formed v then length_in (report_text (table_of v)) d else Err BadTable

-- the buffer afterwards: unchanged after a refusal
unfoldable pub reported_into : TableValue → List ℕ → List ℕ
reported_into v d = if well_formed v then placed (report_text (table_of v)) d else d

-- a row's line has a name, a verdict of up to 6 letters, four numbers of up to 7 digits, and 6 bytes that end them
abbrev pub longest_line : ℕ
longest_line = longest_name + 6 + 4 * 7 + 6

-- no answer to a text is longer: a line for each row, and the last
abbrev pub longest_report : ℕ
longest_report = most_rows * longest_line + length (spelled "table\tmisses\n")
