-- The text of a table, and what writing it into a lent buffer gives.
use Rattle.std.specs.Prelude.{Result, Ok, Err, List, ◌∷◌, map, ℕ, if◌then◌else◌}
use Rattle.words.specs.Buffer.{placed}
use Rattle.decimal.specs.Decimal.{digits}
use Rattle.table.specs.Paper.{Row, Table}
use Rattle.table.specs.Value.{table_of, well_formed}
use Rattle.table.specs.declared.Table.{Table as TableValue}
use Rattle.refusals.specs.declared.Refusal.{Refusal}
use Rattle.refusals.specs.declared.Refusal.TheVariants.{BadTable}
use Rattle.refusals.specs.Refusals.{number_of}
use Rattle.fields.specs.Fields.{line, joined}
-- the length of what is to be put into a buffer; 22 where it is too short
pub use Rattle.lines.specs.Lines.{length_in}

-- a row's line: name, T, D, and the times
unfoldable pub line_text : Row → List ℕ
line_text r = line r.name (map digits (r.period ∷ r.deadline ∷ r.times))

-- a table's text: one line a row
unfoldable pub table_text : Table → List ℕ
table_text t = joined (map line_text t)

-- the number of what was written: 0 where it was
abbrev pub number_of_written : Result ℕ Refusal → ℕ
number_of_written (Ok n) = 0
number_of_written (Err x) = number_of x

-- 20, then 22, else the length
unfoldable pub written : TableValue → List ℕ → Result ℕ Refusal
written v d = if well_formed v then length_in (table_text (table_of v)) d else Err BadTable

-- the buffer afterwards: unchanged after a refusal
unfoldable pub written_into : TableValue → List ℕ → List ℕ
written_into v d = if well_formed v then placed (table_text (table_of v)) d else d
