-- The cases of document 01 that are marked P, 'Figures on both sides of the line': one list, one statement. Rows are counted from 1.
use Rattle.std.specs.Prelude.{Result, Ok, ◌≡◌, refl, List, [], ◌∷◌, map, ℕ, ◌-◌}
use Rattle.std.proofs.Math.Option.{Option, none, some}
use Prim.Native.String.{String}
use Rattle.words.specs.Choice.{◌and◌, ◌or◌}
use Rattle.words.specs.Lists.{all, any, sum, same, up_to, padded, below}
use Rattle.words.specs.Spelled.{spelled}
use Rattle.decimal.specs.Decimal.{digits, last_digits, digit, value, leads, read_number}
use Rattle.table.specs.Limits.{largest_number}
use Rattle.table.specs.Paper.{Table, row_at, parts, waits, named, name_byte, right_name, right_number, right_count, right_row, right_rows, right_table}
use Rattle.table.specs.Value.{table_of, table_value, same_row, same_rows, well_formed}
use Rattle.ticks.specs.Ticks.{long}
use Rattle.fields.specs.Fields.{fields_text, line, joined}
use Rattle.text.specs.Split.{lines, fields, on_first}
use Rattle.text.specs.Read.{right_fields, with_number, read_fields, check_row, read_line, read_lines, read_text, number_of_outcome, line_of_outcome, field_of_outcome}
use Rattle.verdicts.specs.declared.Bound.TheVariants.{Whole, Split}
use Rattle.verdicts.specs.declared.Verdict.{Verdict}
use Rattle.verdicts.specs.declared.Verdict.TheVariants.{Fits, Misses, Open}
use Rattle.verdicts.specs.Verdicts.{figure_of}
use Rattle.figures.specs.declared.RowFigures.{RowFigures}
use Rattle.refusals.specs.declared.Refusal.{Refusal}
use Rattle.recurrence.specs.Figures.{ceiling, arrivals, sequence, right, result, own, split_from}
use Rattle.figures.specs.Answers.{row_answer, verdicts, table_verdict}
use Rattle.report.specs.Report.{row_line, last_line, report_text, answer_text}
use Rattle.kernel.specs.Witness.{row, open_table, full_table, tick_table, short_table}
use Rattle.promises.specs.Demands.{reading}

-- what is asked: the figures of a row of a table, what its bounds would be beyond D, how a text is refused, or the whole answer to a text
pub data Question : Type 0 where
  figures_of : Table → ℕ → Question
  beyond : Table → ℕ → Question
  text : String → Question
  report : String → Question

-- what is answered: of a row the library's answer; whole without a deadline, and what split adds up to; number, line and field; bytes
pub data Reply : Type 0 where
  figures : Result RowFigures Refusal → Reply
  bounds : Option ℕ → Option ℕ → Reply
  refusal : ℕ → ℕ → ℕ → Reply
  bytes : List ℕ → Reply

-- the answer, as the meanings of the public functions give it
abbrev pub answer : Question → Reply
answer (figures_of t n) = figures (row_answer (table_value t) n)
answer (beyond t n) =
    bounds (result (right (row_at t) (n - 1) (own (row_at t (n - 1)))) largest_number (own (row_at t (n - 1))))
    (split_from (row_at t) (n - 1) (parts (row_at t (n - 1)).times))
answer (text s) =
    refusal (number_of_outcome (reading (spelled s))) (line_of_outcome (reading (spelled s))) (field_of_outcome (reading (spelled s)))
answer (report s) = bytes (answer_text (spelled s))

-- a question and its answer
pub record Case : Type 0 where
  pub asked : Question
  pub expected : Reply

-- one case, on a line
abbrev pub case : Question → Reply → Case
case q r = record { asked = q; expected = r }

-- a row's verdict, whole, split and rounds
abbrev pub told : Verdict → Option ℕ → Option ℕ → ℕ → Reply
told verdict whole split rounds = figures (Ok (record { verdict = verdict; whole = figure_of whole; split = figure_of split; rounds = rounds }))

-- Table A of document 01
abbrev pub table_a : Table
table_a = row "pulse" 10 10 (2 ∷ []) ∷ row "radio" 25 20 (5 ∷ []) ∷ row "save" 100 60 (4 ∷ 20 ∷ 6 ∷ []) ∷ []

-- all of them; `open_table` is 4 4 1, 20 20 2, 20 20 2, then 13 13 2 2 2
abbrev pub cases : List Case
cases =
    case (figures_of table_a 1) (told (Fits Whole (long 2)) (some 2) none 1)
    ∷ case (figures_of table_a 2) (told (Fits Whole (long 7)) (some 7) none 2)
    ∷ case (figures_of table_a 3) (told (Fits Split (long 48)) (some 50) (some 48) 9)
    ∷ case (report "pulse\t10\t10\t2\nradio\t25\t20\t5\nsave\t100\t60\t4\t20\t6\n")
    (bytes (spelled "pulse\tfits\t2\t2\t-\t1\nradio\tfits\t7\t7\t-\t2\nsave\tfits\t48\t50\t48\t9\ntable\tfits\n"))
    ∷ case (figures_of (row "a" 2 2 (1 ∷ []) ∷ row "b" 4 4 (2 ∷ []) ∷ []) 2) (told (Fits Whole (long 4)) (some 4) none 3)
    ∷ case (figures_of (row "a" 2 2 (1 ∷ []) ∷ row "b" 4 3 (2 ∷ []) ∷ []) 2) (told Misses none none 2)
    ∷ case (figures_of (row "a" 2 2 (2 ∷ []) ∷ row "b" 9 9 (1 ∷ []) ∷ []) 2) (told Misses none none 5)
    ∷ case (figures_of (row "a" 1 1 (1 ∷ []) ∷ []) 1) (told (Fits Whole (long 1)) (some 1) none 1)
    ∷ case (figures_of (row "a" 10 10 (2 ∷ []) ∷ row "b" 11 11 (1 ∷ 6 ∷ 1 ∷ []) ∷ []) 2) (told (Fits Whole (long 10)) (some 10) none 6)
    ∷ case (beyond (row "a" 10 10 (2 ∷ []) ∷ row "b" 11 11 (1 ∷ 6 ∷ 1 ∷ []) ∷ []) 2) (bounds (some 10) (some 12))
    ∷ case (figures_of open_table 4) (told Open none none 9)
    ∷ case (beyond open_table 4) (bounds (some 14) (some 18))
    ∷ case (text "") (refusal 1 0 0)
    ∷ case (text "\n") (refusal 6 1 0)
    ∷ []

-- the figures of the rows that kernel/specs/Witness shows to be late in runs that break a rule by one: so demand 3 would be false of those runs
abbrev pub witnessed : List Case
witnessed =
    case (figures_of tick_table 1) (told (Fits Whole (long 1)) (some 1) none 1)
    ∷ case (figures_of short_table 1) (told (Fits Whole (long 3)) (some 3) (some 3) 3)
    ∷ case (figures_of full_table 2) (told (Fits Whole (long 4)) (some 4) none 3)
    ∷ []

-- each case has its answer
pub cases-hold : map (λ (c : Case). answer c.asked) cases ≡ map (λ (c : Case). c.expected) cases
unfolding ceiling arrivals sequence waits read_text read_lines read_line read_fields with_number check_row any all sum same up_to padded named name_byte right_name right_number right_fields right_count right_row right_rows right_table table_of table_value same_row same_rows well_formed row_answer read_number leads value digit lines fields on_first answer_text report_text row_line last_line line fields_text joined below digits last_digits table_verdict verdicts ◌and◌ ◌or◌
cases-hold = refl

-- and so has each witness
pub witnesses-hold : map (λ (c : Case). answer c.asked) witnessed ≡ map (λ (c : Case). c.expected) witnessed
unfolding ceiling arrivals sequence waits read_text read_lines read_line read_fields with_number check_row any all sum same up_to padded named name_byte right_name right_number right_fields right_count right_row right_rows right_table table_of table_value same_row same_rows well_formed row_answer read_number leads value digit lines fields on_first answer_text report_text row_line last_line line fields_text joined below digits last_digits table_verdict verdicts ◌and◌ ◌or◌
witnesses-hold = refl
