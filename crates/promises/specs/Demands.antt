-- THE THREE DEMANDS, about the meanings of the public functions, for every input. proofs/Demand1 to Demand3 show each of them.
-- text::read is `reading`, text::write is `written` and `written_into`, figures::row_figures is `row_answer`, figures::table_figures is
-- `table_figures`, report::write is `reported` and `reported_into`, report::answer is `answered_in` and `answered_into`, machine::full_run is
-- `full_run`, runs::answer is `ran_in` and `ran_into`, the C functions are `fitted` and `placed` of `answer_text`, `run_answered` and `run_left`: the contracts say so.
use Rattle.std.specs.Prelude.{◌≡◌, Option, Some, None, Result, Ok, Err, Bool, true, false, List, [], ◌∷◌, ◌↔◌, ℕ, ◌+◌, ◌-◌, ◌≤◌, ◌<◌, leb, length, take, get_or, if◌then◌else◌}
use Rattle.words.specs.Choice.{◌and◌}
use Rattle.words.specs.Buffer.{over, placed}
use Rattle.words.specs.Spelled.{spelled}
use Rattle.ticks.specs.Ticks.{instant, long}
use Rattle.ticks.specs.declared.Instant.{Instant}
use Rattle.ticks.specs.declared.Length.{Length}
use Rattle.decimal.specs.Decimal.{digits}
use Rattle.fields.specs.Fields.{line_feed, line}
use Rattle.refusals.specs.declared.Refusal.TheVariants.{BadTable, NoSuchRow}
use Rattle.table.specs.Limits.{most_rows, longest_text, most_ticks}
use Rattle.table.specs.Paper.{Row, row_at, Part, part, parts, waits}
use Rattle.table.specs.Value.{table_of, empty_table, well_formed}
use Rattle.table.specs.declared.Table.{Table as TableValue}
use Rattle.refusals.specs.declared.Refusal.{Refusal}
use Rattle.text.specs.Read.{read_text, reading_of, table_in, number_of_outcome, line_of_outcome, field_of_outcome}
use Rattle.text.specs.Write.{table_text, length_in, written, written_into, number_of_written}
use Rattle.verdicts.specs.Verdicts.{fits}
use Rattle.verdicts.specs.declared.Bound.{Bound}
use Rattle.verdicts.specs.declared.Bound.TheVariants.{Whole, Split}
use Rattle.verdicts.specs.declared.Verdict.TheVariants.{Fits, Misses, Open}
use Rattle.verdicts.specs.declared.TableVerdict.{TableVerdict}
use Rattle.verdicts.specs.declared.TableVerdict.TheVariants.{Fits as TableFits, Misses as TableMisses, Open as TableOpen}
use Rattle.figures.specs.declared.RowFigures.{RowFigures}
use Rattle.figures.specs.declared.TableFigures.{TableFigures}
use Rattle.recurrence.specs.Fixed.{Smallest, NoneUpTo, Took}
use Rattle.recurrence.specs.Figures.{right, own}
use Rattle.figures.specs.Answers.{row_answer, table_figures, number_of_answer, number_of_verdict}
use Rattle.report.specs.Report.{report_text, answer_text, reported, reported_into, longest_report}
use Rattle.kernel.specs.Rules.{Input, LegalRun, after, full, Complete}
use Rattle.kernel.specs.Numbers.{FirstEnd}
use Rattle.machine.specs.Run.{full_run, number_of_outcome as number_of_run}
use Rattle.runs.specs.Runs.{run_text, ran_in, ran_into, longest_run}
use Rattle.musselpath.specs.Boundary.{instants, number_in, line_in, field_in, run_answered, run_left}

-- ---- the words of this page; rows are counted from 1

-- what a text reads as
abbrev pub reading : List ℕ → Result TableValue Refusal
reading s = reading_of (read_text s)

-- the number of that: 0 where the text is accepted
abbrev pub text_number : List ℕ → ℕ
text_number s = number_of_outcome (reading s)

-- what is answered for the answer to a text and a lent buffer: its length, or 22
abbrev pub answered_in : List ℕ → List ℕ → Result ℕ Refusal
answered_in s d = length_in (answer_text s) d

-- what is left in the buffer
abbrev pub answered_into : List ℕ → List ℕ → List ℕ
answered_into s d = placed (answer_text s) d

-- row n of a table value, on paper
abbrev pub row : TableValue → ℕ → Row
row v n = row_at (table_of v) (n - 1)

-- f(t) of row n, with c in place of its C: c, and what the rows above ask for in t ticks
abbrev pub f : TableValue → ℕ → ℕ → ℕ → ℕ
f v n c = right (row_at (table_of v)) (n - 1) c

-- the library gives the figures a for row n
abbrev pub Told : TableValue → ℕ → RowFigures → Type 0
Told v n a = row_answer v n ≡ Ok a

-- the verdict in the answer about a table; a refusal holds none
abbrev pub verdict_in : Result TableFigures Refusal → Option TableVerdict
verdict_in (Ok f) = Some f.verdict
verdict_in (Err why) = None

-- the answers about its rows; a refusal holds none
abbrev pub rows_in : Result TableFigures Refusal → List (Result RowFigures Refusal)
rows_in (Ok f) = f.rows
rows_in (Err why) = []

-- the completions in the answer of a full run; a refusal holds none
abbrev pub firsts_in : Result (List (Option Instant)) Refusal → List (Option Instant)
firsts_in (Ok firsts) = firsts
firsts_in (Err why) = []

-- the completion of row n's first job that the full run of m ticks gives
abbrev pub completed : TableValue → ℕ → ℕ → Option Instant
completed v m n = get_or (firsts_in (full_run v m)) (n - 1) None

-- ---- 1: a bad text or table is refused by its number, which is 0 for all others; it gives an empty table or no figures, and no lent byte changes

-- a text: accepted, at line 0, field 0, or refused by 1 to 11, from 4 on at a line, with an empty table. 1, 2 and 3 are given exactly when they are due;
-- specs/Places says it of 4 to 11
abbrev pub Texts : Type 0
Texts = (s : List ℕ)
    → (text_number s ≡ 0 → (well_formed (table_in (reading s)) ≡ true) × (line_of_outcome (reading s) ≡ 0) × (field_of_outcome (reading s) ≡ 0))
    × ((text_number s ≡ 0 → ⊥) → (table_in (reading s) ≡ empty_table) × (text_number s ≤ 11) × (4 ≤ text_number s → 1 ≤ line_of_outcome (reading s)))
    × ((text_number s ≡ 1) ↔ (length s ≡ 0))
    × ((text_number s ≡ 2) ↔ (longest_text < length s))
    × ((text_number s ≡ 3) ↔ ((1 ≤ length s) × (length s ≤ longest_text) × (get_or s (length s - 1) 0 ≡ line_feed → ⊥)))

-- the number that is due: 20 where the table is bad, then 21 where the row isn't there, 23 where the ticks are too many, 22 where there is no room
abbrev pub due : Bool → Bool → Bool → Bool → ℕ
due table there few room = if table then (if there then (if few then (if room then 0 else 22) else 23) else 21) else 20

-- each function that takes a table gives the number that is due, and so it gives an answer wherever none is
abbrev pub Numbers : Type 0
Numbers = (v : TableValue)
    → ((n : ℕ) → number_of_answer (row_answer v n) ≡ due (well_formed v) (leb 1 n and leb n (length (table_of v))) true true)
    × (number_of_verdict (table_figures v) ≡ due (well_formed v) true true true)
    × ((m : ℕ) → number_of_run (full_run v m) ≡ due (well_formed v) true (leb m most_ticks) true)
    × ((d : List ℕ) → number_of_written (written v d) ≡ due (well_formed v) true true (leb (length (table_text (table_of v))) (length d)))
    × ((d : List ℕ) → number_of_written (reported v d) ≡ due (well_formed v) true true (leb (length (report_text (table_of v))) (length d)))

-- behind a number there is no figure and no instant, and the lent bytes are as they were
abbrev pub Nothing : Type 0
Nothing = (v : TableValue)
    → ((number_of_verdict (table_figures v) ≡ 0 → ⊥) → table_figures v ≡ Err BadTable)
    × ((m n : ℕ) → (number_of_run (full_run v m) ≡ 0 → ⊥) → completed v m n ≡ None)
    × ((d : List ℕ) → (number_of_written (written v d) ≡ 0 → ⊥) → written_into v d ≡ d)
    × ((d : List ℕ) → (number_of_written (reported v d) ≡ 0 → ⊥) → reported_into v d ≡ d)

-- the full run of a text: the text's own refusal, then 23 before 22; behind a number the lent bytes are as they were
abbrev pub RunNumbers : Type 0
RunNumbers = (s : List ℕ) (m : ℕ) (d : List ℕ)
    → ((why : Refusal) → reading s ≡ Err why → ran_in (read_text s) m d ≡ Err why)
    × (text_number s ≡ 0
    → number_of_written (ran_in (read_text s) m d) ≡ due true true (leb m most_ticks) (leb (length (run_text (table_of (table_in (reading s))) m)) (length d)))
    × ((number_of_written (ran_in (read_text s) m d) ≡ 0 → ⊥) → ran_into (read_text s) m d ≡ d)

-- in C: 0, or number, line and field of the text's refusal, or 23 before 22; behind a number the lent elements are as they were
abbrev pub Packed : Type 0
Packed = (s : List ℕ) (m : ℕ) (d : List ℕ)
    → ((text_number s ≡ 0 → ⊥)
    → (number_in (run_answered s m d) ≡ text_number s)
    × (line_in (run_answered s m d) ≡ line_of_outcome (reading s)) × (field_in (run_answered s m d) ≡ field_of_outcome (reading s)))
    × (text_number s ≡ 0 → run_answered s m d ≡ due true true (leb m most_ticks) (leb (length (table_of (table_in (reading s)))) (length d)))
    × ((run_answered s m d ≡ 0 → ⊥) → run_left s m d ≡ d)

-- ---- 2: texts read, write back and are answered; figures are the published recurrence's

-- an accepted text is the text of its table, and is written back byte for byte
abbrev pub TextBack : Type 0
TextBack = (s d : List ℕ) → text_number s ≡ 0
    → (s ≡ table_text (table_of (table_in (reading s)))) × (written (table_in (reading s)) d ≡ length_in s d) × (written_into (table_in (reading s)) d ≡ placed s d)

-- a table has exactly one text
abbrev pub OneText : Type 0
OneText = (s r : List ℕ) → text_number s ≡ 0 → text_number r ≡ 0 → table_in (reading s) ≡ table_in (reading r) → s ≡ r

-- what was written of a table reads as the same table; a buffer for the longest text has room for each
abbrev pub TableBack : Type 0
TableBack = (v : TableValue) (d : List ℕ)
    → ((m : ℕ) → written v d ≡ Ok m → reading (take m (written_into v d)) ≡ Ok v)
    × (well_formed v ≡ true → longest_text ≤ length d → number_of_written (written v d) ≡ 0)

-- a report is written whole, and the bytes beyond it are as they were
abbrev pub Reported : Type 0
Reported = (v : TableValue) (d : List ℕ) → well_formed v ≡ true
    → (reported v d ≡ length_in (report_text (table_of v)) d) × (reported_into v d ≡ placed (report_text (table_of v)) d)

-- the answer to a text is the report of its table, or the line of its refusal, whatever the text has beyond the 1,361st byte
abbrev pub Answered : Type 0
Answered = (s : List ℕ)
    → (text_number s ≡ 0 → answer_text s ≡ report_text (table_of (table_in (reading s))))
    × ((text_number s ≡ 0 → ⊥)
    → answer_text s
    ≡ line (spelled "refused") (digits (text_number s) ∷ digits (line_of_outcome (reading s)) ∷ digits (field_of_outcome (reading s)) ∷ []))
    × (answer_text (take (longest_text + 1) s) ≡ answer_text s)

-- its only refusal is 22, and then no lent byte has changed; a buffer for the longest report has room for each
abbrev pub AnswerRoom : Type 0
AnswerRoom = (s d : List ℕ)
    → (number_of_written (answered_in s d) ≡ due true true true (leb (length (answer_text s)) (length d)))
    × ((number_of_written (answered_in s d) ≡ 0 → ⊥) → answered_into s d ≡ d)
    × (longest_report ≤ length d → (answered_in s d ≡ Ok (length (answer_text s))) × (answered_into s d ≡ over (answer_text s) d))

-- the full run of an accepted text is written whole, in C as numbers; a buffer for the longest run has room for each
abbrev pub RunWritten : Type 0
RunWritten = (s : List ℕ) (m : ℕ) (d : List ℕ) → text_number s ≡ 0 → m ≤ most_ticks
    → (ran_in (read_text s) m d ≡ length_in (run_text (table_of (table_in (reading s))) m) d)
    × (ran_into (read_text s) m d ≡ placed (run_text (table_of (table_in (reading s))) m) d)
    × (longest_run ≤ length d → number_of_written (ran_in (read_text s) m d) ≡ 0)
    × (run_answered s m d ≡ 0 → run_left s m d ≡ over (instants (table_of (table_in (reading s))) m) d)

-- each row of a well-formed table has figures, and the figures of the table are those of its rows
abbrev pub Given : Type 0
Given = (v : TableValue) → well_formed v ≡ true
    → ((n : ℕ) → 1 ≤ n → n ≤ length (table_of v) → (a : RowFigures) × Told v n a)
    × (length (rows_in (table_figures v)) ≡ most_rows)
    × ((n : ℕ) → 1 ≤ n → n ≤ most_rows → get_or (rows_in (table_figures v)) (n - 1) (Err NoSuchRow) ≡ row_answer v n)

-- whole is the smallest positive t with f(t) = t, for all C and S of the row, where it is at most D
abbrev pub WholeBound : Type 0
WholeBound = (v : TableValue) (n : ℕ) (a : RowFigures) → Told v n a
    → (R : ℕ) → (a.whole ≡ Some (long R)) ↔ (Smallest (f v n (own (row v n))) R × (R ≤ (row v n).deadline))

-- B adds up, over stretches, each suspension and the smallest positive t with f(t) = t for each C by itself, none of them above D
pub data Added (v : TableValue) (n : ℕ) : List Part → ℕ → Type 0 where
  no_more : Added v n [] 0
  one_more : {S C : ℕ} {l : List Part} {B : ℕ} (R : ℕ) → Smallest (f v n C) R → R ≤ (row v n).deadline → Added v n l B → Added v n (part S C ∷ l) (S + R + B)

-- split is that sum over all stretches, where it is at most D; a row of one C has none
abbrev pub SplitBound : Type 0
SplitBound = (v : TableValue) (n : ℕ) (a : RowFigures) → Told v n a
    → (waits (row v n) ≡ true → (B : ℕ) → (a.split ≡ Some (long B)) ↔ (Added v n (parts (row v n).times) B × (B ≤ (row v n).deadline)))
    × (waits (row v n) ≡ false → a.split ≡ None)

-- a row of one stretch fits with R exactly where R is the smallest positive t with f(t) = t and at most D; it misses exactly where none is
abbrev pub OneStretch : Type 0
OneStretch = (v : TableValue) (n : ℕ) (a : RowFigures) → Told v n a → waits (row v n) ≡ false
    → ((R : ℕ) → (a.verdict ≡ Fits Whole (long R)) ↔ (Smallest (f v n (own (row v n))) R × (R ≤ (row v n).deadline)))
    × ((a.verdict ≡ Misses) ↔ NoneUpTo (row v n).deadline (f v n (own (row v n))))
    × ((R : Length) → a.verdict ≡ Fits Split R → ⊥)
    × (a.verdict ≡ Open → ⊥)

-- a waiting row fits with the lesser of its two bounds, whole named when they are equal; it is open exactly where there is neither; it never misses
abbrev pub WaitingRow : Type 0
WaitingRow = (v : TableValue) (n : ℕ) (a : RowFigures) → Told v n a → waits (row v n) ≡ true
    → ((R : ℕ) → (a.verdict ≡ Fits Whole (long R)) ↔ ((a.whole ≡ Some (long R)) × ((s : ℕ) → a.split ≡ Some (long s) → R ≤ s)))
    × ((R : ℕ) → (a.verdict ≡ Fits Split (long R)) ↔ ((a.split ≡ Some (long R)) × ((w : ℕ) → a.whole ≡ Some (long w) → R < w)))
    × ((a.verdict ≡ Open) ↔ ((a.whole ≡ None) × (a.split ≡ None)))
    × (a.verdict ≡ Misses → ⊥)

-- so often f was worked out for split: for each C by itself, in order, and no more once one has passed D
pub data TookSplit (v : TableValue) (n : ℕ) : List Part → ℕ → Type 0 where
  none_left : TookSplit v n [] 0
  passed : {S C m : ℕ} {l : List Part} → Took (f v n C) (row v n).deadline C m → NoneUpTo (row v n).deadline (f v n C) → TookSplit v n (part S C ∷ l) m
  next_one : {S C m k : ℕ} {l : List Part} (R : ℕ)
      → Took (f v n C) (row v n).deadline C m → Smallest (f v n C) R → R ≤ (row v n).deadline → TookSplit v n l k → TookSplit v n (part S C ∷ l) (m + k)

-- rounds: how often f was worked out, in all recurrences; for one C at most D - C + 1 times
abbrev pub Rounds : Type 0
Rounds = (v : TableValue) (n : ℕ) (a : RowFigures) → Told v n a
    → (waits (row v n) ≡ false
    → Took (f v n (own (row v n))) (row v n).deadline (own (row v n)) a.rounds × (a.rounds ≤ (row v n).deadline - own (row v n) + 1))
    × (waits (row v n) ≡ true
    → (w : ℕ) × (s : ℕ) × (a.rounds ≡ w + s)
    × Took (f v n (own (row v n))) (row v n).deadline (own (row v n)) w × TookSplit v n (parts (row v n).times) s)

-- the table fits if every row does, misses if some row misses, and is open otherwise
abbrev pub TableJudged : Type 0
TableJudged = (v : TableValue) → well_formed v ≡ true
    → ((verdict_in (table_figures v) ≡ Some TableFits) ↔ ((n : ℕ) (a : RowFigures) → Told v n a → fits a.verdict ≡ true))
    × ((verdict_in (table_figures v) ≡ Some TableMisses) ↔ ((n : ℕ) × (a : RowFigures) × Told v n a × (a.verdict ≡ Misses)))
    × ((verdict_in (table_figures v) ≡ Some TableOpen)
    ↔ ((((n : ℕ) (a : RowFigures) → Told v n a → fits a.verdict ≡ true) → ⊥) × ((n : ℕ) (a : RowFigures) → Told v n a → a.verdict ≡ Misses → ⊥)))

-- ---- 3: what "fits" and "misses" mean for the box

-- a row that fits with R: R is at most its deadline, and in every run that the kernel's rules allow, of any length,
-- each job of the row released at least R ticks before the run's end is complete within R
abbrev pub InTime : Type 0
InTime = (v : TableValue) (n : ℕ) (a : RowFigures) → Told v n a → (b : Bound) (R : Length) → a.verdict ≡ Fits b R
    → (1 ≤ R.0) × (R.0 ≤ (row v n).deadline)
    × ((run : ℕ → Input) → LegalRun (table_of v) run → (s end : ℕ) → s + R.0 ≤ end → Complete s (after run end (n - 1)))

-- the full run is one of those runs
abbrev pub FullRunLegal : Type 0
FullRunLegal = (v : TableValue) → well_formed v ≡ true → LegalRun (table_of v) (full (row_at (table_of v)))

-- the full run gives for a row the first instant at which its first job is complete, by the kernel's rules, and none where there is none
abbrev pub Ended : Type 0
Ended = (v : TableValue) → well_formed v ≡ true → (m n : ℕ) → m ≤ most_ticks → 1 ≤ n → n ≤ length (table_of v)
    → ((c : ℕ) → (completed v m n ≡ Some (instant c)) ↔ FirstEnd (row_at (table_of v)) (n - 1) m c)
    × ((completed v m n ≡ None) ↔ ((c : ℕ) → FirstEnd (row_at (table_of v)) (n - 1) m c → ⊥))

-- a row of one stretch that fits with R: the full run ends its first job at exactly R, which is within the ticks that a full run may have
abbrev pub Exact : Type 0
Exact = (v : TableValue) (n : ℕ) (a : RowFigures) → Told v n a → waits (row v n) ≡ false → (b : Bound) (R : Length) → a.verdict ≡ Fits b R
    → (R.0 ≤ most_ticks)
    × ((m : ℕ) → m ≤ most_ticks → (R.0 ≤ m → completed v m n ≡ Some (instant R.0)) × (m < R.0 → completed v m n ≡ None))

-- a row of one stretch that misses: by the kernel's rules its first job isn't complete at its deadline in the full run, and none is given up to it
abbrev pub Missed : Type 0
Missed = (v : TableValue) (n : ℕ) (a : RowFigures) → Told v n a → waits (row v n) ≡ false → a.verdict ≡ Misses
    → (Complete 0 (after (full (row_at (table_of v))) (row v n).deadline (n - 1)) → ⊥)
    × ((m : ℕ) → m ≤ most_ticks → (c : Instant) → completed v m n ≡ Some c → (row v n).deadline < c.0)
