-- What the programs answer: the bytes of each whole answer.
use Rattle.std.specs.Prelude.{Option, Some, None, ◌≡◌, List, ℕ, ◌+◌, ◌*◌, ◌≤◌, ltb, length, take, drop, get_or, if◌then◌else◌}
use Rattle.words.specs.Buffer.{over}
use Rattle.refusals.specs.declared.Refusal.TheVariants.{ManyTicks}
use Rattle.table.specs.Limits.{most_ticks}
use Rattle.text.specs.Read.{Answer, accepted, refused, read_text}
use Rattle.text.specs.Write.{table_text}
use Rattle.refused.specs.Refused.{refused_line}
use Rattle.report.specs.Report.{answer_text}
use Rattle.runs.specs.Runs.{run_text}
use Rattle.replies.specs.declared.Kind.{Kind}
use Rattle.replies.specs.declared.Kind.TheVariants.{Report, Text, Run}

-- the full run of what was read: the line of the text's refusal, then that of 23, else the run
abbrev pub run_to : Answer → ℕ → List ℕ
run_to (accepted t) n = if ltb most_ticks n then refused_line ManyTicks else run_text t n
run_to (refused why) n = refused_line why

-- the whole answer to a text and a number of ticks
unfoldable pub run_answer : List ℕ → ℕ → List ℕ
run_answer s n = run_to (read_text s) n

-- what was read, written again: the text of the table, or the line of the refusal
abbrev pub text_to : Answer → List ℕ
text_to (accepted t) = table_text t
text_to (refused why) = refused_line why

-- the text again, written from the table that was read
unfoldable pub text_answer : List ℕ → List ℕ
text_answer s = text_to (read_text s)

-- the number of ticks at the front of an item: four bytes, the highest first
abbrev pub ticks_in : List ℕ → ℕ
ticks_in s = ((get_or s 0 0 * 256 + get_or s 1 0) * 256 + get_or s 2 0) * 256 + get_or s 3 0

-- the answer to an item of ticks and a text; none to an item that has no room for the ticks
unfoldable pub item_answer : List ℕ → Option (List ℕ)
item_answer s = if ltb (length s) 4 then None else Some (run_answer (drop 4 s) (ticks_in s))

-- the answer to an item of a stream
abbrev pub reply_to : Kind → List ℕ → Option (List ℕ)
reply_to Report s = Some (answer_text s)
reply_to Text s = Some (text_answer s)
reply_to Run s = item_answer s

-- the buffer afterwards: unchanged where there is no answer
abbrev pub left_by : Option (List ℕ) → List ℕ → List ℕ
left_by None d = d
left_by (Some bs) d = over bs d

-- n bytes stand at the front of xs: it follows from what a reply is, and lets a program lend that front
abbrev pub Front : ℕ → List ℕ → Type 0
Front n xs = (n ≤ length xs) × (n ≡ length (take n xs))
