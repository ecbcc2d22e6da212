-- The full run in text: of each row its name and the completion instant of its first job.
use Rattle.std.specs.Prelude.{Result, Err, List, [], ◌∷◌, map, ℕ, ◌+◌, ◌*◌, ltb, length, if◌then◌else◌}
use Rattle.std.proofs.Math.Option.{Option, none, some}
use Rattle.words.specs.Lists.{below}
use Rattle.words.specs.Spelled.{spelled}
use Rattle.words.specs.Buffer.{placed}
use Rattle.decimal.specs.Decimal.{digits}
use Rattle.fields.specs.Fields.{line, joined}
use Rattle.refusals.specs.declared.Refusal.{Refusal}
use Rattle.refusals.specs.declared.Refusal.TheVariants.{ManyTicks}
use Rattle.table.specs.Limits.{most_rows, longest_name, most_ticks}
use Rattle.table.specs.Paper.{Row, Table, row_at}
use Rattle.text.specs.Read.{Answer, accepted, refused}
use Rattle.text.specs.Write.{length_in}
use Rattle.kernel.specs.Completion.{completion}

-- the instant of a completion; a hyphen where the job isn't complete
abbrev pub instant_text : Option ℕ → List ℕ
instant_text (some c) = digits c
instant_text none = spelled "-"

-- the line of a row: its name, and the completion of its first job
unfoldable pub run_line : Row → Option ℕ → List ℕ
run_line r c = line r.name (instant_text c ∷ [])

-- the full run of n ticks: one line a row
unfoldable pub run_text : Table → ℕ → List ℕ
run_text t n = joined (map (λ k. run_line (row_at t k) (completion (row_at t) k n)) (below (length t)))

-- what was read is run in a lent buffer: the text's refusal, then 23, then 22, else the length
abbrev pub ran_in : Answer → ℕ → List ℕ → Result ℕ Refusal
ran_in (accepted t) n d = if ltb most_ticks n then Err ManyTicks else length_in (run_text t n) d
ran_in (refused why) n d = Err why

-- the buffer afterwards: unchanged after a refusal
abbrev pub ran_into : Answer → ℕ → List ℕ → List ℕ
ran_into (accepted t) n d = if ltb most_ticks n then d else placed (run_text t n) d
ran_into (refused why) n d = d

-- a line has a name, an instant of up to 7 digits, and 2 bytes that end them
abbrev pub longest_line : ℕ
longest_line = longest_name + 7 + 2

-- no run's text is longer
abbrev pub longest_run : ℕ
longest_run = most_rows * longest_line
