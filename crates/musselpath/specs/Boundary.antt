-- What the C functions answer, and what they leave in the lent buffer.
use Rattle.std.specs.Prelude.{List, map, ℕ, ◌+◌, ◌*◌, ◌/◌, ◌%◌, ltb, length, if◌then◌else◌}
use Rattle.std.proofs.Math.Option.{Option, none, some}
use Rattle.words.specs.Lists.{below}
use Rattle.words.specs.Buffer.{over}
use Rattle.refusals.specs.declared.Refusal.{Refusal}
use Rattle.refusals.specs.declared.Refusal.TheVariants.{NoRoom, ManyTicks}
use Rattle.refusals.specs.Refusals.{number_of, line_of, field_of}
use Rattle.ticks.specs.Ticks.{most}
use Rattle.table.specs.Limits.{most_ticks}
use Rattle.table.specs.Paper.{Table, row_at}
use Rattle.text.specs.Read.{Answer, accepted, refused, read_text}
use Rattle.kernel.specs.Completion.{completion}

-- a completion instant; all ones where the job isn't complete
abbrev pub instant_of : Option ℕ → ℕ
instant_of (some c) = c
instant_of none = most

-- the completion instants of all rows after n ticks
unfoldable pub instants : Table → ℕ → List ℕ
instants t n = map (λ k. instant_of (completion (row_at t) k n)) (below (length t))

-- 2 to the 16th: what line and field are shifted by
abbrev pub shift : ℕ
shift = 65536

-- a refusal in one number: its number, its line shifted once, its field shifted twice
abbrev pub packed : Refusal → ℕ
packed why = number_of why + shift * line_of why + shift * shift * field_of why

-- the number in what is answered
abbrev pub number_in : ℕ → ℕ
number_in x = x % shift

-- the line in it
abbrev pub line_in : ℕ → ℕ
line_in x = x / shift % shift

-- the field in it
abbrev pub field_in : ℕ → ℕ
field_in x = x / (shift * shift)

-- 0, or the refusal: that of the text with its place, then 23, then 22 where there is not an element for each row
abbrev pub answer_for : Answer → ℕ → List ℕ → ℕ
answer_for (refused why) n d = packed why
answer_for (accepted t) n d = if ltb most_ticks n then packed ManyTicks else if ltb (length d) (length t) then packed NoRoom else 0

-- the buffer afterwards: unchanged after a refusal, and behind the last row
abbrev pub left_for : Answer → ℕ → List ℕ → List ℕ
left_for (refused why) n d = d
left_for (accepted t) n d = if ltb most_ticks n then d else if ltb (length d) (length t) then d else over (instants t n) d

-- what is answered for a text
unfoldable pub run_answered : List ℕ → ℕ → List ℕ → ℕ
run_answered s n d = answer_for (read_text s) n d

-- what is left in the buffer for a text
unfoldable pub run_left : List ℕ → ℕ → List ℕ → List ℕ
run_left s n d = left_for (read_text s) n d
