-- The parts of an answer, as the code has them. proofs/Answers shows that together they are what the C functions answer.
use Rattle.std.specs.Prelude.{Option, Some, None, Result, Ok, Err, List, map, ℕ, ltb, length, if◌then◌else◌}
use Rattle.ticks.specs.Ticks.{most}
use Rattle.ticks.specs.declared.Instant.{Instant}
use Rattle.refusals.specs.declared.Refusal.{Refusal}
use Rattle.refusals.specs.declared.Refusal.TheVariants.{NoRoom, ManyTicks}
use Rattle.table.specs.Limits.{most_ticks}
use Rattle.text.specs.Read.{Answer, accepted, refused}

-- a completion, as a number
abbrev pub first_number : Option Instant → ℕ
first_number (Some i) = i.0
first_number None = most

-- the numbers of completions
abbrev pub numbers_of : List (Option Instant) → List ℕ
numbers_of firsts = map first_number firsts

-- whether the run of what was read took place: the text's refusal, then 23, then 22 where there is not an element for each row
abbrev pub ran : Answer → ℕ → List ℕ → Result (Unit {0}) Refusal
ran (refused why) n d = Err why
ran (accepted t) n d = if ltb most_ticks n then Err ManyTicks else if ltb (length d) (length t) then Err NoRoom else Ok tt
