-- The full run: document 01, the end of 'The kernel's rules'. Each answer is read off the kernel's rules themselves.
use Rattle.std.specs.Prelude.{Option, Some, None, Result, Ok, Err, List, ◌++◌, map, ℕ, ◌-◌, ltb, length, replicate, if◌then◌else◌}
use Rattle.std.proofs.Math.Option.{Option as Maybe, none, some}
use Rattle.words.specs.Lists.{below}
use Rattle.refusals.specs.declared.Refusal.{Refusal}
use Rattle.refusals.specs.declared.Refusal.TheVariants.{BadTable, ManyTicks}
use Rattle.table.specs.Limits.{most_rows, most_ticks}
use Rattle.table.specs.Paper.{Table, row_at}
use Rattle.table.specs.Value.{table_of, well_formed}
use Rattle.table.specs.declared.Table.{Table as TableValue}
use Rattle.refusals.specs.Refusals.{number_of}
use Rattle.ticks.specs.Ticks.{instant}
use Rattle.ticks.specs.declared.Instant.{Instant}
use Rattle.kernel.specs.Completion.{completion}

-- a completion as a value
abbrev pub completion_value : Maybe ℕ → Option Instant
completion_value (some c) = Some (instant c)
completion_value none = None

-- the answers of all rows, and none behind the last
unfoldable pub completions : Table → ℕ → List (Option Instant)
completions t n = map (λ k. completion_value (completion (row_at t) k n)) (below (length t)) ++ replicate (most_rows - length t) None

-- 20, then 23, else the answers
unfoldable pub full_run : TableValue → ℕ → Result (List (Option Instant)) Refusal
full_run v n =
    if well_formed v
    then (if ltb most_ticks n then Err ManyTicks else Ok (completions (table_of v) n))
    else Err BadTable

-- the number of a run's outcome: 0 where it was carried out
abbrev pub number_of_outcome : Result (List (Option Instant)) Refusal → ℕ
number_of_outcome (Ok firsts) = 0
number_of_outcome (Err why) = number_of why
