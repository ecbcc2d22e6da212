-- What the full run notes of each row's first job. proofs/Completions shows that it is its completion.
use Rattle.std.specs.Prelude.{Option, Some, None, List, ℕ, zero, suc, get_or, set, replicate, if◌then◌else◌}
use Rattle.std.specs.Option.{option_or}
use Rattle.words.specs.Lists.{is_zero}
use Rattle.ticks.specs.declared.Instant.{Instant}
use Rattle.table.specs.Limits.{most_rows}
use Rattle.table.specs.declared.Row.{Row}
use Rattle.table.specs.declared.Table.{Table}
use Rattle.machine.specs.declared.Cell.{Cell}
use Rattle.machine.specs.declared.Machine.{Machine}
use Rattle.machine.specs.Tick.{rows_of, cell_at, ticked}

-- a row at the end of a tick: once a later job than the first is its oldest, the first is complete
abbrev pub noted_of : Cell → Option Instant → Instant → Option Instant
noted_of c first end = if is_zero c.release.0 then first else option_or first (Some end)

-- all rows at the end of a tick: only the row that ran can have completed a job
abbrev pub note_of : Machine → List (Option Instant) → Option ℕ → List (Option Instant)
note_of m firsts (Some i) = set firsts i (noted_of (cell_at m i) (get_or firsts i None) m.now)
note_of m firsts None = firsts

-- after k ticks
abbrev pub firsts_after : List Row → ℕ → List (Option Instant)
firsts_after rows zero = replicate most_rows None
firsts_after rows (suc k) = note_of (ticked rows (suc k)) (firsts_after rows k) (ticked rows (suc k)).ran

-- of row i of a table, after k ticks of its full run
abbrev pub first_at : Table → ℕ → ℕ → Option Instant
first_at v k i = get_or (firsts_after (rows_of v) k) i None
