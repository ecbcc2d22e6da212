-- What a tick needs of the machine, so that no sum of it leaves 64 bits and each place is one of the row's.
use Rattle.std.specs.Prelude.{List, ℕ, ◌+◌, ◌≤◌, ◌<◌, length, get_or}
use Rattle.ticks.specs.Ticks.{most, instant}
use Rattle.ticks.specs.declared.Instant.{Instant}
use Rattle.table.specs.Limits.{most_rows, most_times}
use Rattle.table.specs.Value.{no_value}
use Rattle.table.specs.declared.Row.{Row}
use Rattle.machine.specs.declared.Cell.{Cell}
use Rattle.machine.specs.declared.Machine.{Machine}
use Rattle.machine.specs.Tick.{time_at, cell_at, ticked}

-- of a row's cell, where its stretch ends at the instant `end`
pub record Fits (end : Instant) (row : Row) (c : Cell) : Type 0 where
  pub place : c.place < most_times
  pub next : c.release.0 + row.period.0 ≤ most
  pub wait : end.0 + time_at row (c.place + 1) ≤ most

-- of a machine with these rows, before its next tick
pub record Safe (m : Machine) (rows : List Row) : Type 0 where
  pub few : length rows ≤ most_rows
  pub later : m.now.0 + 1 ≤ most
  pub fits : (k : ℕ) → k < length rows → Fits (instant (m.now.0 + 1)) (get_or rows k no_value) (cell_at m k)

-- of a run of so many ticks: each of them is safe
pub record SafeRun (rows : List Row) (ticks : ℕ) : Type 0 where
  pub few : length rows ≤ most_rows
  pub each : (k : ℕ) → k < ticks → Safe (ticked rows k) rows
