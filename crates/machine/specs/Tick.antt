-- One tick of the machine, and the machine after k ticks. proofs/Link shows that it goes by the kernel's rules.
use Rattle.std.specs.Prelude.{Option, Some, None, Bool, List, ◌++◌, map, ℕ, zero, suc, ◌+◌, ◌-◌, ltb, leb, length, take, get_or, set, replicate, if◌then◌else◌}
use Rattle.std.specs.List.{position}
use Rattle.words.specs.Lists.{is_zero}
use Rattle.ticks.specs.Ticks.{instant, long}
use Rattle.ticks.specs.declared.Instant.{Instant}
use Rattle.table.specs.Limits.{most_rows}
use Rattle.table.specs.Value.{no_value}
use Rattle.table.specs.declared.Row.{Row}
use Rattle.table.specs.declared.Table.{Table}
use Rattle.machine.specs.declared.Cell.{Cell}
use Rattle.machine.specs.declared.Machine.{Machine}

-- the time at a place of a row, C1 at 0; 0 behind the last
abbrev pub time_at : Row → ℕ → ℕ
time_at row place = (get_or row.times place (long 0)).0

-- a row's job of which nothing is done: ready at its release, or at once where it is late
abbrev pub cell_of : Instant → Row → Cell
cell_of release row = record { release = release; ready = release; place = 0; left = long (time_at row 0) }

-- the job is complete: the next one is due a period after its release
abbrev pub next_job : Row → Cell → Cell
next_job row c = cell_of (instant (c.release.0 + row.period.0)) row

-- the suspension behind a stretch starts at the instant `end`: the job's next stretch is ready when it ends
abbrev pub next_stretch : Instant → Row → Cell → Cell
next_stretch end row c =
    record {
      release = c.release;
      ready = instant (end.0 + time_at row (c.place + 1));
      place = c.place + 2;
      left = long (time_at row (c.place + 2));
    }

-- a stretch has ended at the instant `end`: the job's last, or one with another behind it
abbrev pub ended_of : Instant → Row → Cell → Cell
ended_of end row c = if is_zero (time_at row (c.place + 2)) then next_job row c else next_stretch end row c

-- a row runs for the tick that begins at `from`: its stretch has a tick less to go, or ends with the tick
abbrev pub served_of : Instant → Row → Cell → Cell
served_of from row c =
    if ltb 1 c.left.0
    then record { release = c.release; ready = c.ready; place = c.place; left = long (c.left.0 - 1) }
    else ended_of (instant (from.0 + 1)) row c

-- a cell's stretch is ready at an instant
abbrev pub is_ready : Instant → Cell → Bool
is_ready now c = leb c.ready.0 now.0

-- the first of the cells that is ready
abbrev pub highest : Instant → List Cell → Option ℕ
highest now cells = position (is_ready now) cells

-- the row that runs in the next tick: the highest of the n rows that is ready
abbrev pub runs : Machine → ℕ → Option ℕ
runs m n = highest m.now (take n m.cells)

-- the cell of a place without a row
abbrev pub no_cell : Cell
no_cell = record { release = instant 0; ready = instant 0; place = 0; left = long 0 }

-- a row's cell
abbrev pub cell_at : Machine → ℕ → Cell
cell_at m k = get_or m.cells k no_cell

-- the cells after a tick: the row that runs is served, and no other cell changes
abbrev pub cells_of : Machine → List Row → Option ℕ → List Cell
cells_of m rows (Some i) = set m.cells i (served_of m.now (get_or rows i no_value) (cell_at m i))
cells_of m rows None = m.cells

-- ONE TICK
abbrev pub tick_of : Machine → List Row → Machine
tick_of m rows = record { now = instant (m.now.0 + 1); ran = runs m (length rows); cells = cells_of m rows (runs m (length rows)) }

-- before the first tick
abbrev pub start_of : List Row → Machine
start_of rows = record { now = instant 0; ran = None; cells = map (cell_of (instant 0)) rows ++ replicate (most_rows - length rows) no_cell }

-- after k ticks
abbrev pub ticked : List Row → ℕ → Machine
ticked rows zero = start_of rows
ticked rows (suc k) = tick_of (ticked rows k) rows

-- the rows of a table
abbrev pub rows_of : Table → List Row
rows_of v = take v.len v.rows

-- the machine of a table's full run after k ticks
abbrev pub run_of : Table → ℕ → Machine
run_of v k = ticked (rows_of v) k
