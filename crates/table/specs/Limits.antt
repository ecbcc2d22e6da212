-- The limits of a table. The code has the same numbers, as associated constants of `Table`.
use Rattle.std.specs.Prelude.{ℕ, ◌*◌, ◌-◌}

-- rows of a table
abbrev pub most_rows : ℕ
most_rows = 16

-- computation times of a row
abbrev pub most_stretches : ℕ
most_stretches = 4

-- times of a row: its C, and an S between each two
abbrev pub most_times : ℕ
most_times = 2 * most_stretches - 1

-- bytes of a name
abbrev pub longest_name : ℕ
longest_name = 12

-- the largest number
abbrev pub largest_number : ℕ
largest_number = 1000000

-- bytes of a text
abbrev pub longest_text : ℕ
longest_text = 1360

-- ticks of a full run
abbrev pub most_ticks : ℕ
most_ticks = largest_number
