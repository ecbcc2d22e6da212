-- The rules of a table value, test by test as the code makes them. proofs/Tests shows that together they are `well_formed`.
use Rattle.std.specs.Prelude.{Bool, true, not, List, [], ◌∷◌, ◌++◌, map, ℕ, eqb, length, drop}
use Rattle.words.specs.Choice.{◌and◌}
use Rattle.words.specs.Lists.{is_zero, all, any, up_to}
use Rattle.table.specs.declared.Row.{Row as RowValue}
use Rattle.table.specs.Paper.{right_row, waits}
use Rattle.table.specs.Value.{row_of, name_in}
use Rattle.ticks.specs.Ticks.{ticks}

-- nothing but zeros behind the first zero
unfoldable pub ended : List ℕ → Bool
ended xs = all is_zero (drop (length (up_to 0 xs)) xs)

-- a row in use, by itself
unfoldable pub right_value : RowValue → Bool
right_value v = ended v.name and ended (map ticks v.times) and right_row (row_of v)

-- a row that is not used
unfoldable pub unused : RowValue → Bool
unused v = all is_zero v.name and eqb v.period.0 0 and eqb v.deadline.0 0 and all is_zero (map ticks v.times)

-- a row value that waits
abbrev pub waits_value : RowValue → Bool
waits_value v = waits (row_of v)

-- each row below those above it
unfoldable pub rows_test : List RowValue → List RowValue → Bool
rows_test above [] = true
rows_test above (v ∷ vs) =
    not (any waits_value above) and right_value v and not (name_in v.name above) and rows_test (above ++ (v ∷ [])) vs
