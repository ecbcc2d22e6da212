-- A sum of an instant and a length that has room, and that the row that ran in a tick is one of the rows.
use Rattle.std.specs.Prelude.{Some}
use Rattle.std.proofs.lemmas.List.Quantifiers.{position-Some}
use mathlib.Core.Path.{◌≡◌, ap}
use mathlib.Core.List.{List}
use Prim.Native.Nat.{ℕ, ◌+◌, ◌≤◌, ◌<◌}
use native.Mathlib.Nat.{min-eq_left}
use native.Mathlib.Omega.{arith}
use lib.ListN.{length, take, length-take}
use Rattle.ticks.specs.Ticks.{most, later_by, instant}
use Rattle.ticks.specs.declared.Instant.{Instant}
use Rattle.ticks.specs.declared.Length.{Length}
use Rattle.table.specs.declared.Row.{Row}
use Rattle.machine.specs.declared.Machine.{Machine}
use Rattle.machine.specs.Tick.{is_ready, no_cell, tick_of}

-- an instant and a length after it, where the sum has room
pub later-is : (i : Instant) (l : Length) → i.0 + l.0 ≤ most → later_by i l ≡ instant (i.0 + l.0)
later-is i l h = ap instant (min-eq_left h)

pub ran_below : (m : Machine) (rows : List Row) (i : ℕ) → (tick_of m rows).ran ≡ Some i → i < length rows
ran_below m rows i e =
    let n = length rows in
    let p : i < length (take n m.cells) = (position-Some (is_ready m.now) (take n m.cells) i no_cell e).0 in
    omega (arith, length-take n m.cells)
