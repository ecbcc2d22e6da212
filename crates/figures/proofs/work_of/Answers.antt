-- `work_of` meets its contract: the C so far and those from the next one on are all C.
use mathlib.Core.Path.{◌≡◌, refl}
use mathlib.Core.List.{List, map}
use Prim.Native.Nat.{ℕ, ◌+◌, ◌%◌}
use native.Mathlib.Omega.{arith}
use lib.ListN.{drop, get_or}
use Rattle.table.specs.Paper.{parts, work}
use Rattle.table.proofs.Rows.{time-at}
use Rattle.ticks.specs.declared.Length.{Length}
use Rattle.ticks.specs.Ticks.{ticks, long}
use Rattle.recurrence.proofs.Rows.{work-at, work-end}
use Rattle.figures.proofs.Values.{deadline-safe, kept-size, work_kept, work-fits}
use Rattle.figures.proofs.work_of.Goals.{then-j-eq0, else-j-eq0}
use Rattle.figures.proofs.work_of.Goals as goal

-- all C from the next stretch on
abbrev from_next : List Length → ℕ → ℕ
from_next times j = work (parts (drop (j + j % 2) (map ticks times)))

-- a C at an even place
own-place : (times : List Length) (j : ℕ) → j % 2 ≡ 0 → from_next times j ≡ (get_or times j (long 0)).0 + from_next times (j + 1)
own-place times j e =
    let a : j + j % 2 ≡ j = omega arith in
    let b : j + 1 + (j + 1) % 2 ≡ j + 2 = omega arith in
    rw (a, b) (omega (arith, work-at (map ticks times) j, time-at times j))

-- an S at an odd one
other-place : (times : List Length) (j : ℕ) → j % 2 ≡ 1 → from_next times j ≡ from_next times (j + 1)
other-place times j e =
    let a : j + j % 2 ≡ j + 1 = omega arith in
    let b : j + 1 + (j + 1) % 2 ≡ j + 1 = omega arith in
    rw (a, b) refl

pub overflow_add-sum : goal.overflow_add-sum
overflow_add-sum c =
    let v = c.args.row.now in
    omega (arith, c.loop-j.invariant, own-place v.times c.loop-j.j c.if-j-eq0.true, work_kept v c.requires, work-fits v c.requires, deadline-safe v c.requires)

pub loop-j-preserved : goal.loop-j-preserved
loop-j-preserved c =
    let times = c.args.row.now.times in
    let j = c.loop-j.j in
    elim c.if-j-eq0.branch [
      | then-j-eq0 w ↦ omega (arith, c.loop-j.invariant, own-place times j w.if-j-eq0.true, w.sum-is)
      | else-j-eq0 w ↦ omega (arith, c.loop-j.invariant, other-place times j (omega (arith, w.if-j-eq0.false)), w.sum-is)
    ]

pub returns : goal.returns
returns c =
    let v = c.args.row.now in
    let j = c.loop-j.j in
    omega (
      arith,
      c.loop-j.invariant,
      work-end (map ticks v.times) (j + j % 2) (omega (arith, kept-size v c.requires, c.loop-j-test.false)),
      work_kept v c.requires,
    )
