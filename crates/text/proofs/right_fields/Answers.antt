-- `right_fields` meets its contract: below the fixed fields there is no time at all.
use mathlib.Core.Path.{◌≡◌}
use Prim.Native.Nat.{◌-◌}
use native.Mathlib.Omega.{arith}
use borrow.Author.Tests.{lt-leb}
use Rattle.words.specs.Choice.{◌and◌}
use Rattle.table.specs.Paper.{right_count}
use Rattle.text.specs.Read.{right_fields, fixed_fields}
use Rattle.text.proofs.right_fields.Goals as goal

pub returns-then-k-ge-FIXED : goal.returns-then-k-ge-FIXED
unfolding right_fields
returns-then-k-ge-FIXED c = c.right_count.ensures

pub returns-else-k-ge-FIXED : goal.returns-else-k-ge-FIXED
unfolding right_fields right_count ◌and◌
returns-else-k-ge-FIXED c =
    let z : c.args.k - fixed_fields ≡ 0 = omega arith in
    rw (z, lt-leb fixed_fields c.args.k c.if-k-ge-FIXED.false)
