-- `line` meets its contract: the fields in use are T, D and the times in use.
use mathlib.Core.Path.{◌≡◌, refl}
use native.Mathlib.Omega.{arith}
use borrow.Author.Rules.{rules}
use Prim.Native.Nat.{◌≤◌}
use lib.ListN.{length, take, length-take}
use Rattle.table.specs.Limits.{most_times}
use Rattle.table.proofs.Rows.{times-within}
use Rattle.text.proofs.Writer.{made-next, made-line}
use Rattle.text.proofs.line.Goals as goal

pub shared_ref_as_front-time-items : goal.shared_ref_as_front-time-items
shared_ref_as_front-time-items c =
    let n : length c.args.row.times ≡ most_times = search rules in
    omega (arith, times-within c.args.row n, c.count.ensures)

pub loop-i-init : goal.loop-i-init
loop-i-init c = refl

pub loop-i-preserved : goal.loop-i-preserved
loop-i-preserved c =
    let n : length c.args.row.times ≡ most_times = search rules in
    let ts = take c.count.result c.args.row.times in
    let short : length ts ≤ most_times = simp length-take (omega (arith, n)) in
    made-next c.args.row ts c.loop-i.i c.loop-i.fields short c.loop-i-test.true c.loop-i.invariant

pub returns : goal.returns
returns c = made-line c.args.row c.loop-i.i c.count.result c.loop-i.fields c.loop-i-test.false c.loop-i.invariant c.count.ensures
