-- `write_number` meets its contract: the digits stand behind the tab.
use mathlib.Core.Path.{sym, ◌∙◌}
use mathlib.Core.List.{◌∷◌}
use Prim.Native.Nat.{◌+◌, ◌≤◌}
use native.Mathlib.Omega.{arith}
use lib.ListN.{length, set, length-set}
use Rattle.words.proofs.Buffer.{placed-fits, placed-short, fitted-fits, fitted_short}
use Rattle.words.proofs.Put.{Put, spliced, put_first, put-fitted}
use Rattle.decimal.specs.Decimal.{digits}
use Rattle.fields.specs.Fields.{tab}
use Rattle.fields.proofs.write_number.Goals.{After-slice_known-2-1}
use Rattle.fields.proofs.write_number.Goals as goal

-- the buffer after the tab and the digits
final : (c : After-slice_known-2-1)
    → Put (tab ∷ digits c.args.n) c.args.out.now (spliced (set c.args.out.now 0 tab) 1 c.write.new.out) (1 + c.write.result)
final c =
    put-fitted (digits c.args.n) _ _ (put_first c.args.out.now tab (omega (arith, c.if-out-width.false))) (omega (arith, c.if-out-width.false, c.width.ensures)) c.write.ensures

pub returns-then-out-width : goal.returns-then-out-width
returns-then-out-width c =
    let w = tab ∷ digits c.args.n in
    (sym (fitted_short w c.args.out.now (omega (arith, c.if-out-width.true, c.width.ensures))), sym (placed-short w c.args.out.now (omega (arith, c.if-out-width.true, c.width.ensures))))

pub slice_bounds-write-count : goal.slice_bounds-write-count
slice_bounds-write-count c = simp length-set (omega (arith, c.if-out-width.false))

pub slice_bounds-write-start : goal.slice_bounds-write-start
slice_bounds-write-start c = simp length-set (omega (arith, c.if-out-width.false))

pub overflow_add-result : goal.overflow_add-result
overflow_add-result c = omega (arith, (final c).end, c.if-out-width.false, c.width.ensures, c.well_formed)

pub shape_of-out : goal.shape_of-out
shape_of-out c = (final c).kept

pub returns : goal.returns
returns c =
    let w = tab ∷ digits c.args.n in
    let h : length w ≤ length c.args.out.now = omega (arith, c.if-out-width.false, c.width.ensures) in
    ((final c).end ∙ sym (fitted-fits w c.args.out.now h), (final c).front ∙ sym (placed-fits w c.args.out.now h))
