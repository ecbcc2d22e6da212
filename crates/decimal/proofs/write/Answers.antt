-- `decimal::write` meets its contract: the digits that are left of the number stand before those written so far.
use mathlib.Core.Path.{◌≡◌, sym, ◌∙◌}
use Prim.Native.Nat.{◌≤◌, ◌<◌}
use native.Mathlib.Omega.{arith}
use lib.ListN.{length}
use Rattle.words.proofs.Buffer.{placed-fits, placed-short, fitted-fits, fitted_short}
use Rattle.words.specs.Buffer.{over}
use Rattle.decimal.specs.Decimal.{digits}
use Rattle.decimal.proofs.Digits.{ends, digits-ends, digit-moved}
use Rattle.decimal.proofs.write.Goals as goal

pub returns-then-out-len : goal.returns-then-out-len
returns-then-out-len c =
    let s : length c.args.out.now < length (digits c.args.n) = omega (arith, c.width-len.ensures, c.if-out-len.true) in
    (sym (fitted_short _ _ s), sym (placed-short _ _ s))

pub loop-i-init : goal.loop-i-init
loop-i-init c = rw (c.width-len.ensures, digits-ends c.args.n)

pub loop-i-preserved : goal.loop-i-preserved
loop-i-preserved c = c.loop-i.invariant ∙ digit-moved c.loop-i.rest c.loop-i.i c.loop-i.out (omega arith) (omega arith)

pub returns : goal.returns
unfolding over ends
returns c =
    let s : length (digits c.args.n) ≤ length c.args.out.now = omega (arith, c.width-len.ensures, c.if-out-len.false) in
    let z : c.loop-i.i ≡ 0 = omega arith in (
      c.width-len.ensures ∙ sym (fitted-fits _ _ s),
      sym (rw (placed-fits (digits c.args.n) c.args.out.now s, sym c.width-len.ensures) (rw z at c.loop-i.invariant)),
    )
