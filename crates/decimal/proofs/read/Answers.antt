-- `decimal::read` meets its contract: what is left to read, after the number so far, gives the same answer as the whole.
use mathlib.Core.Path.{refl, sym, ap, ◌∙◌}
use Prim.Native.Nat.{ℕ, ◌+◌}
use lib.ListN.{drop}
use native.Mathlib.Omega.{arith}
use borrow.Author.Tests.{eqb-true, eqb-false}
use Rattle.words.proofs.Choice.{and-true, and-false}
use Rattle.words.proofs.Lists.{all-at, all_end}
use Rattle.decimal.specs.Decimal.{digit, value}
use Rattle.decimal.proofs.Reading.{is_digit, not_digit, leads-none, leads_one, leads-many, leads-zero, value-at, value-end}
use Rattle.decimal.proofs.Reading.{number-leads, number-digit, number-past, number-low, number_is}
use Rattle.decimal.proofs.read.Goals.{else-bytes-gt1-via-then-bytes-gt1+else-bytes-eq48, else-bytes-gt1-via-else-bytes-gt1}
use Rattle.decimal.proofs.read.Goals as goal

pub returns-then-is_empty : goal.returns-then-is_empty
returns-then-is_empty c = sym (number-leads _ _ _ (leads-none _ (eqb-true _ _ (sym c.is_empty.ensures ∙ c.if-is_empty.true))))

pub returns-then-bytes-eq48 : goal.returns-then-bytes-eq48
returns-then-bytes-eq48 c = sym (number-leads _ _ _ (leads-zero _ c.if-bytes-gt1.true c.if-bytes-eq48.true))

pub loop-b-init : goal.loop-b-init
loop-b-init c =
    record {
      within = omega arith;
      lead =
          elim c.else-bytes-gt1.branch [
            | else-bytes-gt1-via-then-bytes-gt1+else-bytes-eq48 w ↦ leads-many _ w.if-bytes-gt1.true w.if-bytes-eq48.false
            | else-bytes-gt1-via-else-bytes-gt1 w ↦ leads_one _ (eqb-false _ _ (sym c.is_empty.ensures ∙ c.if-is_empty.false)) w.if-bytes-gt1.false
          ];
      digits = refl;
      rest = refl;
    }

pub returns-then-not-is_ascii_digit : goal.returns-then-not-is_ascii_digit
returns-then-not-is_ascii_digit c =
    let l = c.loop-b in
    sym (number-digit _ _ _ (l.invariant.digits ∙ all-at digit _ l.b-index 0 c.loop-b-test.true ∙ and-false _ (not_digit _ c.if-not-is_ascii_digit.ensures.cases)))

pub returns-in_err-checked_mul : goal.returns-in_err-checked_mul
returns-in_err-checked_mul c =
    let l = c.loop-b in
    c.from_residual.ensures ∙ sym (number-past _ _ l.v l.b-index _ l.invariant.rest c.loop-b-test.true (omega arith))

pub returns-in_err-v : goal.returns-in_err-v
returns-in_err-v c =
    let l = c.loop-b in
    c.from_residual-in_err-v.ensures ∙ sym (number-past _ _ l.v l.b-index _ l.invariant.rest c.loop-b-test.true (omega arith))

pub returns-then-hi-v : goal.returns-then-hi-v
returns-then-hi-v c =
    let l = c.loop-b in
    sym (number-past _ _ l.v l.b-index _ l.invariant.rest c.loop-b-test.true (omega arith))

pub loop-b-preserved : goal.loop-b-preserved
loop-b-preserved c =
    let l = c.loop-b in
    let t = c.loop-b-test.true in
    record {
      within = c.if-hi-v.false;
      lead = l.invariant.lead;
      digits = l.invariant.digits ∙ all-at digit _ l.b-index 0 t ∙ and-true _ (is_digit _ c.if-not-is_ascii_digit.ensures.cases.0 c.if-not-is_ascii_digit.ensures.cases.1);
      rest = l.invariant.rest ∙ value-at l.v _ l.b-index t ∙ ap (λ (v : ℕ). value v (drop (l.b-index + 1) c.args.bytes.now)) (omega arith);
    }

pub returns-then-v-lo : goal.returns-then-v-lo
returns-then-v-lo c =
    let l = c.loop-b in
    sym (number-low _ _ _ (rw (l.invariant.rest ∙ value-end l.v c.args.bytes.now l.b-index c.loop-b-test.false) c.if-v-lo.true))

pub returns : goal.returns
returns c =
    let l = c.loop-b in
    let s = c.args.bytes.now in
    let e = l.invariant.rest ∙ value-end l.v s l.b-index c.loop-b-test.false in
    sym (number_is _ _ s l.invariant.lead (l.invariant.digits ∙ all_end digit s l.b-index c.loop-b-test.false) (rw e c.if-v-lo.false)
    (rw e l.invariant.within) ∙ rw e)
