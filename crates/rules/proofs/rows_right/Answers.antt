-- `rows_right` meets its contract: the tests of the rows that are left, below those passed, decide.
use mathlib.Core.Path.{◌≡◌, refl, sym, ap, ◌∙◌}
use mathlib.Core.Bool.{true, false, not}
use lib.ListN.{get_or, take}
use Rattle.words.specs.Lists.{any}
use Rattle.words.proofs.Choice.{and-true, and-false}
use Rattle.table.specs.Value.{no_value, name_in}
use Rattle.rules.specs.Tests.{right_value, waits_value}
use Rattle.rules.proofs.Rows.{rows-test-at, rows-test-end, waits-next}
use Rattle.rules.proofs.rows_right.Goals as goal

pub loop-i-init : goal.loop-i-init
unfolding any
loop-i-init c = (refl, refl)

pub returns-then-waiting : goal.returns-then-waiting
returns-then-waiting c =
    let l = c.loop-i in
    sym (l.invariant.1 ∙ rows-test-at c.args.rows.now l.i c.loop-i-test.true ∙ and-false _ (ap not (sym l.invariant.0 ∙ c.if-waiting.true)))

pub returns-then-not-right_row : goal.returns-then-not-right_row
returns-then-not-right_row c =
    let l = c.loop-i in
    let rows = c.args.rows.now in
    let e : right_value (get_or rows l.i no_value) ≡ false = sym c.right_row.ensures ∙ c.if-not-right_row.true in
    sym (l.invariant.1 ∙ rows-test-at rows l.i c.loop-i-test.true ∙ and-true _ (ap not (sym l.invariant.0 ∙ c.if-waiting.false)) ∙ and-false _ e)

pub returns-then-named : goal.returns-then-named
returns-then-named c =
    let l = c.loop-i in
    let rows = c.args.rows.now in
    let e : right_value (get_or rows l.i no_value) ≡ true = sym c.right_row.ensures ∙ c.if-not-right_row.false in
    let f : name_in (get_or rows l.i no_value).name (take l.i rows) ≡ true = sym c.named.ensures ∙ c.if-named.true in
    sym (l.invariant.1 ∙ rows-test-at rows l.i c.loop-i-test.true
    ∙ and-true _ (ap not (sym l.invariant.0 ∙ c.if-waiting.false)) ∙ and-true _ e ∙ and-false _ (ap not f))

pub loop-i-preserved : goal.loop-i-preserved
loop-i-preserved c =
    let l = c.loop-i in
    let rows = c.args.rows.now in
    let none : any waits_value (take l.i rows) ≡ false = sym l.invariant.0 ∙ c.if-waiting.false in
    let e : right_value (get_or rows l.i no_value) ≡ true = sym c.right_row.ensures ∙ c.if-not-right_row.false in
    let f : name_in (get_or rows l.i no_value).name (take l.i rows) ≡ false = sym c.named.ensures ∙ c.if-named.false in (
      c.waits-waiting.ensures ∙ sym (waits-next rows l.i c.loop-i-test.true none),
      l.invariant.1 ∙ rows-test-at rows l.i c.loop-i-test.true ∙ and-true _ (ap not none) ∙ and-true _ e ∙ and-true _ (ap not f),
    )

pub returns : goal.returns
returns c =
    let l = c.loop-i in
    let rows = c.args.rows.now in
    sym (l.invariant.1 ∙ rows-test-end rows (take l.i rows) l.i c.loop-i-test.false)
