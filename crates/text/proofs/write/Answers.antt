-- `write` meets its contract.
use mathlib.Core.Path.{sym, ◌∙◌}
use borrow.Author.Rules.{rules}
use borrow.Author.Tests.{tests}
use Rattle.text.proofs.Writer.{written-bad, write_right}
use Rattle.text.proofs.write.Goals as goal

pub returns-then-not-well_formed : goal.returns-then-not-well_formed
returns-then-not-well_formed c =
    let a = c.args in
    let w = written-bad a.table a.out.now (sym c.well_formed-2.ensures ∙ c.if-not-well_formed.true) in
    (sym w.0, sym w.1)

pub returns : goal.returns
returns c =
    let ok = sym c.well_formed-2.ensures ∙ c.if-not-well_formed.false in
    write_right c.args.table c.args.out.now _ _ ok (search (rules, tests))
