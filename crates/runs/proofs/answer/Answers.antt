-- `answer` meets its contract.
use mathlib.Core.Path.{◌≡◌, refl, sym, ap, ◌∙◌}
use borrow.Author.Rules.{rules}
use borrow.Author.Tests.{tests}
use Rattle.std.specs.Prelude.{Ok, Err}
use Rattle.std.proofs.lemmas.Result.{err_from_is_err_and}
use Rattle.text.specs.Read.{read_text, reading_of}
use Rattle.text.proofs.Back.{reading-accepted, reading-refused}
use Rattle.machine.specs.Run.{full_run}
use Rattle.runs.proofs.Tables.{ran-lines, answer-ran, answer-refused}
use Rattle.runs.proofs.answer.Goals as goal

pub returns-in_err-table : goal.returns-in_err-table
returns-in_err-table c =
    let p = err_from_is_err_and c.from_residual.result c.from_residual.ensures.1 in
    let e : Err c.in_err-table.field-0.0 ≡ reading_of (read_text c.args.text.now) = search (rules, tests) in
    rw (reading-refused c.args.text.now _ e) (p.1 ∙ ap Err p.2, refl)

pub returns-in_err-firsts : goal.returns-in_err-firsts
returns-in_err-firsts c =
    let p = err_from_is_err_and c.from_residual-in_err-firsts.result c.from_residual-in_err-firsts.ensures.1 in
    let e : Ok c.in_ok-table.table ≡ reading_of (read_text c.args.text.now) = search (rules, tests) in
    let r : Err c.in_err-firsts.field-0.0 ≡ full_run c.in_ok-table.table c.args.ticks = search (rules, tests) in
    let a = reading-accepted c.args.text.now _ e in
    let q = answer-refused c.in_ok-table.table a.0 c.args.ticks _ r c.args.out.now in
    rw a.1 (p.1 ∙ ap Err p.2 ∙ sym q.0, sym q.1)

pub returns : goal.returns
returns c =
    let e : Ok c.in_ok-table.table ≡ reading_of (read_text c.args.text.now) = search (rules, tests) in
    let a = reading-accepted c.args.text.now _ e in
    let d = c.args.out.now in
    let f = c.in_ok-firsts.firsts in
    let ran : Ok f ≡ full_run c.in_ok-table.table c.args.ticks = search (rules, tests) in
    let s = ran-lines c.in_ok-table.table a.0 c.args.ticks f ran in
    let p = answer-ran c.in_ok-table.table a.0 c.args.ticks f ran d in
    let w = rw s at c.write.ensures in
    rw a.1 (w.0 ∙ sym p.0, w.1 ∙ sym p.1)
