-- `write` meets its contract.
use mathlib.Core.Path.{◌≡◌, sym, ap, ◌∙◌}
use Rattle.std.specs.Prelude.{Ok, Err}
use Rattle.std.proofs.lemmas.Result.{err_from_is_err_and}
use Rattle.figures.specs.Answers.{table_figures}
use Rattle.report.proofs.Tables.{figures-right, report-lines, reported-right, reported-refused}
use Rattle.report.proofs.write.Goals as goal

pub returns-in_err-figures : goal.returns-in_err-figures
returns-in_err-figures c =
    let p = err_from_is_err_and c.from_residual.result c.from_residual.ensures.1 in
    let w = reported-refused c.args.table _ c.args.out.now (sym c.in_err-figures.was ∙ c.table_figures.ensures) in
    (p.1 ∙ ap Err p.2 ∙ sym w.0, sym w.1)

pub returns : goal.returns
returns c =
    let v = c.args.table in
    let f = c.in_ok-figures.figures in
    let e : Ok f ≡ table_figures v = sym c.in_ok-figures.was ∙ c.table_figures.ensures in
    let ok = figures-right v f e in
    let w = reported-right v c.args.out.now ok in
    let h = rw (report-lines v ok f e) at c.write.ensures in
    (h.0 ∙ sym w.0, h.1 ∙ sym w.1)
