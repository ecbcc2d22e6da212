-- `answer` meets its contract.
use mathlib.Core.Path.{sym, ◌∙◌}
use Rattle.report.proofs.Tables.{reported-right, read-accepted, read-refused}
use Rattle.report.proofs.answer.Goals as goal

pub returns-in-Ok : goal.returns-in-Ok
returns-in-Ok c =
    let a = read-accepted c.args.text.now _ (sym c.in-Ok.is ∙ c.read.ensures) in
    let w = reported-right _ c.args.out.now a.0 in
    rw a.1 (c.write.ensures.0 ∙ w.0, c.write.ensures.1 ∙ w.1)

pub returns-in-Err : goal.returns-in-Err
returns-in-Err c = rw (read-refused c.args.text.now _ (sym c.in-Err.is ∙ c.read.ensures)) c.write-in-Err.ensures
