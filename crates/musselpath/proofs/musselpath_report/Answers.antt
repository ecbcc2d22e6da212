-- `musselpath_report` meets its contract.
use mathlib.Core.Path.{sym, ◌∙◌}
use Rattle.report.specs.Report.{answer_text}
use Rattle.musselpath.proofs.Answers.{bytes-fitted, refused-fitted}
use Rattle.musselpath.proofs.musselpath_report.Goals as goal

pub returns-in-Ok : goal.returns-in-Ok
returns-in-Ok c =
    let s = c.args in
    (bytes-fitted (answer_text s.text.now) s.out.now _ (sym c.answer.ensures.0 ∙ c.in-Ok.is), c.answer.ensures.1)

pub returns-in-Err : goal.returns-in-Err
returns-in-Err c =
    let s = c.args in
    (refused-fitted (answer_text s.text.now) s.out.now _ (sym c.answer.ensures.0 ∙ c.in-Err.is), c.answer.ensures.1)
