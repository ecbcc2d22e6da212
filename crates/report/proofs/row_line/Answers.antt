-- `row_line` meets its contract: each field has the text that the line on paper has.
use Rattle.report.specs.Report.{row_line}
use Rattle.report.proofs.row_line.Goals as goal

pub returns : goal.returns
unfolding row_line
returns c =
    rw (← c.figure_of.ensures, ← c.verdict_field.ensures, ← c.figure_field.ensures, ← c.figure_field-2.ensures, ← c.figure_field-3.ensures) c.of.ensures
