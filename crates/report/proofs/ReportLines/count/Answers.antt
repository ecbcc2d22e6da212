-- `Report::count` meets its contract: a line for each row, and the last.
use mathlib.Core.Path.{sym, ap, ◌∙◌}
use Prim.Native.Nat.{◌+◌, min}
use Rattle.table.specs.Limits.{most_rows}
use Rattle.lines.proofs.Laws.{lines-count-last}
use Rattle.report.specs.Report.{last_line}
use Rattle.report.specs.Parts.{said_at}
use Rattle.report.proofs.ReportLines.count.Goals as goal

pub returns : goal.returns
returns c =
    let r = c.args.self.now in
    ap (λ n. n + 1) c.rows.ensures ∙ sym (lines-count-last (said_at r.table.now r.figures.now) (min r.table.now.len most_rows) (last_line r.figures.now.verdict))
