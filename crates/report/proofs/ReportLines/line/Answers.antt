-- `Report::line` meets its contract: the line of a row, or behind them the last line.
use mathlib.Core.Path.{◌≡◌, sym, ap, ◌∙◌}
use Prim.Native.Nat.{◌<◌, min}
use native.Mathlib.Omega.{arith}
use lib.ListN.{get_or}
use borrow.Author.Rules.{rules}
use borrow.Author.Tests.{tests}
use Rattle.std.specs.Prelude.{Result, Ok, Err}
use mathlib.Core.List.{[]}
use Rattle.refusals.specs.declared.Refusal.{Refusal}
use Rattle.figures.specs.declared.RowFigures.{RowFigures}
use Rattle.table.specs.Limits.{most_rows}
use Rattle.table.specs.Value.{no_value}
use Rattle.lines.proofs.Laws.{lines-count-last, line-at-front, line-at-last}
use Rattle.report.specs.Report.{last_line}
use Rattle.report.specs.Parts.{no_answer, said_line, said_at, report_lines}
use Rattle.report.proofs.ReportLines.line.Goals.{Else-i-rows}
use Rattle.report.proofs.ReportLines.line.Goals as goal

pub returns-then-i-rows : goal.returns-then-i-rows
returns-then-i-rows c =
    let r = c.args.self.now in
    c.last_line.ensures ∙ sym (line-at-last (said_at r.table.now r.figures.now) (min r.table.now.len most_rows) (last_line r.figures.now.verdict) c.args.i (c.if-i-rows.true ∙ c.rows.ensures))

-- the place is that of a row
within : (c : Else-i-rows) → c.args.i < min c.args.self.now.table.now.len most_rows
within c =
    let r = c.args.self.now in
    omega (arith, lines-count-last (said_at r.table.now r.figures.now) (min r.table.now.len most_rows) (last_line r.figures.now.verdict), c.if-i-rows.false)

pub offset_bounds-self-i : goal.offset_bounds-self-i
offset_bounds-self-i c = omega (arith, within c)

pub bounds-self-i : goal.bounds-self-i
bounds-self-i c = omega (arith, within (goal.at.bounds-self-i c).Else-i-rows)

-- the line at that place is what is said of the row
row-at : (c : Else-i-rows) (a : Result RowFigures Refusal) → get_or c.args.self.now.figures.now.rows c.args.i no_answer ≡ a
    → said_line (get_or c.args.self.now.table.now.rows c.args.i no_value) a ≡ get_or (report_lines c.args.self.now.table.now c.args.self.now.figures.now) c.args.i []
row-at c a e =
    let v = c.args.self.now.table.now in
    let f = c.args.self.now.figures.now in
    ap (said_line (get_or v.rows c.args.i no_value)) (sym e) ∙ sym (line-at-front (said_at v f) (min v.len most_rows) (last_line f.verdict) c.args.i (within c))

pub returns-in-Ok : goal.returns-in-Ok
returns-in-Ok c = c.row_line.ensures ∙ row-at (goal.at.returns-in-Ok c).Else-i-rows (Ok c.in-Ok.figures) (search (rules, tests))

pub returns-in-Err : goal.returns-in-Err
returns-in-Err c = c.of.ensures ∙ row-at (goal.at.returns-in-Err c).Else-i-rows (Err c.in-Err.field-0) (search (rules, tests))
