-- `Rows::line` meets its contract.
use mathlib.Core.Path.{sym, ◌∙◌}
use Prim.Native.Nat.{◌<◌, min}
use native.Mathlib.Omega.{arith}
use Rattle.table.specs.Limits.{most_rows}
use Rattle.lines.proofs.Laws.{lines-count, line-at}
use Rattle.text.specs.Parts.{line_at}
use Rattle.text.proofs.RowsLines.line.Goals.{Start}
use Rattle.text.proofs.RowsLines.line.Goals as goal

-- the place is that of a row
within : (c : Start) → c.args.i < min c.args.self.now.table.now.len most_rows
within c =
    let t = c.args.self.now.table.now in
    omega (arith, lines-count (line_at t.rows) (min t.len most_rows))

pub offset_bounds-self-i : goal.offset_bounds-self-i
offset_bounds-self-i c = omega (arith, within c)

pub bounds-self-i : goal.bounds-self-i
bounds-self-i c = omega (arith, within (goal.at.bounds-self-i c).Start)

pub returns : goal.returns
returns c =
    let t = c.args.self.now.table.now in
    c.line.ensures ∙ sym (line-at (line_at t.rows) (min t.len most_rows) c.args.i (within (goal.at.returns c).Start))
