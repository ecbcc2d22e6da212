-- `Rows::count` meets its contract.
use mathlib.Core.Path.{sym, ◌∙◌}
use Prim.Native.Nat.{min}
use Rattle.table.specs.Limits.{most_rows}
use Rattle.lines.proofs.Laws.{lines-count}
use Rattle.text.specs.Parts.{line_at}
use Rattle.text.proofs.RowsLines.count.Goals as goal

pub returns : goal.returns
returns c =
    let t = c.args.self.now.table.now in
    c.min.ensures ∙ sym (lines-count (line_at t.rows) (min t.len most_rows))
