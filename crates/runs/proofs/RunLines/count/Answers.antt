-- `Run::count` meets its contract.
use mathlib.Core.Path.{sym, ◌∙◌}
use Prim.Native.Nat.{min}
use Rattle.lines.proofs.Laws.{lines-count}
use Rattle.table.specs.Limits.{most_rows}
use Rattle.runs.specs.Parts.{line_at}
use Rattle.runs.proofs.RunLines.count.Goals as goal

pub returns : goal.returns
returns c = let r = c.args.self.now in c.min.ensures ∙ sym (lines-count (line_at r.table.now.rows r.firsts.now) (min r.table.now.len most_rows))
