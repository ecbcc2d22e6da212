-- `Run::line` meets its contract: the line of a row is its name and its completion.
use mathlib.Core.Path.{sym, ap, ◌∙◌}
use mathlib.Core.List.{[], ◌∷◌}
use lib.ListN.{get_or}
use Rattle.fields.specs.Fields.{line}
use Rattle.table.specs.Value.{no_value, row_of}
use Prim.Native.Nat.{◌<◌, min}
use native.Mathlib.Omega.{arith}
use Rattle.table.specs.Limits.{most_rows}
use Rattle.lines.proofs.Laws.{lines-count, line-at}
use Rattle.runs.specs.Parts.{line_at}
use Rattle.runs.proofs.RunLines.line.Goals.{Start}
use Rattle.runs.proofs.RunLines.line.Goals as goal

-- the place is that of a row
within : (c : Start) → c.args.i < min c.args.self.now.table.now.len most_rows
within c =
    let r = c.args.self.now in
    omega (arith, lines-count (line_at r.table.now.rows r.firsts.now) (min r.table.now.len most_rows))

pub offset_bounds-self-i : goal.offset_bounds-self-i
offset_bounds-self-i c = omega (arith, within c)

pub bounds-self-i : goal.bounds-self-i
bounds-self-i c = omega (arith, within (goal.at.bounds-self-i c).Start)

pub offset_bounds-self-i-2 : goal.offset_bounds-self-i-2
offset_bounds-self-i-2 c = omega (arith, within (goal.at.offset_bounds-self-i-2 c).Start)

pub bounds-self-i-2 : goal.bounds-self-i-2
bounds-self-i-2 c = omega (arith, within (goal.at.bounds-self-i-2 c).Start)

pub returns : goal.returns
returns c =
    let r = c.args.self.now in
    let name = (row_of (get_or r.table.now.rows c.args.i no_value)).name in
    c.of.ensures ∙ ap (λ l. line name (l ∷ [])) c.first_field.ensures
    ∙ sym (line-at (line_at r.table.now.rows r.firsts.now) (min r.table.now.len most_rows) c.args.i (within (goal.at.returns c).Start))
