-- `write` meets its contract.
use mathlib.Core.Path.{◌∙◌}
use Rattle.lines.specs.Lines.{line_of}
use Rattle.lines.proofs.Laws.{joined-one}
use Rattle.refused.proofs.write.Goals as goal

pub returns : goal.returns
returns c = rw (joined-one (line_of c.line.result) ∙ c.line.ensures) at c.write.ensures
