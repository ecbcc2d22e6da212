-- `last_line` meets its contract.
use mathlib.Core.Path.{ap, ◌∙◌}
use mathlib.Core.List.{List, [], ◌∷◌}
use Prim.Native.Nat.{ℕ}
use Rattle.words.specs.Lists.{up_to}
use Rattle.words.specs.Spelled.{spelled}
use Rattle.fields.specs.Fields.{line}
use Rattle.report.specs.Report.{last_line}
use Rattle.report.proofs.last_line.Goals as goal

pub returns : goal.returns
unfolding up_to last_line
returns c = c.of.ensures ∙ ap (λ (l : List ℕ). line (spelled "table") (l ∷ [])) c.table_field.ensures
