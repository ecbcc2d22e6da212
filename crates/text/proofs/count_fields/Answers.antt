-- `count_fields` meets its contract: the fields are what cutting at the tab gives.
use mathlib.Core.Path.{ap, ◌∙◌}
use lib.ListN.{length}
use borrow.Author.Rules.{rules}
use borrow.Author.Tests.{tests}
use Rattle.std.proofs.lemmas.Iterator.Consumers.{count_from_yields_List}
use Rattle.std.proofs.lemmas.Iterator.Splits.{YieldsList-from_slice_split}
use Rattle.text.proofs.Split.{cut_fields}
use Rattle.text.proofs.count_fields.Goals as goal

pub returns : goal.returns
returns c =
    let s = c.split.ensures in
    count_from_yields_List _ _ c.count.ensures.ran (YieldsList-from_slice_split _ _ c.args.line.now s.rest s.done s.closure (λ x b q k. search (rules, tests))) ∙ ap length (cut_fields c.args.line.now)
