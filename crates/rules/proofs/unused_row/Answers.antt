-- `unused_row` meets its contract: its tests joined are `unused`.
use Rattle.words.specs.Lists.{is_zero, all}
use mathlib.Core.Path.{ap, ◌∙◌}
use mathlib.Core.Bool.{Bool}
use lib.Dec.{eqb}
use Rattle.words.specs.Choice.{◌and◌}
use Rattle.words.proofs.Lists.{all-list_all}
use Rattle.rules.proofs.Rows.{all-times}
use Rattle.rules.specs.Tests.{unused}
use Rattle.rules.proofs.unused_row.Goals as goal

pub returns : goal.returns
unfolding unused
returns c =
    let a = c.args.row in
    c.both-2.ensures
    ∙ ap (λ (z : Bool). z and c.both-numbers.result) (c.unused-2.ensures ∙ all-list_all is_zero a.name)
    ∙ ap (λ (z : Bool). all is_zero a.name and z)
    (c.both-numbers.ensures
    ∙ ap (λ (z : Bool). eqb a.period.0 0 and z)
    (c.both.ensures
    ∙ ap (λ (z : Bool). eqb a.deadline.0 0 and z) (c.unused.ensures ∙ all-times is_zero a.times)))
