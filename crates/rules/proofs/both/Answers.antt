-- `both` meets its contract.
use Rattle.words.specs.Choice.{◌and◌}
use Rattle.rules.proofs.both.Goals as goal

pub returns-then-a : goal.returns-then-a
unfolding ◌and◌
returns-then-a c = rw c.if-a.true

pub returns-else-a : goal.returns-else-a
unfolding ◌and◌
returns-else-a c = rw c.if-a.false
