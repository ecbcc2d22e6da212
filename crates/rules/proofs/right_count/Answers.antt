use Rattle.table.specs.Paper.{right_count}
use Rattle.rules.proofs.right_count.Goals as goal

pub returns : goal.returns
unfolding right_count
returns c = c.both.ensures
