use lib.Dec.{ltb}
use mathlib.Core.Path.{ap}
use Rattle.table.specs.Paper.{waits}
use Rattle.table.proofs.Row.waits.Goals as goal

pub returns : goal.returns
unfolding waits
returns c = ap (ltb 1) c.count.ensures
