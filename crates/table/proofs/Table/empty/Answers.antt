use lib.ListN.{replicate}
use Rattle.table.specs.Limits.{most_rows}
use Rattle.table.proofs.Table.empty.Goals as goal

pub returns : goal.returns
returns c = λ i. record { rows = replicate most_rows (c.empty-row.ensures i); len = 0 }
