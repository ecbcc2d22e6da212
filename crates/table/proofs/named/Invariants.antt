-- `named` meets its contract: the rows that are left decide.
use mathlib.Core.Path.{◌≡◌}
use lib.ListN.{drop}
use Rattle.table.specs.Value.{name_in}
use Rattle.table.proofs.named.Given as goal

abbrev pub invariant-loop-row : goal.invariant-loop-row
invariant-loop-row l = name_in l.name l.row-items ≡ name_in l.name (drop l.row-index l.row-items)
