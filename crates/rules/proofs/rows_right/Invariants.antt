-- `rows_right` meets its contract: the tests of the rows that are left, below those passed, decide.
use mathlib.Core.Path.{◌≡◌}
use mathlib.Core.List.{[]}
use lib.ListN.{take, drop}
use Rattle.words.specs.Lists.{any}
use Rattle.rules.specs.Tests.{waits_value, rows_test}
use Rattle.rules.proofs.rows_right.Given as goal

abbrev pub invariant-loop-i : goal.invariant-loop-i
invariant-loop-i l = (l.waiting ≡ any waits_value (take l.i l.rows)) × (rows_test [] l.rows ≡ rows_test (take l.i l.rows) (drop l.i l.rows))
