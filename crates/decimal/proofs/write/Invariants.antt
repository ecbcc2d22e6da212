-- `decimal::write` meets its contract: the digits that are left of the number stand before those written so far.
use mathlib.Core.Path.{◌≡◌}
use mathlib.Core.List.{◌++◌}
use lib.ListN.{drop}
use Rattle.decimal.specs.Decimal.{digits}
use Rattle.decimal.proofs.Digits.{ends}
use Rattle.decimal.proofs.write.Given as goal

abbrev pub invariant-loop-i : goal.invariant-loop-i
invariant-loop-i l = digits l.n ++ drop l.len l.initial.out ≡ ends l.i l.rest ++ drop l.i l.out
