-- `decimal::read` meets its contract: what is left to read, after the number so far, gives the same answer as the whole.
use mathlib.Core.Path.{◌≡◌}
use mathlib.Core.Bool.{true}
use Prim.Native.Nat.{◌≤◌}
use lib.ListN.{drop}
use Rattle.words.specs.Lists.{all}
use Rattle.decimal.specs.Decimal.{digit, value, leads}
use Rattle.decimal.proofs.read.Given as goal

abbrev pub invariant-loop-b : goal.invariant-loop-b
invariant-loop-b l =
    record {
      within : l.v ≤ l.hi;
      lead : leads l.bytes ≡ true;
      digits : all digit l.bytes ≡ all digit (drop l.b-index l.bytes);
      rest : value 0 l.bytes ≡ value l.v (drop l.b-index l.bytes);
    }
