-- What the loop of `Line::of` keeps: the fields so far, and none behind them.
use mathlib.Core.Path.{◌≡◌}
use mathlib.Core.List.{◌++◌, map}
use Prim.Native.Nat.{◌-◌}
use lib.ListN.{take, replicate}
use Rattle.std.specs.Prelude.{Some, None}
use Rattle.lines.specs.Lines.{most_fields}
use Rattle.lines.proofs.Line.of.Given as goal

abbrev pub invariant-loop-i : goal.invariant-loop-i
invariant-loop-i l = l.behind ≡ map Some (take l.i l.fields) ++ replicate (most_fields - l.i) None
