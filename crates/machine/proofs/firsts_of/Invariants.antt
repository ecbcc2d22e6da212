-- `firsts_of` meets its contract: the machine and what is noted go on tick by tick.
use mathlib.Core.Path.{◌≡◌}
use Rattle.machine.specs.Tick.{ticked}
use Rattle.machine.specs.Noted.{firsts_after}
use Rattle.machine.proofs.firsts_of.Given as goal

abbrev pub invariant-loop : goal.invariant-loop
invariant-loop l = (l.m ≡ ticked l.rows l.counter) × (l.firsts ≡ firsts_after l.rows l.counter)
