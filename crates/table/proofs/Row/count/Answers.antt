-- `Row::count` meets its contract: the times before the first zero are in use.
use native.Mathlib.Omega.{arith}
use Rattle.words.proofs.Lists.{take_while-up_to}
use Rattle.ticks.specs.Ticks.{ticks}
use Rattle.table.proofs.Row.count.Goals as goal

pub returns : goal.returns
returns c = omega (arith, c.used.ensures, take_while-up_to ticks 0 c.args.self.times)
