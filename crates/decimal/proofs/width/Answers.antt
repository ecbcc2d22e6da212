-- `decimal::width` meets its contract: its digits are counted by the powers of ten that it has.
use native.Mathlib.Omega.{arith}
use Rattle.decimal.proofs.Digits.{length-between, length-small}
use Rattle.decimal.proofs.width.Goals as goal

pub returns-then-n-lt10 : goal.returns-then-n-lt10
returns-then-n-lt10 c = omega (arith, length-small c.args.n (omega arith))

pub returns : goal.returns
returns c = omega (arith, length-between c.ilog10.result c.args.n c.ilog10.ensures.power_le c.ilog10.ensures.next_power_gt)
