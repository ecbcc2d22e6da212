-- `Field::len` meets its contract: a number of 64 bits has at most 20 digits.
use native.Mathlib.Omega.{arith}
use Rattle.decimal.proofs.Digits.{length-below}
use Rattle.lines.proofs.Field.len.Goals as goal

pub returns-in-Number-clause-short : goal.returns-in-Number-clause-short
returns-in-Number-clause-short c = omega (arith, length-below 19 c.in-Number.n (omega arith))
