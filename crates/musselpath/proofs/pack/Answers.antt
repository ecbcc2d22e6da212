-- `pack` meets its contract.
use native.Mathlib.Omega.{arith}
use Rattle.musselpath.proofs.Answers.{number_small}
use Rattle.musselpath.proofs.pack.Goals as goal

pub overflow_add-result : goal.overflow_add-result
overflow_add-result c = omega (arith, number_small c.args.why, c.number.ensures, c.line.ensures, c.requires.0)

pub overflow_add-result-2 : goal.overflow_add-result-2
overflow_add-result-2 c =
    omega (arith, number_small c.args.why, c.number.ensures, c.line.ensures, c.field.ensures, c.requires)
