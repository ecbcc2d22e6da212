-- `loads_of` meets its contract: the rows passed have their loads.
use native.Mathlib.Omega.{arith}
use Rattle.recurrence.proofs.Rows.{sane}
use Rattle.figures.proofs.Values.{deadline-safe, period-safe, work-fits}
use Rattle.figures.proofs.loads_of.Goals as goal

pub invariant_of-loads-in-loop-i-clause-some : goal.invariant_of-loads-in-loop-i-clause-some
invariant_of-loads-in-loop-i-clause-some c = (sane _ (c.requires.1 c.loop-i.i c.loop-i-test.true).right).period-some

pub invariant_of-loads-in-loop-i-clause-period_safe : goal.invariant_of-loads-in-loop-i-clause-period_safe
invariant_of-loads-in-loop-i-clause-period_safe c = period-safe _ (c.requires.1 c.loop-i.i c.loop-i-test.true)

pub invariant_of-loads-in-loop-i-clause-work_safe : goal.invariant_of-loads-in-loop-i-clause-work_safe
invariant_of-loads-in-loop-i-clause-work_safe c =
    let k = c.requires.1 c.loop-i.i c.loop-i-test.true in
    omega (arith, c.work_of.ensures, work-fits _ k, deadline-safe _ k)
