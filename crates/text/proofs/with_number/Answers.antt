-- `with_number` meets its contract: the value with one field more is that of the row with one field more.
use native.Mathlib.Omega.{arith}
use borrow.Author.Rules.{rules}
use Rattle.text.proofs.Values.{value-period, value-deadline, value-time}
use Rattle.text.proofs.with_number.Goals as goal

pub returns-in-2 : goal.returns-in-2
returns-in-2 c = value-period c.args.row c.args.n c.requires.0 c.args.f c.in-2.is

pub returns-in-3 : goal.returns-in-3
returns-in-3 c = value-deadline c.args.row c.args.n c.requires.0 c.args.f c.in-3.is

pub returns-in_default : goal.returns-in_default
returns-in_default c = value-time c.args.row c.args.n c.requires.0 c.args.f _ (λ e. search rules) (λ e. search rules) (omega arith) (omega arith)
