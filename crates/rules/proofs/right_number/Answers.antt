use mathlib.Core.Path.{sym}
use Rattle.rules.proofs.Names.{number-zero}
use Rattle.table.proofs.Rows.{number-some}
use Rattle.rules.proofs.right_number.Goals as goal

pub returns-then-x-lt1 : goal.returns-then-x-lt1
returns-then-x-lt1 c = sym (number-zero _ c.if-x-lt1.true)

pub returns : goal.returns
returns c = sym (number-some _ c.if-x-lt1.false)
