-- `Row::name_len` meets its contract: the bytes before the first zero are the name.
use native.Mathlib.Omega.{arith}
use mathlib.Core.List.{map-id}
use Prim.Native.Nat.{ℕ}
use Rattle.words.proofs.Lists.{take_while-up_to}
use Rattle.table.proofs.Row.name_len.Goals as goal

pub returns : goal.returns
returns c = omega (arith, c.used.ensures, rw (map-id c.args.self.name) at (take_while-up_to (λ (b : ℕ). b) 0 c.args.self.name))
