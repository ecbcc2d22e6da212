-- `own_of` meets its contract: the zeros behind the times in use add nothing.
use mathlib.Core.Path.{◌≡◌, ◌∙◌}
use Prim.Native.Nat.{◌<◌, ◌^◌}
use native.Mathlib.Omega.{arith}
use borrow.Author.Rules.{rules}
use Rattle.std.specs.List.{sum_by}
use Rattle.ticks.specs.declared.Length.{Length}
use Rattle.figures.proofs.Values.{own_is, sum-safe, deadline-safe, sum-ticks}
use Rattle.figures.proofs.own_of.Goals as goal

pub sum-requires-clause-fits : goal.sum-requires-clause-fits
sum-requires-clause-fits c =
    let v = c.args.row.now in
    let h : sum_by (λ (x : Length). x.0) v.times < 2 ^ 64 = omega (arith, sum-ticks v.times, sum-safe v c.requires, deadline-safe v c.requires) in
    search rules

pub returns : goal.returns
returns c =
    let v = c.args.row.now in
    let h : c.sum.result ≡ sum_by (λ (x : Length). x.0) v.times = search rules in
    h ∙ sum-ticks v.times ∙ own_is v c.requires
