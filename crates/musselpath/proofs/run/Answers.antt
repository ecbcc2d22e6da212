-- `run` meets its contract.
use mathlib.Core.Path.{refl, sym, ap, ◌∙◌}
use mathlib.Core.List.{List}
use Prim.Native.Nat.{ℕ, ◌≤◌, ◌<◌}
use native.Mathlib.Omega.{arith}
use borrow.Author.Tests.{lt-ltb, le-ltb}
use lib.ListN.{length}
use lib.Seq.{length-take-le}
use Rattle.words.specs.Buffer.{over}
use Rattle.table.specs.Limits.{most_ticks}
use Rattle.table.specs.Value.{table_of}
use Rattle.table.proofs.Used.{len_is, len-most}
use Rattle.musselpath.proofs.Answers.{answers-length, numbers-are, run-some}
use Rattle.musselpath.proofs.run.Goals.{In_ok-firsts}
use Rattle.musselpath.proofs.run.Goals as goal

pub returns-then-ticks-gt-TICKS : goal.returns-then-ticks-gt-TICKS
returns-then-ticks-gt-TICKS c = rw (lt-ltb most_ticks c.args.ticks c.if-ticks-gt-TICKS.true) (refl, refl)

pub returns-then-out-table : goal.returns-then-out-table
returns-then-out-table c =
    let h : length c.args.out.now < length (table_of c.args.table) = omega (arith, c.if-out-table.true, len_is c.args.table c.requires) in
    rw (le-ltb most_ticks c.args.ticks c.if-ticks-gt-TICKS.false, lt-ltb _ _ h) (refl, refl)

pub returns-in_err-firsts : goal.returns-in_err-firsts
returns-in_err-firsts c =
    absurd (run-some c.args.table c.args.ticks _ c.requires c.if-ticks-gt-TICKS.false (sym c.in_err-firsts.was ∙ c.full_run.ensures))

-- of each of 16 rows
size : (c : In_ok-firsts) → c.args.table.len ≤ length c.in_ok-firsts.firsts
size c =
    let e = answers-length c.args.table c.args.ticks c.requires c.if-ticks-gt-TICKS.false c.in_ok-firsts.firsts (sym c.in_ok-firsts.was ∙ c.full_run.ensures) in
    omega (arith, e, len-most c.args.table c.requires)

pub slice_bounds-firsts-end : goal.slice_bounds-firsts-end
slice_bounds-firsts-end c = size c

pub slice_bounds-put_instants-end : goal.slice_bounds-put_instants-end
slice_bounds-put_instants-end c = sym (length-take-le _ _ (size (goal.at.slice_bounds-put_instants-end c).In_ok-firsts))

pub put_instants-requires : goal.put_instants-requires
put_instants-requires c =
    let l = length-take-le c.args.table.len c.in_ok-firsts.firsts (size (goal.at.put_instants-requires c).In_ok-firsts) in
    omega (arith, l, c.if-out-table.false)

pub returns : goal.returns
returns c =
    let h : length (table_of c.args.table) ≤ length c.args.out.now = omega (arith, c.if-out-table.false, len_is c.args.table c.requires) in
    rw (le-ltb most_ticks c.args.ticks c.if-ticks-gt-TICKS.false, le-ltb _ _ h) (
      refl,
      c.put_instants.ensures
          ∙ ap (λ (xs : List ℕ). over xs c.args.out.now)
          (numbers-are c.args.table c.args.ticks c.requires c.if-ticks-gt-TICKS.false c.in_ok-firsts.firsts (sym c.in_ok-firsts.was ∙ c.full_run.ensures)),
    )
