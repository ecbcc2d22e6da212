-- `put_instants` meets its contract: after each turn the numbers so far stand at the front.
use mathlib.Core.Path.{ap, ◌∙◌}
use Prim.Native.Nat.{◌<◌}
use native.Mathlib.Omega.{arith}
use lib.ListN.{length, take}
use lib.Seq.{take_all}
use mathlib.Core.List.{List}
use Rattle.std.specs.Prelude.{Option}
use Rattle.ticks.specs.declared.Instant.{Instant}
use Rattle.words.specs.Buffer.{over}
use Rattle.words.proofs.Put.{put-none, put_byte}
use Rattle.musselpath.specs.Parts.{numbers_of}
use Rattle.musselpath.proofs.Answers.{numbers-next}
use Rattle.musselpath.proofs.put_instants.Goals as goal

pub loop-i-init : goal.loop-i-init
loop-i-init c = put-none _

pub loop-i-preserved : goal.loop-i-preserved
loop-i-preserved c =
    let l = c.loop-i in
    let firsts = c.args.firsts.now in
    let h : length (numbers_of (take l.i firsts)) < length c.args.out.now = omega (arith, l.invariant.end, c.requires, c.loop-i-test.true) in
    rw (numbers-next firsts l.i c.loop-i-test.true, ← c.first_number.ensures) (put_byte c.first_number.result l.invariant h)

pub returns : goal.returns
returns c =
    let l = c.loop-i in
    l.invariant.front ∙ ap (λ (xs : List (Option Instant)). over (numbers_of xs) c.args.out.now) (take_all l.i c.args.firsts.now c.loop-i-test.false)
