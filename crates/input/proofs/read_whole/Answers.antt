-- A read takes from the input what it puts behind the bytes that were read before.
use Rattle.std.proofs.Common.{rules, length, ◌-◌, subst}
use Rattle.std.specs.Io.KnownBytes.{Consumes}
use Rattle.std.proofs.KnownBytes.{Consumes-trans}
use Rattle.input.proofs.Part.{take-put_mid}
use Rattle.input.proofs.read_whole.Goals as goal

pub loop-at-preserved : goal.loop-at-preserved
loop-at-preserved g c =
    let from = c.loop-at.at in
    let room = length c.loop-at.buf - from in
    let joined = take-put_mid from room c.in_ok-more.more c.loop-at.buf c.read.new.buf c.loop-at.invariant.0 c.in_ok-more.ensures.bound.0 in
    (search rules, subst (Consumes _ _) joined (Consumes-trans _ _ _ _ _ c.loop-at.invariant.1 c.in_ok-more.ensures.bytes.0))
