-- An item's two bytes, and then as many bytes as they say.
use Rattle.std.proofs.Common.{rules, subst}
use Rattle.std.specs.Io.KnownBytes.{Consumes}
use Rattle.std.proofs.KnownBytes.{Consumes-trans}
use Rattle.streams.proofs.Items.{item-joined}
use Rattle.streams.proofs.next.Goals as goal

pub returns-clause-bytes : goal.returns-clause-bytes
returns-clause-bytes g c =
    let joined = item-joined c.in_ok-got.got c.in_ok-body.body c.length_of-len.result c.read_whole.new.buf c.read_whole-2.new.buf _ (search rules) (search rules) (search rules) (search rules) in
    subst (Consumes _ _) joined (Consumes-trans _ _ _ _ _ c.in_ok-got.ensures.bytes c.in_ok-body.ensures.bytes)
