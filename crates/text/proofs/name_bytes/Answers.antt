-- `name_bytes` meets its contract: the field copied over zeros.
use mathlib.Core.Path.{refl, ◌∙◌}
use lib.ListN.{replicate}
use Rattle.words.proofs.Buffer.{copied}
use Rattle.table.specs.Limits.{longest_name}
use Rattle.text.proofs.Values.{over_zeros}
use Rattle.text.proofs.name_bytes.Goals as goal

pub returns : goal.returns
returns c =
    let x = c.args.field.now in
    c.copy.ensures.1 ∙ copied x (replicate longest_name 0) _ refl ∙ over_zeros longest_name x
