-- `table_text` meets its contract: the text has room.
use mathlib.Core.Path.{refl, ◌∙◌}
use Rattle.text.proofs.Writer.{written-whole}
use Rattle.replies.proofs.table_text.Goals as goal

pub returns : goal.returns
returns c =
    let w = c.write in
    let p = written-whole c.args.table c.args.out.now c.requires.0 c.requires.1 in
    (rw (c.unwrap_or.ensures, w.ensures.0 ∙ p.0) refl, w.ensures.1 ∙ p.1)
