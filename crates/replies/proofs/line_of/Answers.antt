-- `line_of` meets its contract: the line has room.
use Rattle.refused.specs.Refused.{refused_line}
use Rattle.replies.proofs.Laws.{put-whole_or}
use Rattle.replies.proofs.line_of.Goals as goal

pub returns : goal.returns
returns c =
    let w = c.write in
    rw c.unwrap_or.ensures (put-whole_or (refused_line c.args.why) c.args.out.now _ w.result c.requires w.ensures.0 w.ensures.1)
