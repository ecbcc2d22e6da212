-- `report_of` meets its contract: every answer has room.
use mathlib.Core.Path.{◌≡◌}
use Prim.Native.Nat.{◌≤◌}
use native.Mathlib.Omega.{arith}
use lib.ListN.{length}
use Rattle.table.specs.Limits.{longest_text}
use Rattle.report.specs.Report.{answer_text}
use Rattle.replies.proofs.Fits.{report-room}
use Rattle.replies.proofs.Laws.{replied, put-whole_or}
use Rattle.replies.proofs.report_of.Goals.{After-answer-arg-1}
use Rattle.replies.proofs.report_of.Goals as goal

-- the answer has room in the buffer
room : (c : After-answer-arg-1) → length (answer_text c.args.text.now) ≤ length c.args.out.now
room c =
    let size : length c.args.out.now ≡ longest_text = c.told-out in
    omega (arith, size, report-room c.args.text.now)

pub returns : goal.returns
returns c =
    let w = c.answer in
    let t = answer_text c.args.text.now in
    let d = c.args.out.now in
    let h = room (goal.at.returns c).After-answer-arg-1 in
    let r = replied t d _ _ h (rw c.unwrap_or.ensures (put-whole_or t d _ w.result h w.ensures.0 w.ensures.1)) in
    record { value = r.0; front = r.1 }
