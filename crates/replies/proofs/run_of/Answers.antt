-- `run_of` meets its contract: every answer has room.
use mathlib.Core.Path.{◌≡◌, ap, ◌∙◌}
use mathlib.Core.List.{List}
use Prim.Native.Nat.{ℕ, ◌≤◌}
use native.Mathlib.Omega.{arith}
use lib.ListN.{length}
use Rattle.words.specs.Buffer.{over}
use Rattle.refused.specs.Refused.{refused_line}
use Rattle.replies.specs.Replies.{run_answer}
use Rattle.replies.proofs.Fits.{run_room}
use Rattle.replies.proofs.Laws.{replied, ran-bytes, ran-refused}
use borrow.Author.Rules.{rules}
use Rattle.replies.proofs.run_of.Goals.{After-answer-arg-1, In-Err, Start}
use Rattle.replies.proofs.run_of.Goals as goal

pub answer-requires : goal.answer-requires
answer-requires c = search rules

-- the text, the ticks and the buffer
abbrev text_s : Start → List ℕ
text_s s = s.args.text.now

abbrev ticks_s : Start → ℕ
ticks_s s = s.args.ticks

abbrev buf_s : Start → List ℕ
buf_s s = s.args.out.now

-- the answer has room there
room : (c : After-answer-arg-1) → length (run_answer (text_s (goal.at.answer-requires c).Start) (ticks_s (goal.at.answer-requires c).Start)) ≤ length (buf_s (goal.at.answer-requires c).Start)
room c = omega (arith, c.told-out, run_room (text_s (goal.at.answer-requires c).Start) (ticks_s (goal.at.answer-requires c).Start))

-- where the run was refused, the line of the refusal is the answer, and the buffer is as it was
told : (c : In-Err)
    → (refused_line c.in-Err.why ≡ run_answer c.args.text.now c.args.ticks) × (c.answer.new.out ≡ c.args.out.now)
told c =
    let w = c.answer in
    ran-refused c.args.text.now c.args.ticks c.args.out.now _ w.result c.told-out w.ensures.0 w.ensures.1 _ c.in-Err.is

pub line_of-requires : goal.line_of-requires
line_of-requires c =
    let p = told (goal.at.line_of-requires c).In-Err in
    omega (arith, ap length p.0, ap length p.1, room (goal.at.line_of-requires c).After-answer-arg-1)

pub returns-in-Ok : goal.returns-in-Ok
returns-in-Ok c =
    let s = (goal.at.returns-in-Ok c).Start in
    let w = c.answer in
    let z = c.told-out in
    let p = ran-bytes (text_s s) (ticks_s s) (buf_s s) _ w.result z w.ensures.0 w.ensures.1 _ c.in-Ok.is in
    let r = replied (run_answer (text_s s) (ticks_s s)) (buf_s s) _ _ (room (goal.at.returns-in-Ok c).After-answer-arg-1) p in
    record { value = r.0; front = r.1 }

pub returns-in-Err : goal.returns-in-Err
returns-in-Err c =
    let s = (goal.at.returns-in-Err c).Start in
    let p = told (goal.at.returns-in-Err c).In-Err in
    let l = c.line_of.ensures in
    let q : c.line_of.new.out ≡ over (run_answer (text_s s) (ticks_s s)) (buf_s s) = rw (← p.0, ← p.1) l.1 in
    let r = replied (run_answer (text_s s) (ticks_s s)) (buf_s s) _ _ (room (goal.at.returns-in-Err c).After-answer-arg-1) (l.0 ∙ ap length p.0, q) in
    record { value = r.0; front = r.1 }
