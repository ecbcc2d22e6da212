-- `text_of` meets its contract: every answer has room.
use mathlib.Core.Path.{◌≡◌, sym, ap, ◌∙◌}
use Prim.Native.Nat.{◌≤◌}
use native.Mathlib.Omega.{arith}
use lib.ListN.{length}
use Rattle.table.specs.Limits.{longest_text}
use Rattle.replies.specs.Replies.{text_answer}
use Rattle.replies.proofs.Fits.{text-room}
use Rattle.replies.proofs.Laws.{replied, text-accepted, text-refused}
use Rattle.replies.proofs.text_of.Goals.{Start}
use Rattle.replies.proofs.text_of.Goals as goal

-- the answer has room in the buffer
room : (s : Start) → length s.args.out.now ≡ longest_text → length (text_answer s.args.text.now) ≤ length s.args.out.now
room s size = omega (arith, size, text-room s.args.text.now)

pub table_text-requires : goal.table_text-requires
table_text-requires c =
    let s = (goal.at.table_text-requires c).Start in
    let p = text-accepted s.args.text.now _ (sym c.in-Ok.is ∙ c.read.ensures) in
    (p.0, omega (arith, room s c.told-out, ap length p.1))

pub line_of-requires : goal.line_of-requires
line_of-requires c =
    let s = (goal.at.line_of-requires c).Start in
    let e = text-refused s.args.text.now _ (sym c.in-Err.is ∙ c.read.ensures) in
    omega (arith, room s c.told-out, ap length e)

pub returns-in-Ok : goal.returns-in-Ok
returns-in-Ok c =
    let s = (goal.at.returns-in-Ok c).Start in
    let e = (text-accepted s.args.text.now _ (sym c.in-Ok.is ∙ c.read.ensures)).1 in
    let r = replied (text_answer s.args.text.now) s.args.out.now _ _ (room s c.told-out) (rw e c.table_text.ensures) in
    record { value = r.0; front = r.1 }

pub returns-in-Err : goal.returns-in-Err
returns-in-Err c =
    let s = (goal.at.returns-in-Err c).Start in
    let e = text-refused s.args.text.now _ (sym c.in-Err.is ∙ c.read.ensures) in
    let r = replied (text_answer s.args.text.now) s.args.out.now _ _ (room s c.told-out) (rw e c.line_of.ensures) in
    record { value = r.0; front = r.1 }
