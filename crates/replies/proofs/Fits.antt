-- Every answer of a program has room in a buffer of the length that a text may have (`report-room`, `run_room`, `text-room`).
use mathlib.Core.Path.{◌≡◌, refl, ap}
use mathlib.Core.List.{List}
use Prim.Native.Nat.{ℕ, ◌≤◌}
use native.Mathlib.Omega.{arith}
use native.Mathlib.Decide.{dec_le}
use borrow.Author.Tests.{lt-ltb, le-ltb}
use lib.ListN.{length}
use Rattle.decimal.specs.Decimal.{digits, last_digits}
use Rattle.fields.specs.Fields.{fields_text}
use Rattle.fields.proofs.Lines.{fields-none}
use Rattle.refusals.specs.declared.Refusal.{Refusal}
use Rattle.refusals.specs.declared.Refusal.TheVariants.{ManyTicks}
use Rattle.table.specs.Limits.{longest_text, most_ticks}
use Rattle.text.specs.Read.{Answer, accepted, refused, read_text}
use Rattle.text.proofs.Back.{text-right}
use Rattle.text.proofs.Fits.{text-fits}
use Rattle.text.proofs.Places.{text-place}
use Rattle.refused.specs.Refused.{refused_line}
use Rattle.refused.proofs.Lines.{place_none, refused-length}
use Rattle.refused.proofs.Fits.{refused-fits}
use Rattle.report.specs.Report.{answer_text}
use Rattle.report.proofs.Fits.{answer-fits}
use Rattle.runs.proofs.Fits.{run_fits}
use Rattle.replies.specs.Replies.{run_to, run_answer, text_to, text_answer}

-- the line of a text's refusal
pub line-room : (s : List ℕ) (x : Refusal) → read_text s ≡ refused x → length (refused_line x) ≤ longest_text
line-room s x e = omega (arith, refused-fits x (text-place s x e))

-- the line of 23
many-room : length (refused_line ManyTicks) ≤ longest_text
unfolding digits last_digits
many-room = omega (arith, refused-length ManyTicks, ap (λ fs. length (fields_text fs)) (place_none ManyTicks (omega arith)), fields-none)

-- THE REPORT
pub report-room : (s : List ℕ) → length (answer_text s) ≤ longest_text
report-room s = omega (arith, answer-fits s)

-- THE FULL RUN
pub run_room : (s : List ℕ) (n : ℕ) → length (run_answer s n) ≤ longest_text
unfolding run_answer
run_room s n = go (read_text s) refl (dec_le n most_ticks)
  where
    go : (a : Answer) → read_text s ≡ a → Dec (n ≤ most_ticks) → length (run_to a n) ≤ longest_text
    go (accepted t) e (yes h) = rw (le-ltb most_ticks n h) (omega (arith, run_fits t n (text-right s t e) h))
    go (accepted t) e (no h) = rw (lt-ltb most_ticks n (omega arith)) many-room
    go (refused x) e d = line-room s x e

-- THE TEXT AGAIN
pub text-room : (s : List ℕ) → length (text_answer s) ≤ longest_text
unfolding text_answer
text-room s = go (read_text s) refl
  where
    go : (a : Answer) → read_text s ≡ a → length (text_to a) ≤ longest_text
    go (accepted t) e = text-fits t (text-right s t e)
    go (refused x) e = line-room s x e
