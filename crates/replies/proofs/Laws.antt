-- What the library's functions put into a buffer that has room is the program's answer.
use mathlib.Core.Path.{◌≡◌, refl, sym, ap, ◌∙◌}
use mathlib.Core.Bool.{true}
use mathlib.Core.List.{List, []}
use Prim.Native.Nat.{ℕ, ◌-◌, ◌≤◌, ◌<◌}
use native.Mathlib.Omega.{arith}
use native.Mathlib.Decide.{dec_le}
use lib.ListN.{length, take, drop, length-drop}
use lib.Seq.{length-take-le, take_all}
use borrow.Author.Tests.{lt-ltb, le-ltb}
use Rattle.std.specs.Prelude.{Some, None, Result, Ok, Err}
use Rattle.std.specs.Result.{result_unwrap_or}
use Rattle.words.specs.Buffer.{over, placed}
use Rattle.words.proofs.Buffer.{over-nil, length_over, placed-fits}
use Rattle.words.proofs.Choice.{if-true, if-false}
use Rattle.refusals.specs.declared.Refusal.{Refusal}
use Rattle.refusals.specs.declared.Refusal.TheVariants.{ManyTicks}
use Rattle.table.specs.Limits.{longest_text, most_ticks}
use Rattle.table.specs.Value.{table_of, well_formed}
use Rattle.table.specs.declared.Table.{Table as TableValue}
use Rattle.text.specs.Read.{Answer, accepted, refused, read_text, reading_of}
use Rattle.text.specs.Write.{table_text, length_in}
use Rattle.text.proofs.Back.{text-right, reading-accepted, reading-refused}
use Rattle.text.proofs.Writer.{length_whole, bytes_same, refused_none}
use Rattle.refused.specs.Refused.{refused_line}
use Rattle.runs.specs.Runs.{run_text, ran_in, ran_into}
use Rattle.runs.proofs.Fits.{run_fits}
use Rattle.replies.specs.Replies.{run_to, run_answer, text_to, text_answer, ticks_in, item_answer, Front}

-- bs stands at the front of x, which was d, and n is its length
abbrev pub Replied : List ℕ → List ℕ → List ℕ → ℕ → Type 0
Replied bs d x n = ((n ≡ length bs) × (x ≡ over bs d)) × Front n x

pub replied : (bs d x : List ℕ) (n : ℕ) → length bs ≤ length d → (n ≡ length bs) × (x ≡ over bs d) → Replied bs d x n
replied bs d x n h p =
    let f : n ≤ length x = omega (arith, p.0, ap length p.1, length_over bs d h) in
    (p, (f, sym (length-take-le n x f)))

-- where there is room, all was put there

module _ (bs d x : List ℕ) (w : Result ℕ Refusal) (room : length bs ≤ length d) (e : w ≡ length_in bs d) (p : x ≡ placed bs d) where
  pub put_whole : (n : ℕ) → w ≡ Ok n → (n ≡ length bs) × (x ≡ over bs d)
  put_whole n b = (bytes_same _ _ (sym b ∙ e ∙ length_whole bs d room), p ∙ placed-fits bs d room)

  pub put-never-refused : (why : Refusal) → w ≡ Err why → ⊥
  put-never-refused why b = refused_none _ _ (sym b ∙ e ∙ length_whole bs d room)

  -- and that is what is answered
  pub put-whole_or : (result_unwrap_or w 0 ≡ length bs) × (x ≡ over bs d)
  put-whole_or = (rw (e ∙ length_whole bs d room) refl, p ∙ placed-fits bs d room)

-- the run of a text in a buffer that has room for every answer

module _ (s : List ℕ) (n : ℕ) (d x : List ℕ) (w : Result ℕ Refusal) (room : length d ≡ longest_text)
    (e : w ≡ ran_in (read_text s) n d) (p : x ≡ ran_into (read_text s) n d) where
  -- the run was put there
  pub ran-bytes : (m : ℕ) → w ≡ Ok m → (m ≡ length (run_answer s n)) × (x ≡ over (run_answer s n) d)
  unfolding run_answer
  ran-bytes m b = go (read_text s) refl (sym b ∙ e) p (dec_le n most_ticks)
    where
      go : (a : Answer) → read_text s ≡ a → Ok m ≡ ran_in a n d → x ≡ ran_into a n d → Dec (n ≤ most_ticks) → (m ≡ length (run_to a n)) × (x ≡ over (run_to a n) d)
      go (accepted t) r f q (yes h) =
          let l = le-ltb most_ticks n h in
          let k : length (run_text t n) ≤ length d = omega (arith, room, run_fits t n (text-right s t r) h) in
          rw l (put_whole (run_text t n) d x (Ok m) k (f ∙ if-false _ _ l) (q ∙ if-false _ _ l) m refl)
      go (accepted t) r f q (no h) = absurd (refused_none _ _ (sym (f ∙ if-true _ _ (lt-ltb most_ticks n (omega arith)))))
      go (refused y) r f q c = absurd (refused_none _ _ (sym f))

  -- or it was refused, and the line of that refusal is the answer
  pub ran-refused : (why : Refusal) → w ≡ Err why → (refused_line why ≡ run_answer s n) × (x ≡ d)
  unfolding run_answer
  ran-refused why b = go (read_text s) refl (sym b ∙ e) p (dec_le n most_ticks)
    where
      go : (a : Answer) → read_text s ≡ a → Err why ≡ ran_in a n d → x ≡ ran_into a n d → Dec (n ≤ most_ticks) → (refused_line why ≡ run_to a n) × (x ≡ d)
      go (accepted t) r f q (yes h) =
          let l = le-ltb most_ticks n h in
          let k : length (run_text t n) ≤ length d = omega (arith, room, run_fits t n (text-right s t r) h) in
          absurd (put-never-refused (run_text t n) d x (Err why) k (f ∙ if-false _ _ l) (q ∙ if-false _ _ l) why refl)
      go (accepted t) r f q (no h) =
          let l = lt-ltb most_ticks n (omega arith) in
          let z : ◌≡◌ {A = Result ℕ Refusal} (Err why) (Err ManyTicks) = f ∙ if-true _ _ l in
          let y : why ≡ ManyTicks = cc in
          (ap refused_line y ∙ sym (if-true _ _ l), q ∙ if-true _ _ l)
      go (refused y) r f q c =
          let z : why ≡ y = cc in
          (ap refused_line z, q)

-- the text again

pub text-accepted : (s : List ℕ) (v : TableValue) → Ok v ≡ reading_of (read_text s)
    → (well_formed v ≡ true) × (text_answer s ≡ table_text (table_of v))
unfolding text_answer
text-accepted s v e =
    let a = reading-accepted s v e in
    (a.0, ap text_to a.1)

pub text-refused : (s : List ℕ) (x : Refusal) → Err x ≡ reading_of (read_text s) → text_answer s ≡ refused_line x
unfolding text_answer
text-refused s x e = ap text_to (reading-refused s x e)

-- an item of ticks and a text

pub item-short : (s : List ℕ) → length s < 4 → item_answer s ≡ None
unfolding item_answer
item-short s h = if-true _ _ (lt-ltb (length s) 4 h)

pub item-whole : (s : List ℕ) (n : ℕ) → 4 ≤ length s → n ≡ ticks_in s → item_answer s ≡ Some (run_answer (take (length s - 4) (drop 4 s)) n)
unfolding item_answer
item-whole s n h e =
    if-false _ _ (le-ltb (length s) 4 h)
    ∙ ap (λ (t : List ℕ). Some (run_answer t (ticks_in s))) (sym (take_all (length s - 4) (drop 4 s) (simp length-drop (omega arith))))
    ∙ ap (λ (m : ℕ). Some (run_answer (take (length s - 4) (drop 4 s)) m)) (sym e)
