-- Demand 2 of specs/Demands, shown.
use Rattle.std.specs.Prelude.{Option as Maybe, Some, None, Result, Ok, Err, if◌then◌else◌}
use mathlib.Core.Path.{◌≡◌, refl, sym, ap, ◌∙◌, subst}
use mathlib.Core.Bool.{Bool, true, false, false≢true}
use mathlib.Core.List.{List, [], ◌∷◌, map}
use mathlib.Core.Logic.Iff
use mathlib.Core.Logic.{◌↔◌}
use mathlib.Core.Option.{Option, none, some, some-injective, none-ne-some}
use Prim.Native.Nat.{ℕ, ◌+◌, ◌-◌, ◌≤◌, ◌<◌}
use native.Mathlib.Omega.{arith}
use native.Mathlib.Decide.{dec_le}
use lib.Dec.{leb, ltb}
use lib.ListN.{length, take, get_or, replicate, length-map, length-append, length-replicate}
use lib.Seq.{take-append_seam, take_all, length-take-le}
use borrow.Author.Tests.{le-leb, lt-leb, le-ltb}
use Rattle.words.specs.Lists.{all, any, below}
use Rattle.words.specs.Spelled.{spelled}
use Rattle.words.specs.Buffer.{over, placed}
use Rattle.words.proofs.Choice.{if-true, if-false, and-last-false}
use Rattle.words.proofs.Filled.{length-below, filled_at, filled-behind, all-below-each, each-all-below, any-below-some, some-any-below}
use Rattle.ticks.specs.Ticks.{long}
use Rattle.ticks.specs.declared.Length.{Length}
use Rattle.decimal.specs.Decimal.{digits}
use Rattle.fields.specs.Fields.{line}
use Rattle.refusals.specs.declared.Refusal.{Refusal}
use Rattle.refusals.specs.declared.Refusal.TheVariants.{BadTable, NoSuchRow, NoRoom, LongText}
use Rattle.refusals.specs.Refusals.{number_of, line_of, field_of}
use Rattle.refused.specs.Refused.{refused_line}
use Rattle.table.specs.Limits.{most_rows, longest_text, most_ticks}
use Rattle.table.specs.Paper.{Table, row_at, Part, part, parts, total, waits, right_row}
use Rattle.table.specs.Value.{table_of, table_value, well_formed}
use Rattle.table.specs.declared.Table.{Table as TableValue}
use Rattle.table.proofs.Rules.{value-forth, value-back, value-right, table-right, table-size}
use Rattle.text.specs.Read.{Answer, accepted, refused, read_text, reading_of, table_in, number_of_outcome, line_of_outcome, field_of_outcome}
use Rattle.text.specs.Write.{table_text, length_in, written, written_into, number_of_written}
use Rattle.text.proofs.Back.{text-back, text-right, text-one}
use Rattle.text.proofs.Forth.{text-forth}
use Rattle.text.proofs.Fits.{text-fits}
use Rattle.text.proofs.Numbers.{text-refuses, Fared, empty, long as too_many, unended, lined, fared}
use Rattle.verdicts.specs.Verdicts.{figure_of, fits, misses, overall}
use Rattle.verdicts.specs.declared.Bound.TheVariants.{Whole, Split}
use Rattle.verdicts.specs.declared.Verdict.{Verdict}
use Rattle.verdicts.specs.declared.Verdict.TheVariants.{Fits, Misses, Open}
use Rattle.verdicts.specs.declared.TableVerdict.{TableVerdict}
use Rattle.verdicts.specs.declared.TableVerdict.TheVariants.{Fits as TableFits, Misses as TableMisses, Open as TableOpen}
use Rattle.figures.specs.declared.RowFigures.{RowFigures}
use Rattle.figures.specs.declared.TableFigures.{TableFigures}
use Rattle.recurrence.specs.Fixed.{Took}
use Rattle.recurrence.specs.Figures.{result, rounds, own, whole, plus, split, split_from, split_rounds, verdict, with_split, row_rounds, unless_none}
use Rattle.figures.specs.Answers.{split_shown, figures_of, row_answer, verdicts, table_verdict, answers, table_figures}
use Rattle.recurrence.proofs.Rows.{sane, one_time, more-times}
use Rattle.recurrence.proofs.Verdicts.{stretch-none, stretch-took, whole-took}
use Rattle.recurrence.proofs.Verdicts.{split-some, stretch-fixed, whole-fixed, one-fits, one-misses, one-whole, one-open, one-rounds, waiting-whole}
use Rattle.recurrence.proofs.Verdicts.{waiting-split, waiting-open, waiting-misses}
use Rattle.report.specs.Report.{report_text, answer_to, answer_text, reported, reported_into, longest_report}
use Rattle.report.proofs.Fits.{answer-fits}
use Rattle.runs.specs.Runs.{run_text, ran_in, ran_into}
use Rattle.runs.proofs.Fits.{run_fits}
use Rattle.musselpath.specs.Boundary.{instants, answer_for, left_for, run_answered, run_left}
use Rattle.promises.specs.Demands.{verdict_in, rows_in, reading, text_number, answered_in, answered_into, due, row, f, Told, Added, no_more, one_more}
use Rattle.promises.specs.Demands.{TookSplit, none_left, passed, next_one, TextBack, OneText, TableBack, Reported, Answered, AnswerRoom, RunWritten}
use Rattle.promises.specs.Demands.{Given, WholeBound, SplitBound, OneStretch, WaitingRow, Rounds, TableJudged}
use Rattle.promises.proofs.Finish.{Positive}
use Rattle.promises.proofs.Proper.{positive}
use Rattle.promises.proofs.Demand1.{refused-text}
use Rattle.promises.proofs.Told.{Asked, asked, told, there, right-rows}

never : {A : Type 0} → ◌≡◌ {A = ℕ} 0 1 → A
never e = absurd (omega arith)

-- texts

-- a text with the number 0 was accepted
accepted-text : (s : List ℕ) → text_number s ≡ 0 → (t : Table) × (read_text s ≡ accepted t)
accepted-text s z = go (read_text s) refl z
  where
    go : (a : Answer) → read_text s ≡ a → number_of_outcome (reading_of a) ≡ 0 → (t : Table) × (read_text s ≡ accepted t)
    go (accepted t) e z = (t, e)
    go (refused why) e z = absurd (omega (arith, (text-refuses s why e).low))

-- the table of an accepted text
text-table : (s : List ℕ) (t : Table) → read_text s ≡ accepted t → table_in (reading s) ≡ table_value t
text-table s t e = ap (λ a. table_in (reading_of a)) e

pub demand-2-text : TextBack
unfolding written written_into
demand-2-text s d z =
    let x = accepted-text s z in
    let t = x.0 in
    let r = text-right s t x.1 in
    let w : well_formed (table_in (reading s)) ≡ true = ap well_formed (text-table s t x.1) ∙ value-right t r in
    let b : table_text (table_of (table_in (reading s))) ≡ s
    = ap (λ v. table_text (table_of v)) (text-table s t x.1) ∙ ap table_text (value-back t (table-right t r)) ∙ text-back s t x.1 in
    (sym b, if-true _ _ w ∙ ap (λ l. length_in l d) b, if-true _ _ w ∙ ap (λ l. placed l d) b)

pub demand-2-one : OneText
demand-2-one s r y z e =
    let p = accepted-text s y in
    let q = accepted-text r z in
    let a = table-right p.0 (text-right s p.0 p.1) in
    let b = table-right q.0 (text-right r q.0 q.1) in
    let g : p.0 ≡ q.0
    = sym (value-back p.0 a) ∙ ap table_of (sym (text-table s p.0 p.1) ∙ e ∙ text-table r q.0 q.1) ∙ value-back q.0 b in
    text-one s r q.0 (p.1 ∙ ap accepted g) q.1

-- a buffer into which bytes were put begins with them
written-front : (b : Bool) (bs d : List ℕ) (m : ℕ) → ◌≡◌ {A = Result ℕ Refusal} (if b then length_in bs d else Err BadTable) (Ok m)
    → (b ≡ true) × (take m (if b then placed bs d else d) ≡ bs)
unfolding placed over
written-front false bs d m e = never (cc)
written-front true bs d m e = (refl, go (leb (length bs) (length d)) e)
  where
    go : (c : Bool) → ◌≡◌ {A = Result ℕ Refusal} (if c then Ok (length bs) else Err NoRoom) (Ok m) → take m (if c then over bs d else d) ≡ bs
    go true e = let z : m ≡ length bs = cc in ap (λ k. take k (over bs d)) z ∙ take-append_seam bs _
    go false e = never (cc)

pub demand-2-table : TableBack
unfolding written written_into
demand-2-table v d = (back, room)
  where
    back : (m : ℕ) → written v d ≡ Ok m → reading (take m (written_into v d)) ≡ Ok v
    back m e =
        let w = written-front (well_formed v) (table_text (table_of v)) d m e in
        let g = value-forth v w.0 in
        ap reading w.1 ∙ ap reading_of (text-forth (table_of v) g.1) ∙ ap Ok (sym g.0)

    room : well_formed v ≡ true → longest_text ≤ length d → number_of_written (written v d) ≡ 0
    room ok h =
        let l : length (table_text (table_of v)) ≤ length d = omega (arith, text-fits (table_of v) (value-forth v ok).1) in
        ap number_of_written (if-true _ _ ok ∙ if-true _ _ (le-leb _ (length d) l))

pub demand-2-report : Reported
unfolding reported reported_into
demand-2-report v d ok = (if-true _ _ ok, if-true _ _ ok)

pub demand-2-answer : Answered
unfolding answer_text refused_line
demand-2-answer s = (right, wrong, cut (dec_le (length s) (longest_text + 1)))
  where
    right : text_number s ≡ 0 → answer_text s ≡ report_text (table_of (table_in (reading s)))
    right z =
        let x = accepted-text s z in
        let t = x.0 in
        ap answer_to x.1 ∙ ap report_text (sym (ap table_of (text-table s t x.1) ∙ value-back t (table-right t (text-right s t x.1))))

    -- of a text that is too long nothing but its length is looked at
    too_long : (r : List ℕ) → longest_text < length r → read_text r ≡ refused LongText
    too_long r h = go (fared r)
      where
        go : Fared r → read_text r ≡ refused LongText
        go (empty l e) = absurd (omega arith)
        go (too_many l e) = e
        go (unended k l g e) = absurd (omega arith)
        go (lined k l g e) = absurd (omega arith)

    cut : Dec (length s ≤ longest_text + 1) → answer_text (take (longest_text + 1) s) ≡ answer_text s
    cut (yes h) = ap answer_text (take_all (longest_text + 1) s h)
    cut (no h) =
        let l : length (take (longest_text + 1) s) ≡ longest_text + 1 = length-take-le (longest_text + 1) s (omega arith) in
        ap answer_to (too_long (take (longest_text + 1) s) (omega arith) ∙ sym (too_long s (omega arith)))

    line-of : (why : Refusal) → Result TableValue Refusal → List ℕ
    line-of why r = line (spelled "refused")
        (digits (number_of_outcome r) ∷ digits (line_of_outcome r) ∷ digits (field_of_outcome r) ∷ [])

    wrong : (text_number s ≡ 0 → ⊥)
        → answer_text s ≡ line (spelled "refused")
        (digits (text_number s) ∷ digits (line_of_outcome (reading s)) ∷ digits (field_of_outcome (reading s)) ∷ [])
    wrong z =
        let x = refused-text s z in
        let why = x.0 in
        let n = (text-refuses s why x.1).high in
        ap answer_to x.1
        ∙ ap (λ l. line (spelled "refused") (digits (number_of why) ∷ l))
        (if-false [] (digits (line_of why) ∷ digits (field_of why) ∷ []) (lt-leb 20 (number_of why) (omega arith)))
        ∙ sym (ap (λ a. line-of why (reading_of a)) x.1)

pub demand-2-room : AnswerRoom
unfolding placed
demand-2-room s d = (number, nothing, room)
  where
    number : number_of_written (answered_in s d) ≡ due true true true (leb (length (answer_text s)) (length d))
    number = go (leb (length (answer_text s)) (length d))
      where
        go : (c : Bool) → number_of_written (if c then Ok (length (answer_text s)) else Err NoRoom) ≡ due true true true c
        go true = refl
        go false = refl

    nothing : (number_of_written (answered_in s d) ≡ 0 → ⊥) → answered_into s d ≡ d
    nothing = go (leb (length (answer_text s)) (length d))
      where
        go : (c : Bool) → (number_of_written (if c then Ok (length (answer_text s)) else Err NoRoom) ≡ 0 → ⊥)
            → (if c then over (answer_text s) d else d) ≡ d
        go true z = absurd (z refl)
        go false z = refl

    room : longest_report ≤ length d → (answered_in s d ≡ Ok (length (answer_text s))) × (answered_into s d ≡ over (answer_text s) d)
    room h =
        let l : leb (length (answer_text s)) (length d) ≡ true = le-leb _ (length d) (omega (arith, answer-fits s)) in
        (if-true _ _ l, if-true _ _ l)

pub demand-2-run : RunWritten
unfolding run_left run_answered
demand-2-run s m d z few =
    let x = accepted-text s z in
    let t = x.0 in
    let r = text-right s t x.1 in
    let b : t ≡ table_of (table_in (reading s)) = sym (ap table_of (text-table s t x.1) ∙ value-back t (table-right t r)) in
    let l = le-ltb most_ticks m few in
    let written_is : ran_in (read_text s) m d ≡ length_in (run_text t m) d = ap (λ a. ran_in a m d) x.1 ∙ if-false _ _ l in (
      written_is ∙ ap (λ u. length_in (run_text u m) d) b,
      ap (λ a. ran_into a m d) x.1 ∙ if-false _ _ l ∙ ap (λ u. placed (run_text u m) d) b,
      (λ h. (let k : length (run_text t m) ≤ length d
          = omega (arith, run_fits t m r few) in ap number_of_written (written_is ∙ if-true _ _ (le-leb _ (length d) k)))),
      (λ e. ap (λ a. left_for a m d) x.1 ∙ if-false _ _ l
          ∙ elements (ltb (length d) (length t)) (instants t m) d (sym (ap (λ a. answer_for a m d) x.1 ∙ if-false _ _ l) ∙ e)
          ∙ ap (λ u. over (instants u m) d) b),
    )
  where
    elements : (c : Bool) (xs d : List ℕ) → ◌≡◌ {A = ℕ} (if c then 22 else 0) 0 → (if c then d else over xs d) ≡ over xs d
    elements true xs d e = absurd (omega arith)
    elements false xs d e = refl

-- figures

pub demand-2-given : Given
unfolding table_figures answers row_answer
demand-2-given v ok = ((λ n h l. (figures_of (row_at (table_of v)) (n - 1), told v n ok h l)), sixteen, at)
  where
    t : Table
    t = table_of v

    told_at : ℕ → Result RowFigures Refusal
    told_at k = Ok (figures_of (row_at t) k)

    behind : List (Result RowFigures Refusal)
    behind = replicate (most_rows - length t) (Err NoSuchRow)

    sixteen : length (rows_in (table_figures v)) ≡ most_rows
    sixteen =
        let a : length (map told_at (below (length t))) ≡ length t = length-map (below (length t)) told_at ∙ length-below (length t) in
        let b : length behind ≡ most_rows - length t = length-replicate (most_rows - length t) _ in
        ap (λ (x : Result TableFigures Refusal). length (rows_in x)) (if-true _ _ ok)
        ∙ length-append (map told_at (below (length t))) behind
        ∙ omega (arith, (table-size t (value-forth v ok).1).1)

    at : (n : ℕ) → 1 ≤ n → n ≤ most_rows → get_or (rows_in (table_figures v)) (n - 1) (Err NoSuchRow) ≡ row_answer v n
    at n h l = ap (λ (x : Result TableFigures Refusal). get_or (rows_in x) (n - 1) (Err NoSuchRow)) (if-true _ _ ok) ∙ go (dec_le n (length t))
      where
        go : Dec (n ≤ length t) → get_or (answers t) (n - 1) (Err NoSuchRow) ≡ row_answer v n
        go (yes y) = filled_at told_at (length t) behind (Err NoSuchRow) (n - 1) (omega arith) ∙ sym (told v n ok h y)
        go (no y) =
            filled-behind (map told_at (below (length t))) (most_rows - length t) (n - 1) (Err NoSuchRow)
            (omega (arith, length-map (below (length t)) told_at, length-below (length t)))
            ∙ sym (if-true _ _ ok ∙ if-false _ _ (and-last-false (leb 1 n) (lt-leb n (length t) (omega arith))))

figure-is : (o : Option ℕ) (R : ℕ) → (figure_of o ≡ Some (long R)) ↔ (o ≡ some R)
figure-is none R = ((λ e. never (cc)), (λ e. never (cc)))
figure-is (some x) R = ((λ e. (let z : long x ≡ long R = cc in ap (λ (l : Length). some l.0) z)), (λ e. ap figure_of e))

figure-no : (o : Option ℕ) → (figure_of o ≡ None) ↔ (o ≡ none)
figure-no none = ((λ e. refl), (λ e. refl))
figure-no (some x) = ((λ e. never (cc)), (λ e. never (cc)))

same : {A : Type 0} {x y z : A} → x ≡ y → (x ≡ z) ↔ (y ≡ z)
same p = ((λ e. sym p ∙ e), (λ e. p ∙ e))

-- the rounds of whole
abbrev whole_rounds : TableValue → ℕ → ℕ
whole_rounds v n = rounds (f v n (own (row v n))) (row v n).deadline (own (row v n))

module _ (v : TableValue) (n : ℕ) (a : RowFigures) (q : Asked v n a) where
  rules : (i : ℕ) → i ≤ n - 1 → right_row (row_at (table_of v) i) ≡ true
  rules = right-rows v n a q

  pub verdict-is : a.verdict ≡ verdict (row_at (table_of v)) (n - 1)
  verdict-is = ap (λ (x : RowFigures). x.verdict) q.is

  pub whole_is : (R : ℕ) → (a.whole ≡ Some (long R)) ↔ (whole (row_at (table_of v)) (n - 1) ≡ some R)
  whole_is R = Iff.trans (same (ap (λ (x : RowFigures). x.whole) q.is)) (figure-is (whole (row_at (table_of v)) (n - 1)) R)

  whole-no : (a.whole ≡ None) ↔ (whole (row_at (table_of v)) (n - 1) ≡ none)
  whole-no = Iff.trans (same (ap (λ (x : RowFigures). x.whole) q.is)) (figure-no (whole (row_at (table_of v)) (n - 1)))

  -- a row of one C
  module _ (one : waits (row v n) ≡ false) where
    split-gone : a.split ≡ None
    split-gone =
        ap (λ (x : RowFigures). x.split) q.is
        ∙ ap (λ l. figure_of (split_shown (parts l) (split (row_at (table_of v)) (n - 1)))) (one_time (row v n) (rules (n - 1) (omega arith)) one).1

    rounds-one : a.rounds ≡ rounds (f v n (own (row v n))) (row v n).deadline (own (row v n))
    rounds-one =
        ap (λ (x : RowFigures). x.rounds) q.is
        ∙ ap (λ l. with_split (parts l) (whole_rounds v n) (split_rounds (row_at (table_of v)) (n - 1) (parts (row v n).times)))
        (one_time (row v n) (rules (n - 1) (omega arith)) one).1

  -- a waiting row
  module _ (more : waits (row v n) ≡ true) where
    split-there : a.split ≡ figure_of (split (row_at (table_of v)) (n - 1))
    split-there =
        ap (λ (x : RowFigures). x.split) q.is
        ∙ ap (λ l. figure_of (split_shown (parts l) (split (row_at (table_of v)) (n - 1)))) (more-times (row v n) (rules (n - 1) (omega arith)) more).4

    split-is : (B : ℕ) → (a.split ≡ Some (long B)) ↔ (split (row_at (table_of v)) (n - 1) ≡ some B)
    split-is B = Iff.trans (same split-there) (figure-is (split (row_at (table_of v)) (n - 1)) B)

    split-no : (a.split ≡ None) ↔ (split (row_at (table_of v)) (n - 1) ≡ none)
    split-no = Iff.trans (same split-there) (figure-no (split (row_at (table_of v)) (n - 1)))

    rounds-more : a.rounds ≡ whole_rounds v n + split_rounds (row_at (table_of v)) (n - 1) (parts (row v n).times)
    rounds-more =
        ap (λ (x : RowFigures). x.rounds) q.is
        ∙ ap (λ l. with_split (parts l) (whole_rounds v n) (split_rounds (row_at (table_of v)) (n - 1) (parts (row v n).times)))
        (more-times (row v n) (rules (n - 1) (omega arith)) more).4

  -- so often the right side is worked out for the stretches by themselves
  took-split : (m : List Part) → Positive m → total m ≤ (row v n).deadline → TookSplit v n m (split_rounds (row_at (table_of v)) (n - 1) m)
  took-split [] h le = none_left
  took-split (part s c ∷ m) h le =
      go (result (f v n c) (row v n).deadline c) refl (took-split m h.1 (omega arith))
    where
      took : Took (f v n c) (row v n).deadline c (rounds (f v n c) (row v n).deadline c)
      took = stretch-took (row_at (table_of v)) (n - 1) rules c h.0 (omega arith)

      go : (o : Option ℕ) → result (f v n c) (row v n).deadline c ≡ o → TookSplit v n m (split_rounds (row_at (table_of v)) (n - 1) m)
          → TookSplit v n (part s c ∷ m) (rounds (f v n c) (row v n).deadline c + unless_none o (split_rounds (row_at (table_of v)) (n - 1) m))
      go none e ih =
          let z : rounds (f v n c) (row v n).deadline c ≡ rounds (f v n c) (row v n).deadline c + 0 = omega arith in
          subst (TookSplit v n (part s c ∷ m)) z (passed took ((stretch-none (row_at (table_of v)) (n - 1) rules c h.0 (omega arith)).0 e))
      go (some R) e ih =
          let fix = (stretch-fixed (row_at (table_of v)) (n - 1) rules c h.0 (omega arith) R).0 e in
          next_one R took fix.0 fix.1 ih

  -- what the stretches by themselves come to is the sum of their fixed points and the suspensions
  module _ where
    added : (m : List Part) → Positive m → total m ≤ (row v n).deadline → (B : ℕ) → split_from (row_at (table_of v)) (n - 1) m ≡ some B → Added v n m B
    added [] h le B e = let z : 0 ≡ B = some-injective 0 B e in rw (← z) no_more
    added (part s c ∷ m) h le B e =
        go (result (f v n c) (row v n).deadline c) (split_from (row_at (table_of v)) (n - 1) m) refl refl e (added m h.1 (omega arith))
      where
        go : (x y : Option ℕ) → result (f v n c) (row v n).deadline c ≡ x → split_from (row_at (table_of v)) (n - 1) m ≡ y → plus s x y ≡ some B
            → ((A : ℕ) → split_from (row_at (table_of v)) (n - 1) m ≡ some A → Added v n m A) → Added v n (part s c ∷ m) B
        go none y ex ey z ih = absurd (none-ne-some B z)
        go (some R) none ex ey z ih = absurd (none-ne-some B z)
        go (some R) (some A) ex ey z ih =
            let fix = (stretch-fixed (row_at (table_of v)) (n - 1) rules c h.0 (omega arith) R).0 ex in
            let w : s + R + A ≡ B = some-injective (s + R + A) B z in
            rw (← w) (one_more R fix.0 fix.1 (ih A ey))

    sums : (m : List Part) → Positive m → total m ≤ (row v n).deadline → (B : ℕ) → Added v n m B → split_from (row_at (table_of v)) (n - 1) m ≡ some B
    sums m h le E no_more = refl
    sums m h le E (one_more {S} {C} {l} {B} R s r d) =
        ap (λ o. plus S o (split_from (row_at (table_of v)) (n - 1) l)) ((stretch-fixed (row_at (table_of v)) (n - 1) rules C h.0 (omega arith) R).1 (s, r))
        ∙ ap (plus S (some R)) (sums l h.1 (omega arith) B d)

    pub split-added : (B : ℕ) → (split (row_at (table_of v)) (n - 1) ≡ some B) ↔ (Added v n (parts (row v n).times) B × (B ≤ (row v n).deadline))
    split-added B =
        let s = split-some (row_at (table_of v)) (n - 1) B in
        let p = positive (row v n) (rules (n - 1) (omega arith)) in
        let le = (sane (row v n) (rules (n - 1) (omega arith))).own-fits in (
          (λ e. (added (parts (row v n).times) p le B (s.0 e).0, (s.0 e).1)),
          (λ h. s.1 (sums (parts (row v n).times) p le B h.0, h.1)),
        )

pub demand-2-whole : WholeBound
demand-2-whole v n a e R =
    let q = asked v n a e in
    Iff.trans (whole_is v n a q R) (whole-fixed (row_at (table_of v)) (n - 1) (right-rows v n a q) R)

pub demand-2-split : SplitBound
demand-2-split v n a e =
    let q = asked v n a e in
    ((λ more B. Iff.trans (split-is v n a q more B) (split-added v n a q B)), (λ one. split-gone v n a q one))

pub demand-2-one-stretch : OneStretch
demand-2-one-stretch v n a e one =
    let q = asked v n a e in
    let r = right-rows v n a q in
    let x = verdict-is v n a q in (
      (λ R. Iff.trans (same x) (one-fits (row_at (table_of v)) (n - 1) r one R)),
      Iff.trans (same x) (one-misses (row_at (table_of v)) (n - 1) r one),
      (λ R h. (let z : Split ≡ Whole = one-whole (row_at (table_of v)) (n - 1) r one Split R (sym x ∙ h) in never (cc))),
      (λ h. one-open (row_at (table_of v)) (n - 1) r one (sym x ∙ h)),
    )

pub demand-2-waiting : WaitingRow
demand-2-waiting v n a e more =
    let q = asked v n a e in
    let r = right-rows v n a q in
    let x = verdict-is v n a q in
    let w = whole_is v n a q in
    let s = split-is v n a q more in
    let wn = whole-no v n a q in
    let sn = split-no v n a q more in (
      (λ R.
          Iff.trans (same x)
          (Iff.trans (waiting-whole (row_at (table_of v)) (n - 1) r more R)
          ((λ h. ((w R).1 h.0, λ y z. h.1 y ((s y).0 z))), (λ h. ((w R).0 h.0, λ y z. h.1 y ((s y).1 z)))))),
      (λ R.
          Iff.trans (same x)
          (Iff.trans (waiting-split (row_at (table_of v)) (n - 1) r more R)
          ((λ h. ((s R).1 h.0, λ y z. h.1 y ((w y).0 z))), (λ h. ((s R).0 h.0, λ y z. h.1 y ((w y).1 z)))))),
      Iff.trans (same x)
          (Iff.trans (waiting-open (row_at (table_of v)) (n - 1) r more)
          ((λ h. (wn.1 h.0, sn.1 h.1)), (λ h. (wn.0 h.0, sn.0 h.1)))),
      (λ h. waiting-misses (row_at (table_of v)) (n - 1) r more (sym x ∙ h)),
    )

pub demand-2-rounds : Rounds
demand-2-rounds v n a e =
    let q = asked v n a e in
    let r = right-rows v n a q in
    let t = whole-took (row_at (table_of v)) (n - 1) r in (
      (λ one.
          let z = rounds-one v n a q one in
          let y : a.rounds ≡ row_rounds (row_at (table_of v)) (n - 1) = ap (λ (x : RowFigures). x.rounds) q.is in
          (subst (Took (f v n (own (row v n))) (row v n).deadline (own (row v n))) (sym z) t, omega (arith, one-rounds (row_at (table_of v)) (n - 1) r one))),
      (λ more.
          let x = r (n - 1) (omega arith) in (
            whole_rounds v n,
            split_rounds (row_at (table_of v)) (n - 1) (parts (row v n).times),
            rounds-more v n a q more,
            t,
            took-split v n a q (parts (row v n).times) (positive (row v n) x) (sane (row v n) x).own-fits,
          )),
    )

-- the table's verdict

status : (a m : Bool) → (a ≡ true → m ≡ false)
    → (((if a then TableFits else if m then TableMisses else TableOpen) ≡ TableFits) ↔ (a ≡ true))
    × (((if a then TableFits else if m then TableMisses else TableOpen) ≡ TableMisses) ↔ (m ≡ true))
    × (((if a then TableFits else if m then TableMisses else TableOpen) ≡ TableOpen) ↔ ((a ≡ false) × (m ≡ false)))
status true true h = absurd (false≢true (sym (h refl)))
status true false h = (
  ((λ e. refl), (λ e. refl)),
  ((λ e. never (cc)), (λ e. absurd (false≢true e))),
  (
    (λ e. never (cc)),
    (λ e. absurd
        (false≢true (sym e.0))),
  ),
)
status false true h = (
  ((λ e. never (cc)), (λ e. absurd (false≢true e))),
  ((λ e. refl), (λ e. refl)),
  (
    (λ e. never (cc)),
    (λ e. absurd
        (false≢true (sym e.1))),
  ),
)
status false false h
    = (((λ e. never (cc)), (λ e. absurd (false≢true e))), ((λ e. never (cc)), (λ e. absurd (false≢true e))), ((λ e. (refl, refl)), (λ e. refl)))

misses-is : (x : Verdict) → misses x ≡ true → x ≡ Misses
misses-is (Fits b r) e = absurd (false≢true e)
misses-is Misses e = refl
misses-is Open e = absurd (false≢true e)

not-both : (x : Verdict) → fits x ≡ true → misses x ≡ true → ⊥
not-both (Fits b r) p q = false≢true q
not-both Misses p q = false≢true p
not-both Open p q = false≢true p

not-true : (b : Bool) → (b ≡ true → ⊥) → b ≡ false
not-true true h = absurd (h refl)
not-true false h = refl

module _ (v : TableValue) (ok : well_formed v ≡ true) where
  verdict-at : ℕ → Verdict
  verdict-at i = verdict (row_at (table_of v)) i

  fits_all : (all fits (verdicts (table_of v)) ≡ true) ↔ ((n : ℕ) (a : RowFigures) → Told v n a → fits a.verdict ≡ true)
  unfolding verdicts
  fits_all = (
    (λ e n a h.
        let q = asked v n a h in
        ap fits (verdict-is v n a q) ∙ all-below-each fits (verdict (row_at (table_of v))) (length (table_of v)) e (n - 1) (there v n a q)),
    (λ h. each-all-below fits (verdict (row_at (table_of v))) (length (table_of v)) (λ i l. each i l h)),
  )
    where
      each : (i : ℕ) → i < length (table_of v) → ((n : ℕ) (a : RowFigures) → Told v n a → fits a.verdict ≡ true) → fits (verdict (row_at (table_of v)) i) ≡ true
      each i l h =
          let z : i + 1 - 1 ≡ i = omega arith in
          sym (ap (λ j. fits (verdict (row_at (table_of v)) j)) z) ∙ h (i + 1) _ (told v (i + 1) ok (omega arith) (omega arith))

  misses-some : (any misses (verdicts (table_of v)) ≡ true) ↔ ((n : ℕ) × (a : RowFigures) × Told v n a × (a.verdict ≡ Misses))
  unfolding verdicts
  misses-some = (
    (λ e.
        let x = any-below-some misses (verdict (row_at (table_of v))) (length (table_of v)) e in
        let z : x.0 + 1 - 1 ≡ x.0 = omega arith in (
          x.0 + 1,
          figures_of (row_at (table_of v)) (x.0 + 1 - 1),
          told v (x.0 + 1) ok (omega arith) (omega (arith, x.1)),
          ap
              (verdict (row_at (table_of v))) z ∙ misses-is _ x.2,
        )),
    (λ x.
        let q = asked v x.0 x.1 x.2 in
        some-any-below misses (verdict (row_at (table_of v))) (length (table_of v)) (x.0 - 1) (there v x.0 x.1 q)
        (ap misses (sym (verdict-is v x.0 x.1 q) ∙ x.3))),
  )

  overall-is : verdict_in (table_figures v) ≡ Some (overall (verdicts (table_of v)))
  unfolding table_figures table_verdict
  overall-is = ap verdict_in (if-true _ _ ok)

  one_way : all fits (verdicts (table_of v)) ≡ true → any misses (verdicts (table_of v)) ≡ false
  one_way e =
      not-true (any misses (verdicts (table_of v)))
      (λ m.
      let x = misses-some.0 m in
      not-both x.1.verdict (fits_all.0 e x.0 x.1 x.2) (ap misses x.3))

-- two verdicts that are there
inside : {x y : TableVerdict} → (◌≡◌ {A = Maybe TableVerdict} (Some x) (Some y)) ↔ (x ≡ y)
inside = ((λ e. cc), (λ e. ap Some e))

pub demand-2-verdict : TableJudged
demand-2-verdict v ok =
    let o = overall-is v ok in
    let fa = fits_all v ok in
    let ms = misses-some v ok in
    let s = status (all fits (verdicts (table_of v))) (any misses (verdicts (table_of v))) (one_way v ok) in (
      Iff.trans (same o) (Iff.trans inside (Iff.trans s.0 fa)),
      Iff.trans (same o) (Iff.trans inside (Iff.trans s.1 ms)),
      Iff.trans (same o)
          (Iff.trans inside (Iff.trans s.2 (
            (λ h. ((λ g. false≢true (sym h.0 ∙ fa.1 g)), (λ n a t m. false≢true (sym h.1 ∙ ms.1 (n, a, t, m))))),
            (λ h. (not-true _ (λ e. h.0 (fa.0 e)), not-true _ (λ e. let x = ms.0 e in h.1 x.0 x.1 x.2 x.3))),
          ))),
    )
