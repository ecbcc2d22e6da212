-- Demand 1 of specs/Demands, shown.
use Rattle.std.specs.Prelude.{Option, None, Ok, Err, if◌then◌else◌}
use mathlib.Core.Path.{◌≡◌, refl, sym, ap, ◌∙◌}
use mathlib.Core.Bool.{Bool, true, false}
use mathlib.Core.List.{List}
use mathlib.Core.Logic.{◌↔◌}
use Prim.Native.Nat.{ℕ, ◌-◌, ◌≤◌, ◌<◌}
use native.Mathlib.Omega.{arith}
use native.Mathlib.Decide.{dec_le}
use lib.Dec.{leb, ltb}
use lib.ListN.{length, get_or}
use borrow.Author.Tests.{le-leb, lt-leb, lt-ltb, le-ltb}
use Rattle.words.specs.Choice.{◌and◌}
use Rattle.words.specs.Buffer.{over, placed}
use Rattle.ticks.specs.declared.Instant.{Instant}
use Rattle.refusals.specs.declared.Refusal.{Refusal}
use Rattle.refusals.specs.declared.Refusal.TheVariants.{BadTable, NoSuchRow, NoRoom, ManyTicks}
use Rattle.refusals.specs.Refusals.{number_of, line_of}
use Rattle.table.specs.Limits.{longest_text, most_ticks}
use Rattle.table.specs.Paper.{row_at}
use Rattle.table.specs.Value.{table_of, empty_table, well_formed}
use Rattle.table.proofs.Rules.{value-right, value-back, table-right}
use Rattle.fields.specs.Fields.{line_feed}
use Rattle.text.specs.Read.{Answer, accepted, refused, read_text, reading_of, table_in, number_of_outcome, line_of_outcome, field_of_outcome}
use Rattle.text.specs.Write.{table_text, length_in, written, written_into, number_of_written}
use Rattle.text.proofs.Back.{text-right}
use Rattle.text.proofs.Numbers.{InLines, Fared, empty, long, unended, lined, fared, text-refuses}
use Rattle.figures.specs.declared.RowFigures.{RowFigures}
use Rattle.figures.specs.declared.TableFigures.{TableFigures}
use Rattle.figures.specs.Answers.{figures_of, row_answer, table_verdict, answers, table_figures, number_of_answer, number_of_verdict}
use Rattle.report.specs.Report.{report_text, reported, reported_into}
use Rattle.machine.specs.Run.{completions, full_run, number_of_outcome as number_of_run}
use Rattle.runs.specs.Runs.{run_text, ran_in, ran_into}
use Rattle.musselpath.specs.Boundary.{instants, answer_for, left_for, run_answered, run_left}
use Rattle.musselpath.proofs.Answers.{place-comes-out}
use Rattle.promises.specs.Demands.{firsts_in, text_number, due, Texts, Numbers, Nothing, RunNumbers, Packed}

-- texts

-- the number of what the reader answers
abbrev number : Answer → ℕ
number a = number_of_outcome (reading_of a)

accepted-is : (s : List ℕ) (a : Answer) → read_text s ≡ a → number a ≡ 0
    → (well_formed (table_in (reading_of a)) ≡ true) × (line_of_outcome (reading_of a) ≡ 0) × (field_of_outcome (reading_of a) ≡ 0)
accepted-is s (accepted t) e z = (value-right t (text-right s t e), refl, refl)
accepted-is s (refused why) e z = absurd (omega (arith, (text-refuses s why e).low))

refused-is : (s : List ℕ) (a : Answer) → read_text s ≡ a → (number a ≡ 0 → ⊥)
    → (table_in (reading_of a) ≡ empty_table) × (number a ≤ 11) × (4 ≤ number a → 1 ≤ line_of_outcome (reading_of a))
refused-is s (accepted t) e z = absurd (z refl)
refused-is s (refused why) e z = (refl, (text-refuses s why e).high, line-there (fared s))
  where
    line-there : Fared s → 4 ≤ number_of why → 1 ≤ line_of why
    line-there (empty l g) h = absurd (omega (arith, ap number (sym g ∙ e)))
    line-there (long l g) h = absurd (omega (arith, ap number (sym g ∙ e)))
    line-there (unended k l x g) h = absurd (omega (arith, ap number (sym g ∙ e)))
    line-there (lined k l x g) h = let p : InLines (refused why) = rw e at g in p.first

first_three : (s : List ℕ) → Fared s
    → ((text_number s ≡ 1) ↔ (length s ≡ 0))
    × ((text_number s ≡ 2) ↔ (longest_text < length s))
    × ((text_number s ≡ 3) ↔ ((1 ≤ length s) × (length s ≤ longest_text) × (get_or s (length s - 1) 0 ≡ line_feed → ⊥)))
first_three s (empty l e) =
    let n : text_number s ≡ 1 = ap number e in
    (((λ z. l), (λ z. n)), ((λ z. omega arith), (λ z. omega arith)), ((λ z. absurd (omega arith)), (λ z. absurd (omega (arith, z.0)))))
first_three s (long l e) =
    let n : text_number s ≡ 2 = ap number e in
    (((λ z. omega arith), (λ z. omega arith)), ((λ z. l), (λ z. n)), ((λ z. absurd (omega arith)), (λ z. absurd (omega (arith, z.1)))))
first_three s (unended k l g e) =
    let n : text_number s ≡ 3 = ap number e in
    (((λ z. omega arith), (λ z. omega arith)), ((λ z. omega arith), (λ z. omega arith)), ((λ z. (k, l, g)), (λ z. n)))
first_three s (lined k l g h) = go (read_text s) refl h
  where
    go : (a : Answer) → read_text s ≡ a → InLines a
        → ((text_number s ≡ 1) ↔ (length s ≡ 0))
        × ((text_number s ≡ 2) ↔ (longest_text < length s))
        × ((text_number s ≡ 3) ↔ ((1 ≤ length s) × (length s ≤ longest_text) × (get_or s (length s - 1) 0 ≡ line_feed → ⊥)))
    go (accepted t) e p =
        let n : text_number s ≡ 0 = ap number e in
        (((λ z. omega arith), (λ z. omega arith)), ((λ z. omega arith), (λ z. omega arith)), ((λ z. absurd (omega arith)), (λ z. absurd (z.2 g))))
    go (refused why) e p =
        let n : text_number s ≡ number_of why = ap number e in (
          ((λ z. omega (arith, p.low)), (λ z. omega arith)),
          ((λ z. omega (arith, p.low)), (λ z. omega arith)),
          (
            (λ z. absurd
                (omega (arith, p.low))),
            (λ z. absurd (z.2 g)),
          ),
        )

pub demand-1-texts : Texts
demand-1-texts s =
    let t = first_three s (fared s) in
    (accepted-is s (read_text s) refl, refused-is s (read_text s) refl, t.0, t.1, t.2)

-- numbers that are due

row-due : (b c : Bool) (a : RowFigures) → number_of_answer (if b then (if c then Ok a else Err NoSuchRow) else Err BadTable) ≡ due b c true true
row-due true true a = refl
row-due true false a = refl
row-due false c a = refl

table-due : (b : Bool) (a : TableFigures) → number_of_verdict (if b then Ok a else Err BadTable) ≡ due b true true true
table-due true a = refl
table-due false a = refl

run-due : (b : Bool) (m : ℕ) (a : List (Option Instant))
    → number_of_run (if b then (if ltb most_ticks m then Err ManyTicks else Ok a) else Err BadTable) ≡ due b true (leb m most_ticks) true
run-due false m a = refl
run-due true m a = go (dec_le m most_ticks)
  where
    go : Dec (m ≤ most_ticks) → number_of_run (if ltb most_ticks m then Err ManyTicks else Ok a) ≡ due true true (leb m most_ticks) true
    go (yes h) = rw (le-ltb most_ticks m h, le-leb m most_ticks h)
    go (no h) = rw (lt-ltb most_ticks m (omega arith), lt-leb m most_ticks (omega arith))

written-due : (b c : Bool) (k : ℕ)
    → number_of_written (if b then (if c then Ok k else Err NoRoom) else Err BadTable) ≡ due b true true c
written-due true true k = refl
written-due true false k = refl
written-due false c k = refl

pub demand-1-numbers : Numbers
unfolding row_answer table_figures table_verdict full_run written reported
demand-1-numbers v = (
  (λ n. row-due (well_formed v) (leb 1 n and leb n (length (table_of v))) (figures_of (row_at (table_of v)) (n - 1))),
  table-due (well_formed v) (record { verdict = table_verdict (table_of v); rows = answers (table_of v) }),
  (λ m. run-due (well_formed v) m (completions (table_of v) m)),
  (λ d. written-due (well_formed v) (leb (length (table_text (table_of v))) (length d)) (length (table_text (table_of v)))),
  (λ d. written-due (well_formed v) (leb (length (report_text (table_of v))) (length d)) (length (report_text (table_of v)))),
)

-- nothing behind a number

table-nothing : (b : Bool) (a : TableFigures) → (number_of_verdict (if b then Ok a else Err BadTable) ≡ 0 → ⊥) → (if b then Ok a else Err BadTable) ≡ Err BadTable
table-nothing true a z = absurd (z refl)
table-nothing false a z = refl

run-nothing : (b c : Bool) (a : List (Option Instant)) (k : ℕ)
    → (number_of_run (if b then (if c then Err ManyTicks else Ok a) else Err BadTable) ≡ 0 → ⊥)
    → get_or (firsts_in (if b then (if c then Err ManyTicks else Ok a) else Err BadTable)) k None ≡ None
run-nothing true true a k z = refl
run-nothing true false a k z = absurd (z refl)
run-nothing false c a k z = refl

written-nothing : (b : Bool) (bs d : List ℕ) → (number_of_written (if b then length_in bs d else Err BadTable) ≡ 0 → ⊥) → (if b then placed bs d else d) ≡ d
unfolding placed
written-nothing false bs d z = refl
written-nothing true bs d z = go (leb (length bs) (length d)) z
  where
    go : (c : Bool) → (number_of_written (if c then Ok (length bs) else Err NoRoom) ≡ 0 → ⊥) → (if c then over bs d else d) ≡ d
    go true z = absurd (z refl)
    go false z = refl

pub demand-1-nothing : Nothing
unfolding table_figures table_verdict full_run written written_into reported reported_into
demand-1-nothing v = (
  table-nothing (well_formed v) (record { verdict = table_verdict (table_of v); rows = answers (table_of v) }),
  (λ m n. run-nothing (well_formed v) (ltb most_ticks m) (completions (table_of v) m) (n - 1)),
  (λ d. written-nothing (well_formed v) (table_text (table_of v)) d),
  (λ d. written-nothing (well_formed v) (report_text (table_of v)) d),
)

-- the full run of a text

ran-due : (m k : ℕ) (c : Bool)
    → number_of_written (if ltb most_ticks m then Err ManyTicks else if c then Ok k else Err NoRoom) ≡ due true true (leb m most_ticks) c
ran-due m k c = go (dec_le m most_ticks) c
  where
    go : Dec (m ≤ most_ticks) → (c : Bool)
        → number_of_written (if ltb most_ticks m then Err ManyTicks else if c then Ok k else Err NoRoom) ≡ due true true (leb m most_ticks) c
    go (yes h) true = rw (le-ltb most_ticks m h, le-leb m most_ticks h)
    go (yes h) false = rw (le-ltb most_ticks m h, le-leb m most_ticks h)
    go (no h) c = rw (lt-ltb most_ticks m (omega arith), lt-leb m most_ticks (omega arith))

ran-nothing : (b : Bool) (bs d : List ℕ) → (number_of_written (if b then Err ManyTicks else length_in bs d) ≡ 0 → ⊥) → (if b then d else placed bs d) ≡ d
ran-nothing true bs d z = refl
ran-nothing false bs d z = written-nothing true bs d z

refused-same : (a : Answer) (why : Refusal) → reading_of a ≡ Err why → a ≡ refused why
refused-same (accepted t) why e = cc
refused-same (refused x) why e = let z : x ≡ why = cc in ap refused z

run_of : (s : List ℕ) (m : ℕ) (d : List ℕ) (a : Answer) → read_text s ≡ a
    → (number a ≡ 0 → number_of_written (ran_in a m d) ≡ due true true (leb m most_ticks) (leb (length (run_text (table_of (table_in (reading_of a))) m)) (length d)))
    × ((number_of_written (ran_in a m d) ≡ 0 → ⊥) → ran_into a m d ≡ d)
run_of s m d (refused why) e = ((λ z. absurd (omega (arith, (text-refuses s why e).low))), (λ z. refl))
run_of s m d (accepted t) e =
    let b = value-back t (table-right t (text-right s t e)) in (
      (λ z.
          ran-due m (length (run_text t m)) (leb (length (run_text t m)) (length d))
          ∙ ap (λ u. due true true (leb m most_ticks) (leb (length (run_text u m)) (length d))) (sym b)),
      ran-nothing (ltb most_ticks m) (run_text t m) d,
    )

pub demand-1-runs : RunNumbers
demand-1-runs s m d =
    let r = run_of s m d (read_text s) refl in
    ((λ why e. ap (λ a. ran_in a m d) (refused-same (read_text s) why e)), r.0, r.1)

-- in C

packed-due : (m : ℕ) (k l : ℕ) → (if ltb most_ticks m then 23 else if ltb l k then 22 else 0) ≡ due true true (leb m most_ticks) (leb k l)
packed-due m k l = go (dec_le m most_ticks) (dec_le k l)
  where
    go : Dec (m ≤ most_ticks) → Dec (k ≤ l) → (if ltb most_ticks m then 23 else if ltb l k then 22 else 0) ≡ due true true (leb m most_ticks) (leb k l)
    go (yes h) (yes g) = rw (le-ltb most_ticks m h, le-leb m most_ticks h, le-ltb l k g, le-leb k l g)
    go (yes h) (no g) = rw (le-ltb most_ticks m h, le-leb m most_ticks h, lt-ltb l k (omega arith), lt-leb k l (omega arith))
    go (no h) g = rw (lt-ltb most_ticks m (omega arith), lt-leb m most_ticks (omega arith))

left_alone : (b c : Bool) (d e : List ℕ) → (◌≡◌ {A = ℕ} (if b then 23 else if c then 22 else 0) 0 → ⊥) → (if b then d else if c then d else e) ≡ d
left_alone true c d e z = refl
left_alone false true d e z = refl
left_alone false false d e z = absurd (z refl)

packed-of : (s : List ℕ) (m : ℕ) (d : List ℕ) (a : Answer) → read_text s ≡ a
    → (number a ≡ 0 → answer_for a m d ≡ due true true (leb m most_ticks) (leb (length (table_of (table_in (reading_of a)))) (length d)))
    × ((answer_for a m d ≡ 0 → ⊥) → left_for a m d ≡ d)
packed-of s m d (refused why) e = ((λ z. absurd (omega (arith, (text-refuses s why e).low))), (λ z. refl))
packed-of s m d (accepted t) e =
    let b = value-back t (table-right t (text-right s t e)) in (
      (λ z. packed-due m (length t) (length d) ∙ ap (λ u. due true true (leb m most_ticks) (leb (length u) (length d))) (sym b)),
      left_alone (ltb most_ticks m) (ltb (length d) (length t)) d (over (instants t m) d),
    )

-- a text with another number than 0 was refused
pub refused-text : (s : List ℕ) → (text_number s ≡ 0 → ⊥) → (why : Refusal) × (read_text s ≡ refused why)
refused-text s z = go (read_text s) refl z
  where
    go : (a : Answer) → read_text s ≡ a → (number a ≡ 0 → ⊥) → (why : Refusal) × (read_text s ≡ refused why)
    go (accepted t) e z = absurd (z refl)
    go (refused why) e z = (why, e)

pub demand-1-packed : Packed
unfolding run_answered run_left
demand-1-packed s m d =
    let r = packed-of s m d (read_text s) refl in (
      (λ z.
          let x = refused-text s z in
          let c = place-comes-out s x.0 m d x.1 in (
            c.0 ∙ sym (ap number x.1),
            c.1 ∙ sym (ap (λ a. line_of_outcome (reading_of a)) x.1),
            c.2
                ∙ sym (ap (λ a. field_of_outcome (reading_of a)) x.1),
          )),
      r.0,
      r.1,
    )
