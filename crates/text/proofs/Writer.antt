-- What the writer puts together: the fields of a row's line, and the lines of a table; and its answers.
use mathlib.Core.Path.{◌≡◌, refl, sym, ap, ◌∙◌}
use mathlib.Core.Bool.{true, false}
use mathlib.Core.List.{List, [], ◌∷◌, ◌++◌, map}
use Prim.Native.Nat.{ℕ, zero, suc, ◌+◌, ◌-◌, ◌≤◌, ◌<◌, min}
use native.Mathlib.Omega.{arith}
use lib.ListN.{length, get_or, take, set, replicate}
use lib.Seq.{take_all}
use Rattle.words.proofs.Filled.{filled_next}
use borrow.Author.Tests.{le-leb}
use Rattle.ticks.specs.declared.Length.{Length}
use Rattle.words.specs.Lists.{below}
use Rattle.words.specs.Buffer.{over, placed}
use Rattle.words.proofs.Choice.{if-true}
use Rattle.words.proofs.Buffer.{placed-fits}
use Rattle.decimal.specs.Decimal.{digits}
use Rattle.fields.specs.Fields.{joined}
use Rattle.refusals.specs.declared.Refusal.{Refusal}
use Rattle.refusals.specs.declared.Refusal.TheVariants.{BadTable}
use Rattle.table.specs.declared.Row.{Row as RowValue}
use Rattle.table.specs.declared.Table.{Table as TableValue}
use Rattle.table.specs.Limits.{most_rows, most_times}
use Rattle.table.specs.Paper.{row_at}
use Rattle.table.specs.Value.{row_of, table_of, well_formed}
use Rattle.ticks.specs.Ticks.{ticks, long}
use Rattle.table.proofs.Rows.{times-front}
use Rattle.table.proofs.Used.{row_is, len_is, len-most}
use Rattle.fields.specs.Fields.{line}
use Rattle.lines.specs.declared.Field.{Field}
use Rattle.lines.specs.declared.Field.TheVariants.{Number}
use Rattle.lines.specs.Lines.{texts}
use Rattle.text.specs.Parts.{row_lines}
use Rattle.text.specs.Write.{line_text, table_text, length_in, written, written_into}
use Rattle.std.specs.Prelude.{Option, Some, None, Result, Ok, Err}
use Rattle.text.proofs.Lines.{table-lines}

-- the fields of a line that the code makes: T, D and the first k of the times ts, and none behind them
abbrev pub number : Length → Option Field
number l = Some (Number l.0)

abbrev pub made : RowValue → List Length → ℕ → List (Option Field)
made v ts k = number v.period ∷ number v.deadline ∷ (map number (take k ts) ++ replicate (most_times - k) None)

-- one time more
pub made-next : (v : RowValue) (ts : List Length) (k : ℕ) (fs : List (Option Field)) → length ts ≤ most_times → k < length ts → fs ≡ made v ts k
    → set fs (k + 2) (number (get_or ts k (long 0))) ≡ made v ts (k + 1)
made-next v ts k fs n h e =
    let y = number (get_or ts k (long 0)) in
    let s : k + 2 ≡ suc (suc k) = omega arith in
    ap (λ xs. set xs (k + 2) y) e ∙ ap (λ j. set (made v ts k) j y) s
    ∙ ap (λ xs. number v.period ∷ number v.deadline ∷ xs) (filled_next number None ts most_times k (long 0) _ y h (omega arith) refl refl)

no-texts : (m : ℕ) → texts (replicate m None) ≡ []
no-texts zero = refl
no-texts (suc m) = no-texts m

-- the first n times have the same digits as fields
texts-are : (ts : List Length) (n m : ℕ) → texts (map number (take n ts) ++ replicate m None) ≡ map digits (take n (map ticks ts))
texts-are ts zero m = no-texts m
texts-are [] (suc n) m = no-texts m
texts-are (t ∷ ts) (suc n) m = ap (λ (l : List (List ℕ)). digits t.0 ∷ l) (texts-are ts n m)

-- with all times in use the line is made
pub made-line : (v : RowValue) (k n : ℕ) (fs : List (Option Field)) → length (take n v.times) ≤ k → fs ≡ made v (take n v.times) k → n ≡ length (row_of v).times
    → line (row_of v).name (texts fs) ≡ line_text (row_of v)
unfolding line_text
made-line v k n fs h e w =
    let told = texts-are v.times n (most_times - k) ∙ ap (map digits) (times-front v n w) in
    rw (e, take_all k (take n v.times) h, told)

-- a well-formed table value
module _ (v : TableValue) (ok : well_formed v ≡ true) where
  -- all lines are the text
  pub lines_are : joined (row_lines v) ≡ table_text (table_of v)
  lines_are =
      let n : min v.len most_rows ≡ length (table_of v) = omega (arith, len_is v ok, len-most v ok) in
      ap (λ (f : ℕ → List ℕ). joined (map f (below (min v.len most_rows)))) (λ i k. line_text (row_is v ok k i))
      ∙ ap (λ n. joined (map (λ k. line_text (row_at (table_of v) k)) (below n))) n ∙ sym (table-lines (table_of v))

-- where there is room

pub length_whole : (bs d : List ℕ) → length bs ≤ length d → length_in bs d ≡ Ok (length bs)
length_whole bs d h = rw (le-leb (length bs) (length d) h)

-- the answers

pub written-bad : (v : TableValue) (d : List ℕ) → well_formed v ≡ false → (written v d ≡ Err BadTable) × (written_into v d ≡ d)
unfolding written written_into
written-bad v d e = (rw e, rw e)

pub written-right : (v : TableValue) (d : List ℕ) → well_formed v ≡ true
    → (written v d ≡ length_in (table_text (table_of v)) d) × (written_into v d ≡ placed (table_text (table_of v)) d)
unfolding written written_into
written-right v d e = (if-true _ _ e, if-true _ _ e)

-- what is made of a right table's lines is the answer and the buffer
pub write_right : (v : TableValue) (d e : List ℕ) (r : Result ℕ Refusal) → well_formed v ≡ true
    → (r ≡ length_in (joined (row_lines v)) d) × (e ≡ placed (joined (row_lines v)) d) → (r ≡ written v d) × (e ≡ written_into v d)
write_right v d e r ok h =
    let w = written-right v d ok in
    let m = rw (lines_are v ok) at h in
    (m.0 ∙ sym w.0, m.1 ∙ sym w.1)

pub written-whole : (v : TableValue) (d : List ℕ) → well_formed v ≡ true → length (table_text (table_of v)) ≤ length d
    → (written v d ≡ Ok (length (table_text (table_of v)))) × (written_into v d ≡ over (table_text (table_of v)) d)
unfolding written written_into
written-whole v d e h = (rw e (length_whole (table_text (table_of v)) d h), rw e (placed-fits (table_text (table_of v)) d h))

-- the two kinds of answers differ, and each tells what it holds

pub bytes_same : (m n : ℕ) → ◌≡◌ {A = Result ℕ Refusal} (Ok m) (Ok n) → m ≡ n
bytes_same m n e = cc

pub refused_none : (why : Refusal) (n : ℕ) → ◌≡◌ {A = Result ℕ Refusal} (Err why) (Ok n) → ⊥
refused_none why n e = let z : ◌≡◌ {A = ℕ} 0 1 = cc in omega arith
