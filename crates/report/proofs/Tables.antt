-- The report of a table value: its lines and its last line, as the code has them, are the report on paper.
use mathlib.Core.Path.{◌≡◌, refl, sym, ap, ◌∙◌}
use mathlib.Core.Bool.{Bool, true, false}
use mathlib.Core.List.{List, [], ◌∷◌, ◌++◌, map}
use Prim.Native.Nat.{ℕ, ◌<◌, min}
use native.Mathlib.Omega.{arith}
use lib.ListN.{length, get_or}
use Rattle.std.specs.Prelude.{Result, Ok, Err}
use Rattle.words.specs.Lists.{below}
use Rattle.words.specs.Buffer.{placed}
use Rattle.words.proofs.Choice.{if-true, if-false}
use Rattle.words.proofs.Filled.{below-same, filled_at}
use Rattle.fields.specs.Fields.{joined}
use Rattle.fields.proofs.Lines.{joined-append}
use Rattle.lines.proofs.Laws.{joined-one}
use Rattle.refusals.specs.declared.Refusal.{Refusal}
use Rattle.refusals.specs.declared.Refusal.TheVariants.{BadTable}
use Rattle.table.specs.Limits.{most_rows}
use Rattle.table.specs.Paper.{Row, Table, row_at}
use Rattle.table.specs.Value.{no_value, row_of, table_of, well_formed}
use Rattle.table.specs.declared.Row.{Row as RowValue}
use Rattle.table.specs.declared.Table.{Table as TableValue}
use Rattle.text.specs.Read.{read_text, reading_of}
use Rattle.text.specs.Write.{length_in}
use Rattle.text.proofs.Back.{reading-accepted, reading-refused}
use Rattle.figures.specs.declared.RowFigures.{RowFigures}
use Rattle.figures.specs.declared.TableFigures.{TableFigures}
use Rattle.figures.specs.Answers.{figures_of, table_verdict, answers, table_figures}
use Rattle.table.proofs.Used.{row_is, len_is, len-most}
use Rattle.refused.specs.Refused.{refused_line}
use Rattle.report.specs.Report.{row_line, last_line, report_text, answer_to, answer_text, reported, reported_into}
use Rattle.report.specs.Parts.{no_answer, answer_line, lines_text, said_line, report_lines}

module _ (v : TableValue) (ok : well_formed v ≡ true) where
  abbrev t : Table
  t = table_of v

  -- line k on paper
  abbrev paper_line : ℕ → List ℕ
  paper_line k = row_line (row_at t k) (figures_of (row_at t) k)

  -- whatever says of each row's figures what its line on paper says, says of all rows what the report on paper does
  module _ (says : RowValue → Result RowFigures Refusal → List ℕ) (same : (w : RowValue) (f : RowFigures) → says w (Ok f) ≡ row_line (row_of w) f)
      (d : Result RowFigures Refusal) where
    line-is : (k : ℕ) → k < v.len → says (get_or v.rows k no_value) (get_or (answers t) k d) ≡ paper_line k
    unfolding answers
    line-is k h =
        ap (says (get_or v.rows k no_value)) (filled_at (λ i. Ok (figures_of (row_at t) i)) (length t) _ d k (omega (arith, len_is v ok)))
        ∙ same (get_or v.rows k no_value) (figures_of (row_at t) k) ∙ ap (λ (r : Row). row_line r (figures_of (row_at t) k)) (row_is v ok k)

    lines_are : joined (map (λ k. says (get_or v.rows k no_value) (get_or (answers t) k d)) (below v.len)) ≡ joined (map paper_line (below (length t)))
    lines_are = ap joined (below-same _ paper_line v.len line-is) ∙ ap (λ n. joined (map paper_line (below n))) (len_is v ok)

  figures-are : table_figures v ≡ Ok (record { verdict = table_verdict t; rows = answers t })
  unfolding table_figures
  figures-are = if-true _ _ ok

  -- what the library's figures are
  figures-in : (f : TableFigures) → Ok f ≡ table_figures v → f ≡ record { verdict = table_verdict t; rows = answers t }
  figures-in f e = let q : ◌≡◌ {A = Result TableFigures Refusal} (Ok f) (Ok (record { verdict = table_verdict t; rows = answers t })) = e ∙ figures-are in cc

  -- a right table is not refused
  pub figures-some : (why : Refusal) → Err why ≡ table_figures v → ⊥
  figures-some why e = let q : ◌≡◌ {A = Result TableFigures Refusal} (Err why) (Ok (record { verdict = table_verdict t; rows = answers t })) = e ∙ figures-are in cc

  -- the lines of the rows, and the last line
  pub report-parts : (f : TableFigures) → Ok f ≡ table_figures v → report_text t ≡ lines_text v.rows f.rows v.len ++ last_line f.verdict
  unfolding report_text
  report-parts f e =
      sym
      (ap (λ (g : TableFigures). lines_text v.rows g.rows v.len ++ last_line g.verdict) (figures-in f e)
      ∙ ap (λ (l : List ℕ). l ++ last_line (table_verdict t)) (lines_are (λ w. answer_line (row_of w)) (λ w g. refl) no_answer))

  -- the same, as the lines that the code has
  pub report-lines : (f : TableFigures) → Ok f ≡ table_figures v → joined (report_lines v f) ≡ report_text t
  unfolding report_text
  report-lines f e =
      let n : min v.len most_rows ≡ v.len = omega (arith, len-most v ok) in
      let says : ℕ → List ℕ = λ k. said_line (get_or v.rows k no_value) (get_or (answers t) k no_answer) in
      let last = last_line (table_verdict t) in
      ap (λ (g : TableFigures). joined (report_lines v g)) (figures-in f e)
      ∙ joined-append (map says (below (min v.len most_rows))) (last ∷ [])
      ∙ ap (λ m. joined (map says (below m)) ++ joined (last ∷ [])) n
      ∙ ap (λ (l : List ℕ). l ++ joined (last ∷ [])) (lines_are said_line (λ w g. refl) no_answer)
      ∙ ap (λ (l : List ℕ). joined (map paper_line (below (length t))) ++ l) (joined-one last)

-- the answers of writing

pub reported-bad : (v : TableValue) (d : List ℕ) → well_formed v ≡ false → (reported v d ≡ Err BadTable) × (reported_into v d ≡ d)
unfolding reported reported_into
reported-bad v d e = (rw e, rw e)

pub reported-right : (v : TableValue) (d : List ℕ) → well_formed v ≡ true
    → (reported v d ≡ length_in (report_text (table_of v)) d) × (reported_into v d ≡ placed (report_text (table_of v)) d)
unfolding reported reported_into
reported-right v d e = (if-true _ _ e, if-true _ _ e)

-- the answer follows the figures: they are there where the table is right, and it is refused as they are
pub figures-right : (v : TableValue) (f : TableFigures) → Ok f ≡ table_figures v → well_formed v ≡ true
unfolding table_figures
figures-right v f e = go (well_formed v) refl
  where
    go : (b : Bool) → well_formed v ≡ b → well_formed v ≡ true
    go true p = p
    go false p = let q : ◌≡◌ {A = Result TableFigures Refusal} (Ok f) (Err BadTable) = e ∙ if-false _ _ p in cc

pub reported-refused : (v : TableValue) (why : Refusal) (d : List ℕ) → Err why ≡ table_figures v → (reported v d ≡ Err why) × (reported_into v d ≡ d)
unfolding table_figures
reported-refused v why d e = go (well_formed v) refl
  where
    go : (b : Bool) → well_formed v ≡ b → (reported v d ≡ Err why) × (reported_into v d ≡ d)
    go true p = absurd (figures-some v p why e)
    go false p =
        let q : ◌≡◌ {A = Result TableFigures Refusal} (Err why) (Err BadTable) = e ∙ if-false _ _ p in
        let w : BadTable ≡ why = cc in
        let r = reported-bad v d p in
        (r.0 ∙ ap Err w, r.1)

-- what was read is answered

-- a reading that was accepted
pub read-accepted : (s : List ℕ) (v : TableValue) → Ok v ≡ reading_of (read_text s)
    → (well_formed v ≡ true) × (answer_text s ≡ report_text (table_of v))
unfolding answer_text
read-accepted s v e =
    let a = reading-accepted s v e in
    (a.0, ap answer_to a.1)

-- and one that was refused
pub read-refused : (s : List ℕ) (x : Refusal) → Err x ≡ reading_of (read_text s) → answer_text s ≡ refused_line x
unfolding answer_text
read-refused s x e = ap answer_to (reading-refused s x e)
