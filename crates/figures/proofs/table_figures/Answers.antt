-- `table_figures` meets its contract: the rows passed have their answers, and the verdict is that of the rows passed.
use Rattle.table.specs.Limits.{most_rows}
use Rattle.words.specs.Lists.{all, below}
use Prim.Native.Nat.{ℕ}
use mathlib.Core.Path.{◌≡◌, refl, sym, ap, ◌∙◌}
use mathlib.Core.Bool.{true}
use native.Mathlib.Omega.{arith}
use lib.ListN.{set}
use Rattle.words.proofs.Choice.{if-true, if-false}
use Rattle.words.proofs.Filled.{filled, fill-next}
use Rattle.table.specs.Paper.{Row, row_at}
use Rattle.table.specs.Value.{table_of, well_formed}
use Rattle.table.specs.declared.Table.{Table as TableValue}
use Rattle.refusals.specs.declared.Refusal.TheVariants.{NoSuchRow}
use Rattle.table.proofs.Used.{len_is, len-most}
use Rattle.figures.specs.Answers.{answers as answers_of, verdicts, table_verdict, table_figures}
use Rattle.verdicts.specs.Verdicts.{joined_of}
use Rattle.figures.specs.Work.{rows_of}
use Rattle.std.specs.Prelude.{Result, Ok, Err}
use Rattle.refusals.specs.declared.Refusal.{Refusal}
use Rattle.verdicts.specs.declared.TableVerdict.{TableVerdict}
use Rattle.figures.specs.declared.RowFigures.{RowFigures}
use Rattle.figures.specs.declared.TableFigures.{TableFigures}
use Rattle.figures.proofs.Tables.{rows_same, row_kept, verdict_of, verdict-next}
use Rattle.figures.proofs.table_figures.Invariants.{answer_at}
use Rattle.figures.proofs.table_figures.Goals as goal

-- the figures after the first n rows
abbrev figures_after : (ℕ → Row) → ℕ → TableFigures
figures_after rows n = record { verdict = verdict_of rows n; rows = filled (answer_at rows) (Err NoSuchRow) most_rows n }

-- a verdict is no refusal
no_refusal : (why : Refusal) (v : TableVerdict) → ◌≡◌ {A = Result TableVerdict Refusal} (Err why) (Ok v) → ⊥
no_refusal why v e = cc

-- all rows have their answers
table_done : (v : TableValue) (n : ℕ) → well_formed v ≡ true → n ≡ v.len → Ok (figures_after (rows_of v.rows) n) ≡ table_figures v
unfolding table_figures answers_of table_verdict verdicts
table_done v n ok e =
    ap (λ (rows : ℕ → Row). Ok (figures_after rows n)) (rows_same v ok)
    ∙ ap (λ m. Ok (figures_after (row_at (table_of v)) m)) (e ∙ len_is v ok) ∙ sym (if-true _ _ ok)

pub returns-then-not-well_formed : goal.returns-then-not-well_formed
unfolding table_figures
returns-then-not-well_formed c = sym (if-false _ _ (sym c.if-not-well_formed.ensures))

pub loop-k-init : goal.loop-k-init
unfolding below all
loop-k-init c = (refl, refl)

pub figures_at-figures-requires : goal.figures_at-figures-requires
figures_at-figures-requires c =
    let ok = sym c.if-not-well_formed.ensures in
    let h = c.loop-k-test.true in
    (omega (arith, len-most c.args.t ok, h), λ i l. row_kept c.args.t ok i (omega (arith, l, h)))

pub offset_bounds-answers-k : goal.offset_bounds-answers-k
offset_bounds-answers-k c = omega (arith, len-most c.args.t (sym c.if-not-well_formed.ensures), c.loop-k-test.true)

pub bounds-answers-k : goal.bounds-answers-k
bounds-answers-k c = omega (arith, len-most c.args.t (sym c.if-not-well_formed.ensures), c.loop-k-test.true)

pub loop-k-preserved : goal.loop-k-preserved
loop-k-preserved c =
    let l = c.loop-k in
    let rows = rows_of c.args.t.rows in
    let f = c.figures_at-figures.ensures in (
      c.joined-verdict.ensures ∙ ap (λ x. joined_of x c.figures_at-figures.result.verdict) l.invariant.0
          ∙ ap (λ (x : RowFigures). joined_of (Ok (verdict_of rows l.k)) x.verdict) f ∙ verdict-next rows l.k,
      ap (λ xs. set xs l.k (Ok c.figures_at-figures.result)) l.invariant.1
          ∙ fill-next (answer_at rows) (Err NoSuchRow) (Ok c.figures_at-figures.result) most_rows l.k
          (omega (arith, len-most c.args.t (sym c.if-not-well_formed.ensures), c.loop-k-test.true)) (ap Ok f),
    )

-- the verdict of the rows passed is one
pub returns : goal.returns
returns c =
    let l = c.loop-k in
    let ok = sym c.if-not-well_formed.ensures in
    let z : ◌≡◌ {A = Result TableVerdict Refusal} (Ok c.in_ok-verdict.field-0) (Ok (verdict_of (rows_of c.args.t.rows) l.k)) = sym c.in_ok-verdict.was ∙ l.invariant.0 in
    let v : c.in_ok-verdict.field-0 ≡ verdict_of (rows_of c.args.t.rows) l.k = cc in
    let e : Ok (record { verdict = c.in_ok-verdict.field-0; rows = l.answers }) ≡ Ok (figures_after (rows_of c.args.t.rows) l.k)
    = λ i. Ok (record { verdict = v i; rows = l.invariant.1 i }) in
    e ∙ table_done c.args.t l.k ok (omega (arith, l.auto.k-end, c.loop-k-test.false))

pub returns-in_err-verdict : goal.returns-in_err-verdict
returns-in_err-verdict c = absurd (no_refusal _ _ (sym c.in_err-verdict.was ∙ c.loop-k.invariant.0))
