-- `row_figures` meets its contract.
use Rattle.std.specs.Prelude.{Ok, Err}
use Rattle.table.specs.declared.Table.{Table as TableValue}
use Rattle.refusals.specs.declared.Refusal.TheVariants.{NoSuchRow}
use mathlib.Core.Path.{◌≡◌, sym, ap, ◌∙◌}
use mathlib.Core.Bool.{true}
use mathlib.Core.Logic.{◌⊎◌, inl, inr}
use Prim.Native.Nat.{ℕ, ◌-◌, ◌≤◌, ◌<◌}
use native.Mathlib.Omega.{arith}
use borrow.Author.Tests.{le-leb, lt-leb}
use lib.ListN.{length}
use Rattle.words.proofs.Choice.{if-true, if-false, and_both, and-false, and-last-false}
use Rattle.table.specs.Paper.{Row, row_at}
use Rattle.table.specs.Value.{table_of, well_formed}
use Rattle.table.proofs.Used.{len_is, len-most}
use Rattle.figures.specs.Answers.{figures_of, row_answer}
use Rattle.figures.proofs.Tables.{rows_same, row_kept}
use Rattle.figures.proofs.row_figures.Goals as goal

-- the answers about a well-formed table
no_row : (v : TableValue) (n : ℕ) → well_formed v ≡ true → (n < 1) ⊎ ((1 ≤ n) × (v.len < n)) → row_answer v n ≡ Err NoSuchRow
unfolding row_answer
no_row v n ok (inl h) = if-true _ _ ok ∙ if-false _ _ (and-false _ (lt-leb 1 n h))
no_row v n ok (inr h) = if-true _ _ ok ∙ if-false _ _ (and-last-false _ (lt-leb n (length (table_of v)) (omega (arith, h.1, len_is v ok))))

row-there : (v : TableValue) (n : ℕ) → well_formed v ≡ true → 1 ≤ n → n ≤ v.len → row_answer v n ≡ Ok (figures_of (row_at (table_of v)) (n - 1))
unfolding row_answer
row-there v n ok l h = if-true _ _ ok ∙ if-true _ _ (and_both (le-leb 1 n l) (le-leb n (length (table_of v)) (omega (arith, len_is v ok))))

pub figures_at-requires : goal.figures_at-requires
figures_at-requires c =
    let ok = sym c.if-not-well_formed.ensures in
    let h = c.if-t-number.false in
    (omega (arith, len-most c.args.t ok, h.0, h.1), λ i l. row_kept c.args.t ok i (omega (arith, l, h.0, h.1)))

pub returns-then-not-well_formed : goal.returns-then-not-well_formed
unfolding row_answer
returns-then-not-well_formed c = sym (if-false _ _ (sym c.if-not-well_formed.ensures))

pub returns-then-t-number : goal.returns-then-t-number
returns-then-t-number c = sym (no_row _ _ (sym c.if-not-well_formed.ensures) c.if-t-number.either)

pub returns-else-t-number : goal.returns-else-t-number
returns-else-t-number c =
    let ok = sym c.if-not-well_formed.ensures in
    let h = c.if-t-number.false in
    ap Ok (c.figures_at.ensures ∙ ap (λ (rows : ℕ → Row). figures_of rows (c.args.number - 1)) (rows_same c.args.t ok))
    ∙ sym (row-there c.args.t c.args.number ok h.0 h.1)
