-- `table_figures` meets its contract: the rows passed have their answers, and the verdict is that of the rows passed.
use Rattle.table.specs.Limits.{most_rows}
use Prim.Native.Nat.{ℕ}
use mathlib.Core.Path.{◌≡◌}
use Rattle.words.proofs.Filled.{filled}
use Rattle.table.specs.Paper.{Row}
use Rattle.refusals.specs.declared.Refusal.TheVariants.{NoSuchRow}
use Rattle.figures.specs.Answers.{figures_of}
use Rattle.figures.specs.Work.{rows_of}
use Rattle.refusals.specs.declared.Refusal.{Refusal}
use Rattle.figures.specs.declared.RowFigures.{RowFigures}
use Rattle.std.specs.Prelude.{Result, Ok, Err}
use Rattle.figures.proofs.Tables.{verdict_of}
use Rattle.figures.proofs.table_figures.Given as goal

-- the answer about row k
abbrev pub answer_at : (ℕ → Row) → ℕ → Result RowFigures Refusal
answer_at rows k = Ok (figures_of rows k)

abbrev pub invariant-loop-k : goal.invariant-loop-k
invariant-loop-k l =
    (l.verdict ≡ Ok (verdict_of (rows_of l.t.rows) l.k)) × (l.answers ≡ filled (answer_at (rows_of l.t.rows)) (Err NoSuchRow) most_rows l.k)
