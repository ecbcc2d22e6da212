-- From a well-formed table value to the rows on paper, and the table's verdict and answers, row by row.
use mathlib.Core.Path.{◌≡◌, sym, ap, ◌∙◌}
use mathlib.Core.Bool.{true}
use mathlib.Core.List.{map}
use Prim.Native.Nat.{ℕ, ◌+◌, ◌<◌}
use native.Mathlib.Numerals.{add-one}
use lib.ListN.{length, get_or}
use Rattle.words.specs.Lists.{below}
use Rattle.words.proofs.Filled.{map_below}
use Rattle.table.specs.Paper.{Row, Table, row_at, right_row}
use Rattle.table.specs.Value.{no_value, row_value, table_of, well_formed}
use Rattle.table.specs.declared.Table.{Table as TableValue}
use Rattle.table.proofs.Used.{row_is, value-is, row-right}
use Rattle.verdicts.specs.declared.TableVerdict.{TableVerdict}
use Rattle.recurrence.specs.Figures.{verdict}
use Rattle.figures.specs.Answers.{verdicts, table_verdict}
use Rattle.verdicts.specs.Verdicts.{overall, joined_of}
use Rattle.std.specs.Prelude.{Ok}
use Rattle.verdicts.proofs.Overall.{overall-next}
use Rattle.figures.specs.Work.{rows_of, Kept}

module _ (v : TableValue) (ok : well_formed v ≡ true) where
  -- the rows that the values stand for are those of the table on paper
  pub rows_same : rows_of v.rows ≡ row_at (table_of v)
  rows_same = λ j i. row_is v ok i j

  -- each row in use is kept
  pub row_kept : (i : ℕ) → i < v.len → Kept (get_or v.rows i no_value)
  row_kept i h = record { value = value-is v ok i h ∙ ap row_value (sym (row_is v ok i)); right = ap right_row (row_is v ok i) ∙ row-right v ok i h }

-- the table's verdict after the first n rows
abbrev pub verdict_of : (ℕ → Row) → ℕ → TableVerdict
verdict_of rows n = overall (map (verdict rows) (below n))

pub verdict-next : (rows : ℕ → Row) (n : ℕ) → joined_of (Ok (verdict_of rows n)) (verdict rows n) ≡ Ok (verdict_of rows (n + 1))
verdict-next rows n =
    overall-next (map (verdict rows) (below n)) (verdict rows n) ∙ ap (λ vs. Ok (overall vs)) (sym (map_below (verdict rows) n)) ∙ ap (λ m. Ok (verdict_of rows m)) (sym (add-one n))

pub verdict-whole : (t : Table) (n : ℕ) → n ≡ length t → verdict_of (row_at t) n ≡ table_verdict t
unfolding table_verdict verdicts
verdict-whole t n e = ap (verdict_of (row_at t)) e
