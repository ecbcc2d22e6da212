-- What an answer about a row says of the question: the table is well-formed, and the row is there.
use Rattle.std.specs.Prelude.{Result, Ok, Err, if◌then◌else◌}
use mathlib.Core.Path.{◌≡◌, refl, ◌∙◌}
use mathlib.Core.Bool.{Bool, true, false}
use Prim.Native.Nat.{ℕ, ◌-◌, ◌≤◌, ◌<◌}
use native.Mathlib.Omega.{arith}
use lib.Dec.{leb}
use lib.ListN.{length}
use borrow.Author.Tests.{leb-true, le-leb}
use Rattle.words.specs.Choice.{◌and◌}
use Rattle.words.proofs.Choice.{if-true, and_parts, and_both}
use Rattle.refusals.specs.declared.Refusal.{Refusal}
use Rattle.refusals.specs.declared.Refusal.TheVariants.{BadTable, NoSuchRow}
use Rattle.table.specs.Paper.{row_at, right_row, right_table}
use Rattle.table.specs.Value.{table_of, well_formed}
use Rattle.table.specs.declared.Table.{Table as TableValue}
use Rattle.table.proofs.Rules.{value-forth}
use Rattle.figures.specs.declared.RowFigures.{RowFigures}
use Rattle.figures.specs.Answers.{row_answer, figures_of}
use Rattle.promises.specs.Demands.{Told}
use Rattle.promises.proofs.Fits.{rules}

pub record Asked (v : TableValue) (n : ℕ) (a : RowFigures) : Type 0 where
  pub good : well_formed v ≡ true
  pub first : 1 ≤ n
  pub last : n ≤ length (table_of v)
  pub is : a ≡ figures_of (row_at (table_of v)) (n - 1)

never : {A : Type 0} → ◌≡◌ {A = ℕ} 0 1 → A
never e = absurd (omega arith)

pub asked : (v : TableValue) (n : ℕ) (a : RowFigures) → Told v n a → Asked v n a
unfolding row_answer
asked v n a = go (well_formed v) refl (leb 1 n and leb n (length (table_of v))) refl
  where
    go : (b : Bool) → well_formed v ≡ b → (c : Bool) → (leb 1 n and leb n (length (table_of v))) ≡ c
        → ◌≡◌ {A = Result RowFigures Refusal} (if b then (if c then Ok (figures_of (row_at (table_of v)) (n - 1)) else Err NoSuchRow) else Err BadTable) (Ok a) → Asked v n a
    go true p true q e =
        record { good = p; first = leb-true 1 n (and_parts q).0; last = leb-true n (length (table_of v)) (and_parts q).1; is = cc }
    go true p false q e = never (cc)
    go false p c q e = never (cc)

pub told : (v : TableValue) (n : ℕ) → well_formed v ≡ true → 1 ≤ n → n ≤ length (table_of v) → Told v n (figures_of (row_at (table_of v)) (n - 1))
unfolding row_answer
told v n p h l = if-true _ _ p ∙ if-true _ _ (and_both (le-leb 1 n h) (le-leb n (length (table_of v)) l))

module _ (v : TableValue) (n : ℕ) (a : RowFigures) (q : Asked v n a) where
  pub right-table : right_table (table_of v) ≡ true
  right-table = (value-forth v q.good).1

  pub there : n - 1 < length (table_of v)
  there = omega (arith, q.first, q.last)

  -- row n and the rows above it are right
  pub right-rows : (i : ℕ) → i ≤ n - 1 → right_row (row_at (table_of v) i) ≡ true
  right-rows = rules (table_of v) right-table (n - 1) there
