-- No run's text is longer than it may be (`run_fits`): a completion instant is no later than the last tick.
use mathlib.Core.Path.{◌≡◌, refl}
use mathlib.Core.Bool.{true}
use mathlib.Core.List.{List, [], ◌∷◌}
use mathlib.Core.Option.{Option, none, some}
use Prim.Native.Nat.{ℕ, suc, ◌+◌, ◌≤◌}
use native.Mathlib.Omega.{arith}
use native.Mathlib.Nat.{mul-le-mul_right}
use lib.ListN.{length}
use Rattle.words.proofs.Lists.{all-each}
use Rattle.decimal.specs.Decimal.{digits, last_digits}
use Rattle.decimal.proofs.Digits.{length_some, length-grows}
use Rattle.fields.specs.Fields.{line}
use Rattle.fields.proofs.Lines.{fields-none, fields-length, line-length, lines-length}
use Rattle.table.specs.Limits.{longest_name, most_ticks}
use Rattle.table.specs.Paper.{Row, Table, row_at, right_row, right_table}
use Rattle.table.proofs.Rules.{row-name, name-length, table-size, table-right}
use Rattle.kernel.specs.Completion.{completion}
use Rattle.machine.proofs.Completions.{completion-most}
use Rattle.runs.specs.Runs.{instant_text, run_line, run_text, longest_line, longest_run}

-- the most digits of an instant
unfoldable most_digits : ℕ
most_digits = length (digits most_ticks)

-- THE LIMIT ON A LINE is that of its two fields together, each with the byte that ends it
limits-agree : suc longest_name + suc most_digits ≡ longest_line
unfolding most_digits digits last_digits
limits-agree = refl

-- the length of a line of two fields
pub two_fields : (f g : List ℕ) → length (line f (g ∷ [])) ≡ suc (length f) + suc (length g)
two_fields f g = omega (arith, line-length f (g ∷ []), fields-length g [], fields-none)

-- a completion is short, and so is the hyphen of a missing one
instant-short : (o : Option ℕ) → ((c : ℕ) → o ≡ some c → c ≤ most_ticks) → length (instant_text o) ≤ most_digits
unfolding most_digits
instant-short none h = length_some most_ticks
instant-short (some c) h = length-grows most_ticks c (h c refl)

-- A RIGHT ROW'S LINE IS NO LONGER THAN A LINE MAY BE
row_fits : (rows : ℕ → Row) (k n : ℕ) → right_row (rows k) ≡ true → n ≤ most_ticks → length (run_line (rows k) (completion rows k n)) ≤ longest_line
unfolding run_line
row_fits rows k n e h =
    let c = completion rows k n in
    omega (
      arith,
      two_fields (rows k).name (instant_text c),
      (name-length (rows k).name (row-name (rows k) e)).1,
      instant-short c (λ i p. omega (arith, completion-most rows k n i p)),
      limits-agree,
    )

-- THE RUN OF A RIGHT TABLE IS NO LONGER THAN A RUN'S TEXT MAY BE
pub run_fits : (t : Table) (n : ℕ) → right_table t ≡ true → n ≤ most_ticks → length (run_text t n) ≤ longest_run
unfolding run_text
run_fits t n e h =
    let rules = all-each right_row t (table-right t e) in
    omega (
      arith,
      lines-length (λ k. run_line (row_at t k) (completion (row_at t) k n)) longest_line (length t) (λ k lt. row_fits (row_at t) k n (rules k _ lt) h),
      mul-le-mul_right longest_line (table-size t e).1,
    )
