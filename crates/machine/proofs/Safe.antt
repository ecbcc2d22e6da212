-- In a full run of a well-formed table no sum leaves 64 bits, and each place is one of the row's.
use mathlib.Core.Path.{◌≡◌, sym, subst}
use mathlib.Core.Bool.{true}
use Prim.Native.Nat.{ℕ, ◌+◌, ◌≤◌, ◌<◌}
use native.Mathlib.Omega.{arith}
use native.Mathlib.Decide.{dec_le}
use lib.ListN.{length, get_or, get_or-eq_default}
use Rattle.words.proofs.Lists.{all-each}
use Rattle.table.specs.Limits.{most_ticks, largest_number}
use Rattle.table.specs.Paper.{Row, row_at, right_number, right_row}
use Rattle.table.specs.Value.{no_value, table_of, well_formed}
use Rattle.table.specs.declared.Table.{Table as TableValue}
use Rattle.table.proofs.Rules.{row-period, row-times, number-range}
use Rattle.table.proofs.Used.{len-most, row-right}
use Rattle.machine.specs.Tick.{rows_of, cell_at, run_of}
use Rattle.ticks.specs.Ticks.{instant}
use Rattle.machine.specs.Safe.{Fits, Safe, SafeRun}
use Rattle.machine.proofs.Plan.{count-is, planned}
use Rattle.machine.proofs.Link.{run-now, stands}

time-most : (r : Row) → right_row r ≡ true → (j : ℕ) → get_or r.times j 0 ≤ largest_number
time-most r right j = go (dec_le (length r.times) j)
  where
    go : Dec (length r.times ≤ j) → get_or r.times j 0 ≤ largest_number
    go (yes le) = omega (arith, get_or-eq_default r.times 0 le)
    go (no lt) = (number-range (get_or r.times j 0) (all-each right_number r.times (row-times r right) j 0 (omega arith))).1

module _ (v : TableValue) (ok : well_formed v ≡ true) (n : ℕ) (few : n < most_ticks) where
  fits : (k : ℕ) → k < v.len → Fits (instant (n + 1)) (get_or (rows_of v) k no_value) (cell_at (run_of v n) k)
  fits k h =
      let r = row_at (table_of v) k in
      let c = cell_at (run_of v n) k in
      let m = stands v ok n k h in
      let p = planned v ok k h in
      let T : r.period ≤ largest_number = (number-range r.period (row-period r (row-right v ok k h))).1 in
      record {
        place = omega (arith, m.stands.placed, p.short);
        next = omega (arith, p.turn, m.near, m.stands.due);
        wait = omega (arith, p.times (c.place + 1), time-most r (row-right v ok k h) (c.place + 1));
      }

  safe : Safe (run_of v n) (rows_of v)
  safe =
      record {
        few = omega (arith, count-is v ok, len-most v ok);
        later = omega (arith, run-now v n);
        fits = λ k h. subst (λ i. Fits (instant (i + 1)) (get_or (rows_of v) k no_value) (cell_at (run_of v n) k)) (sym (run-now v n)) (fits k (omega (arith, count-is v ok)));
      }

-- A FULL RUN IS SAFE
pub safe-run : (v : TableValue) → well_formed v ≡ true → (ticks : ℕ) → ticks ≤ most_ticks → SafeRun (rows_of v) ticks
safe-run v ok ticks h = record { few = omega (arith, count-is v ok, len-most v ok); each = λ k l. safe v ok k (omega arith) }
