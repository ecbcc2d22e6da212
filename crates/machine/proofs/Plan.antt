-- The rows of a well-formed table: of each the times and the period, as the row has them on paper.
use mathlib.Core.Path.{◌≡◌, refl, ◌∙◌, ap}
use mathlib.Core.Bool.{true}
use mathlib.Core.List.{List, ◌++◌}
use Prim.Native.Nat.{ℕ, ◌-◌, ◌%◌, ◌≤◌, ◌<◌}
use native.Mathlib.Omega.{arith}
use borrow.Author.Tests.{eqb-true}
use lib.ListN.{length, get_or, replicate, get_or-map}
use lib.Seq.{get_or-take, length-take-le}
use Rattle.words.specs.Lists.{padded}
use Rattle.std.proofs.lemmas.List.{places}
use Rattle.words.proofs.Choice.{and_parts}
use Rattle.words.proofs.Lists.{all-each}
use Rattle.table.specs.Limits.{most_times}
use Rattle.table.specs.Paper.{Row, row_at, right_number, right_count, right_row}
use Rattle.table.specs.Value.{no_value, table_of, row_value, well_formed}
use Rattle.ticks.specs.Ticks.{long}
use Rattle.table.specs.declared.Table.{Table as TableValue}
use Rattle.table.proofs.Used.{len-most, rows-length, value-is, row-right}
use Rattle.table.proofs.Rules.{row-period, row_count, row-times, number-range, count_most}
use Rattle.machine.specs.Tick.{time_at, rows_of}
use Rattle.machine.proofs.Mirror.{Planned}

-- padding changes no time
padded-at : (ts : List ℕ) (m j : ℕ) → get_or (ts ++ replicate m 0) j 0 ≡ get_or ts j 0
padded-at ts m j = grind (arith, places)

-- at least one time
count-some : (n : ℕ) → right_count n ≡ true → 1 ≤ n
unfolding right_count
count-some n e = grind (arith, eqb-true (n % 2) 1 (and_parts e).0)

module _ (r : Row) (right : right_row r ≡ true) where
  time-is : (j : ℕ) → time_at (row_value r) j ≡ get_or r.times j 0
  unfolding padded
  time-is j = ap (λ l. l.0) (get_or-map long (padded most_times r.times) j 0) ∙ padded-at r.times (most_times - length r.times) j

  value-planned : Planned r (row_value r)
  value-planned =
      record {
        period = (number-range r.period (row-period r right)).0;
        some-time = count-some (length r.times) (row_count r right);
        short = count_most (length r.times) (row_count r right);
        no_zero = λ j h. (number-range (get_or r.times j 0) (all-each right_number r.times (row-times r right) j 0 h)).0;
        times = time-is;
        turn = refl;
      }

module _ (v : TableValue) (ok : well_formed v ≡ true) where
  pub count-is : length (rows_of v) ≡ v.len
  count-is = length-take-le v.len v.rows (omega (arith, rows-length v ok, len-most v ok))

  pub planned : (k : ℕ) → k < v.len → Planned (row_at (table_of v) k) (get_or (rows_of v) k no_value)
  planned k h = rw (get_or-take v.len v.rows k no_value h ∙ value-is v ok k h) (value-planned (row_at (table_of v) k) (row-right v ok k h))
