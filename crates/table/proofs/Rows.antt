-- Laws of a row value and of the rows of a table value, as loops go by them.
use mathlib.Core.Path.{◌≡◌, ◌∙◌}
use mathlib.Core.List.{List, [], ◌∷◌, map}
use Prim.Native.Nat.{ℕ, ◌+◌, ◌≤◌, ◌<◌, min}
use native.Mathlib.Omega.{arith}
use lib.Dec.{leb}
use native.Mathlib.Numerals.{add-one}
use lib.ListN.{length, length-take, get_or, take, drop, get_or-map, length-map, drop_of_length-le}
use lib.Seq.{drop-cons, get_or-take}
use borrow.Author.Tests.{le-leb}
use Rattle.ticks.specs.declared.Length.{Length}
use Rattle.words.proofs.Lists.{length-up_to, take-up_to}
use Rattle.words.proofs.Choice.{and-true}
use Rattle.table.specs.declared.Row.{Row as RowValue}
use Rattle.table.specs.Limits.{longest_name, largest_number, most_times}
use Rattle.table.specs.Paper.{right_number}
use Rattle.table.specs.Value.{no_value, row_of}
use Rattle.ticks.specs.Ticks.{ticks, long}

-- a row's times as numbers

pub time-at : (ts : List Length) (i : ℕ) → get_or (map ticks ts) i 0 ≡ (get_or ts i (long 0)).0
time-at ts i = get_or-map ticks ts i (long 0)

pub times-length : (ts : List Length) (n : ℕ) → length ts ≡ n → length (map ticks ts) ≡ n
times-length ts n e = length-map ts ticks ∙ e

-- a number

pub number-some : (n : ℕ) → 1 ≤ n → right_number n ≡ leb n largest_number
unfolding right_number
number-some n h = and-true _ (le-leb 1 n h)

-- how far the name and the times of a value reach
pub name-within : (v : RowValue) → length v.name ≡ longest_name → length (row_of v).name ≤ longest_name
name-within v e = omega (arith, length-up_to 0 v.name)

pub times-within : (v : RowValue) → length v.times ≡ most_times → length (row_of v).times ≤ most_times
times-within v e = omega (arith, length-up_to 0 (map ticks v.times), times-length v.times most_times e)

-- the two halves of a name's bytes, as they are lent
pub name-front : (v : RowValue) (n : ℕ) → n ≡ length (row_of v).name → take n v.name ≡ (row_of v).name
name-front v n e = rw e (take-up_to 0 v.name)

-- the times in use are the first
pub times-front : (v : RowValue) (n : ℕ) → n ≡ length (row_of v).times → take n (map ticks v.times) ≡ (row_of v).times
times-front v n e = rw e (take-up_to 0 (map ticks v.times))

-- the row at i among the first n

pub used-row : (rows : List RowValue) (n i : ℕ) → i < n → i < length rows → drop i (take n rows) ≡ get_or rows i no_value ∷ drop (i + 1) (take n rows)
used-row rows n i h k =
    let l : i < length (take n rows) = rw (length-take n rows) (omega arith) in
    rw (← get_or-take n rows i no_value h, add-one) (drop-cons (take n rows) i no_value l)

pub used-end : (rows : List RowValue) (n i : ℕ) → min n (length rows) ≤ i → drop i (take n rows) ≡ []
used-end rows n i h =
    let l : length (take n rows) ≤ i = rw (length-take n rows) h in
    drop_of_length-le (take n rows) l
