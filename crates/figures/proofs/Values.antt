-- Row values that keep their rules, as the code takes them apart.
use mathlib.Core.Path.{◌≡◌, refl, sym, ap, ◌∙◌}
use mathlib.Core.List.{List, [], ◌∷◌, map}
use Prim.Native.Nat.{ℕ, ◌≤◌, ◌<◌}
use native.Mathlib.Omega.{arith}
use lib.ListN.{length, get_or}
use lib.Seq.{get_or-take}
use Rattle.std.specs.List.{sum_by}
use Rattle.std.proofs.lemmas.List.Sums.{sum_by-cons}
use Rattle.ticks.specs.declared.Length.{Length}
use Rattle.words.specs.Lists.{sum, padded, up_to}
use Rattle.words.proofs.Lists.{sum-padded, length-padded, take-up_to}
use Rattle.table.specs.Limits.{most_times}
use Rattle.table.specs.Paper.{parts, work}
use Rattle.table.specs.Value.{row_of}
use Rattle.ticks.specs.Ticks.{ticks}
use Rattle.table.specs.declared.Row.{Row as RowValue}
use Rattle.table.proofs.Rules.{ticks-long, row_count, row-sum, row-period, row-deadline, number-range, count_most}
use Rattle.recurrence.specs.Figures.{own}
use Rattle.figures.specs.Count.{safe_number}
use Rattle.figures.specs.Work.{Kept}
use Rattle.recurrence.proofs.Rows.{sane, parts-sum, work-total, work-padded}

-- the times of a value, with the zeros behind them
pub kept-times : (v : RowValue) → Kept v → map ticks v.times ≡ padded most_times (row_of v).times
kept-times v k = ap (λ (w : RowValue). map ticks w.times) k.value ∙ ticks-long (padded most_times (row_of v).times)

-- as many as a row may have
pub kept-size : (v : RowValue) → Kept v → length (map ticks v.times) ≡ most_times
kept-size v k = ap length (kept-times v k) ∙ length-padded most_times (row_of v).times (count_most (length (row_of v).times) (row_count (row_of v) k.right))

-- all C, with the zeros or without
pub work_kept : (v : RowValue) → Kept v → work (parts (map ticks v.times)) ≡ work (parts (row_of v).times)
work_kept v k = ap (λ ts. work (parts ts)) (kept-times v k) ∙ work-padded (row_of v).times most_times (sane (row_of v) k.right).odd

-- all numbers of a right row are safe
pub deadline-safe : (v : RowValue) → Kept v → v.deadline.0 ≤ safe_number
deadline-safe v k = omega (arith, (number-range (row_of v).deadline (row-deadline (row_of v) k.right)).1)

pub sum-safe : (v : RowValue) → Kept v → sum (map ticks v.times) ≤ v.deadline.0
sum-safe v k = rw (kept-times v k, sum-padded most_times (row_of v).times) (row-sum (row_of v) k.right)

-- lengths added
pub sum-ticks : (ts : List Length) → sum_by (λ (x : Length). x.0) ts ≡ sum (map ticks ts)
unfolding sum
sum-ticks [] = refl
sum-ticks (t ∷ ts) = omega (arith, sum_by-cons (λ (x : Length). x.0) t ts, sum-ticks ts)

-- all C and S, as the code adds them
pub own_is : (v : RowValue) → Kept v → sum (map ticks v.times) ≡ own (row_of v)
own_is v k = ap sum (kept-times v k) ∙ sum-padded most_times (row_of v).times ∙ sym (parts-sum (row_of v).times (sane (row_of v) k.right).odd)

-- a time in use, with the zeros behind them or without
pub time-used : (ts : List Length) (j : ℕ) → j < length (up_to 0 (map ticks ts)) → get_or (map ticks ts) j 0 ≡ get_or (up_to 0 (map ticks ts)) j 0
time-used ts j h =
    sym (get_or-take (length (up_to 0 (map ticks ts))) (map ticks ts) j 0 h) ∙ ap (λ (l : List ℕ). get_or l j 0) (take-up_to 0 (map ticks ts))

-- all C are at most D, and so safe
pub work-fits : (v : RowValue) → Kept v → work (parts (row_of v).times) ≤ v.deadline.0
work-fits v k = omega (arith, work-total (parts (row_of v).times), (sane (row_of v) k.right).own-fits)

pub period-safe : (v : RowValue) → Kept v → v.period.0 ≤ safe_number
period-safe v k = omega (arith, (number-range (row_of v).period (row-period (row_of v) k.right)).1)
