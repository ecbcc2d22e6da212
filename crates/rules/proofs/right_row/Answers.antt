-- `right_row` meets its contract: its tests joined are `right_value`.
use mathlib.Core.Path.{◌≡◌, sym, ap, ◌∙◌}
use mathlib.Core.Bool.{Bool, not}
use Prim.Native.Nat.{ℕ, ◌≤◌}
use lib.Dec.{leb}
use Rattle.words.specs.Choice.{◌and◌}
use native.Mathlib.Omega.{arith}
use lib.ListN.{length}
use lib.Seq.{length-take-le}
use Rattle.table.specs.Limits.{longest_name, most_times}
use Rattle.table.specs.Paper.{right_name, right_number}
use Rattle.table.specs.Value.{row_of}
use Rattle.table.proofs.Rows.{name-within, times-within, name-front}
use Rattle.words.specs.Lists.{is_zero}
use Rattle.words.proofs.Lists.{all-list_all}
use Rattle.rules.proofs.Rows.{times-first, times-rest, name_back, row-tests}
use borrow.Author.Rules.{rules}
use Rattle.rules.proofs.right_row.Goals.{Start}
use Rattle.rules.proofs.right_row.Goals as goal

-- the row's arrays have their lengths, so the name and the times lie within them
name-size : (s : Start) → length s.args.row.name ≡ longest_name
name-size s = search rules

times-size : (s : Start) → length s.args.row.times ≡ most_times
times-size s = s.well_formed.0.1.1.1.1.1.0.1.0.1

name-fits : (s : Start) (n : ℕ) → n ≡ length (row_of s.args.row).name → n ≤ longest_name
name-fits s n e = omega (arith, name-within s.args.row (name-size s))

times-fit : (s : Start) (n : ℕ) → n ≡ length (row_of s.args.row).times → n ≤ most_times
times-fit s n e = omega (arith, times-within s.args.row (times-size s))

pub slice_bounds-name-end : goal.slice_bounds-name-end
slice_bounds-name-end c =
    let h = name-fits (goal.at.slice_bounds-name-end c).Start _
    c.name_len-len.ensures in
    let l = name-size (goal.at.slice_bounds-name-end c).Start in
    omega arith

pub slice_bounds-right_name-end : goal.slice_bounds-right_name-end
slice_bounds-right_name-end c =
    let h = name-fits (goal.at.slice_bounds-right_name-end c).Start _
    c.name_len-len.ensures in
    let l = name-size (goal.at.slice_bounds-right_name-end c).Start in
    sym (length-take-le _ _ (omega arith))

pub slice_bounds-unused-count : goal.slice_bounds-unused-count
slice_bounds-unused-count c = name-fits (goal.at.slice_bounds-unused-count c).Start _ c.name_len-len.ensures

pub slice_bounds-unused-start : goal.slice_bounds-unused-start
slice_bounds-unused-start c =
    let h = name-fits (goal.at.slice_bounds-unused-start c).Start _ c.name_len-len.ensures in
    search rules

pub slice_bounds-unused-end : goal.slice_bounds-unused-end
slice_bounds-unused-end c =
    let h : longest_name ≤ length c.args.row.name
    = omega (arith, name-size (goal.at.slice_bounds-unused-end c).Start) in
    h

pub slice_bounds-times-end : goal.slice_bounds-times-end
slice_bounds-times-end c =
    let h = times-fit (goal.at.slice_bounds-times-end c).Start _ c.count-count.ensures in
    let l = times-size (goal.at.slice_bounds-times-end c).Start in
    omega arith

pub slice_bounds-right_times-end : goal.slice_bounds-right_times-end
slice_bounds-right_times-end c =
    let h = times-fit (goal.at.slice_bounds-right_times-end c).Start _ c.count-count.ensures in
    let l = times-size (goal.at.slice_bounds-right_times-end c).Start in
    sym (length-take-le _ _ (omega arith))

pub offset_bounds-times-count : goal.offset_bounds-times-count
offset_bounds-times-count c =
    let h = times-fit (goal.at.offset_bounds-times-count c).Start _ c.count-count.ensures in
    let l = times-size (goal.at.offset_bounds-times-count c).Start in
    search rules

pub slice_bounds-unused-count-2 : goal.slice_bounds-unused-count-2
slice_bounds-unused-count-2 c =
    let h = times-fit (goal.at.slice_bounds-unused-count-2 c).Start _ c.count-count.ensures in
    let l = times-size (goal.at.slice_bounds-unused-count-2 c).Start in
    h

pub slice_bounds-unused-start-2 : goal.slice_bounds-unused-start-2
slice_bounds-unused-start-2 c =
    let h = times-fit (goal.at.slice_bounds-unused-start-2 c).Start _ c.count-count.ensures in
    let l = times-size (goal.at.slice_bounds-unused-start-2 c).Start in
    search rules

pub returns : goal.returns
returns c =
    let s = (goal.at.returns c).Start in
    let n = c.name_len-len in
    let front = c.right_name.ensures
    ∙ ap right_name (name-front s.args.row n.result n.ensures) in
    let back = c.unused.ensures ∙ all-list_all is_zero _ ∙ name_back s.args.row n.result (name-size s) n.ensures in
    let le : c.le.result ≡ leb s.args.row.deadline.0 s.args.row.period.0 = search rules in
    c.both-4.ensures
    ∙ row-tests s.args.row c.count-count.result c.count-count.ensures c.too_long.ensures (c.both-lengths.ensures ∙ ap (λ (z : Bool). z and not c.too_long.result) le)
    (c.right_times.ensures ∙ times-first right_number s.args.row.times c.count-count.result)
    c.both.ensures
    c.right_count.ensures c.both-timed.ensures
    c.right_number-2.ensures
    c.both-2.ensures
    c.right_number.ensures
    c.both-numbers.ensures
    front c.both-right.ensures (c.unused-2.ensures ∙ times-rest is_zero s.args.row.times c.count-count.result most_times (times-size s)) c.both-3.ensures back
