-- `well_formed` meets its contract: its tests together are `well_formed`.
use mathlib.Core.Path.{◌≡◌, sym, ap, ◌∙◌}
use mathlib.Core.Bool.{true, false}
use mathlib.Core.List.{List, []}
use Prim.Native.Nat.{ℕ, ◌-◌, ◌≤◌}
use Rattle.std.specs.List.{list_all}
use Rattle.words.specs.Lists.{all}
use Rattle.table.specs.declared.Row.{Row}
use native.Mathlib.Omega.{arith}
use lib.ListN.{length, take, drop, length-drop}
use lib.Seq.{take_all}
use Rattle.table.specs.Limits.{most_rows}
use Rattle.words.proofs.Choice.{and-true, and-false}
use Rattle.words.proofs.Known.{each_at}
use Rattle.table.specs.Value.{no_value}
use Rattle.words.proofs.Lists.{all-list_all}
use Rattle.rules.specs.Tests.{rows_test, unused}
use Rattle.rules.proofs.Tests.{AllSized, all-sized, size-wrong, tests-are}
use Rattle.table.specs.contracts.Row as row
use Rattle.rules.proofs.well_formed.Goals.{Start}
use Rattle.rules.proofs.well_formed.Goals as goal

-- the arrays of the table have their lengths
rows-length : (s : Start) → length s.args.table.rows ≡ most_rows
rows-length s = s.well_formed.0.1.1.0.1.0.1

sized : (s : Start) → AllSized s.args.table.rows
sized s = all-sized s.args.table.rows λ i h.
    let rs = s.args.table.rows in
    let f = (each_at (row.the_row).own_val rs _ s.well_formed.0.1.1.0.1.1 i no_value h).1 in
    (f.1.1.0.1.0.1, f.1.1.1.1.1.0.1.0.1)

-- the rows behind those in use
rest-unused : (rows : List Row) (n : ℕ) → length rows ≡ most_rows → list_all unused (take (most_rows - n) (drop n rows)) ≡ all unused (drop n rows)
rest-unused rows n l =
    let k : length (drop n rows) ≤ most_rows - n = simp length-drop (omega arith) in
    ap (list_all unused) (take_all (most_rows - n) (drop n rows) k) ∙ all-list_all unused (drop n rows)

pub returns-then-none : goal.returns-then-none
returns-then-none c = sym (size-wrong c.args.table (λ h. omega (arith, h.0, c.if-none.true)))

pub returns-then-len-gt-ROWS : goal.returns-then-len-gt-ROWS
returns-then-len-gt-ROWS c = sym (size-wrong c.args.table (λ h. omega (arith, h.1, c.if-len-gt-ROWS.true)))

pub returns-then-not-rows_right : goal.returns-then-not-rows_right
returns-then-not-rows_right c =
    let s = (goal.at.returns-then-not-rows_right c).Start in
    let e : rows_test [] (take s.args.table.len s.args.table.rows) ≡ false = sym c.rows_right.ensures ∙ c.if-not-rows_right.true in
    sym (and-false _ e) ∙ tests-are s.args.table (rows-length s) (sized s) c.if-none.false c.if-len-gt-ROWS.false

pub returns : goal.returns
returns c =
    let s = (goal.at.returns c).Start in
    let e : rows_test [] (take s.args.table.len s.args.table.rows) ≡ true = sym c.rows_right.ensures
    ∙ c.if-not-rows_right.false in
    c.all_unused.ensures ∙ rest-unused s.args.table.rows s.args.table.len (rows-length s) ∙ sym (and-true _ e)
    ∙ tests-are s.args.table (rows-length s) (sized s) c.if-none.false c.if-len-gt-ROWS.false
