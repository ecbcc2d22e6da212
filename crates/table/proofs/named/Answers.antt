-- `named` meets its contract: the rows that are left decide.
use mathlib.Core.Path.{◌≡◌, refl, sym, ap, ◌∙◌}
use mathlib.Core.Bool.{true, false}
use mathlib.Core.List.{List}
use Prim.Native.Nat.{ℕ, min}
use lib.ListN.{length, take, get_or}
use Rattle.std.proofs.lemmas.List.{take_min}
use Rattle.words.specs.Lists.{same}
use Rattle.words.proofs.Choice.{or-true, or-false}
use Rattle.words.proofs.Lists.{any-at, any_end, same-pointwise}
use Rattle.table.specs.Value.{name_in, no_value}
use Rattle.table.specs.declared.Row.{Row}
use Rattle.table.proofs.named.Goals as goal

-- the slice has the first n rows, all where n is beyond the last
first_rows : (name : List ℕ) (n m : ℕ) (rows : List Row) → m ≡ min n (length rows) → name_in name (take m rows) ≡ name_in name (take n rows)
first_rows name n m rows e = ap (name_in name) (rw e (take_min n rows))

pub loop-row-init : goal.loop-row-init
loop-row-init c = refl

pub returns-then-eq : goal.returns-then-eq
unfolding name_in
returns-then-eq c =
    let l = c.loop-row in
    let a = c.args in
    let s = take c.min.result a.rows.now in
    let e : same a.name (get_or s l.row-index no_value).name ≡ true = sym (same-pointwise _ _) ∙ sym c.eq.ensures ∙ c.if-eq.true in
    sym (sym (first_rows a.name a.n c.min.result a.rows.now c.min.ensures) ∙ l.invariant
    ∙ any-at (λ (v : Row). same a.name v.name) s l.row-index no_value c.loop-row-test.true ∙ or-true _ e)

pub loop-row-preserved : goal.loop-row-preserved
unfolding name_in
loop-row-preserved c =
    let l = c.loop-row in
    let a = c.args in
    let s = take c.min.result a.rows.now in
    let e : same a.name (get_or s l.row-index no_value).name ≡ false = sym (same-pointwise _ _) ∙ sym c.eq.ensures ∙ c.if-eq.false in
    l.invariant ∙ any-at (λ (v : Row). same a.name v.name) s l.row-index no_value c.loop-row-test.true ∙ or-false _ e

pub returns : goal.returns
unfolding name_in
returns c =
    let l = c.loop-row in
    let a = c.args in
    sym (sym (first_rows a.name a.n c.min.result a.rows.now c.min.ensures) ∙ l.invariant
    ∙ any_end (λ (v : Row). same a.name v.name) (take c.min.result a.rows.now) l.row-index c.loop-row-test.false)
