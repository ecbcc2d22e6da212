-- `write_word` meets its contract: the word stands behind the tab.
use mathlib.Core.Path.{refl, sym, ◌∙◌}
use mathlib.Core.List.{◌∷◌}
use Prim.Native.Nat.{◌+◌, ◌≤◌}
use native.Mathlib.Omega.{arith}
use lib.ListN.{length, set, length-set}
use Rattle.words.proofs.Buffer.{copied, placed-fits, placed-short, fitted-fits, fitted_short}
use Rattle.words.proofs.Put.{Put, spliced, put_first, put-part, put-room}
use Rattle.fields.specs.Fields.{tab}
use Rattle.fields.proofs.write_word.Goals.{After-slice_known-2-1}
use Rattle.fields.proofs.write_word.Goals as goal

-- the buffer after the tab and the word
final : (c : After-slice_known-2-1)
    → Put (tab ∷ c.args.word.now) c.args.out.now (spliced (set c.args.out.now 0 tab) 1 c.copy.new.to) (1 + c.copy.result)
final c =
    let w = c.args.word.now in
    put-part w _ _ (put_first c.args.out.now tab (omega arith)) (omega (arith, c.if-out-word.false)) (c.copy.ensures.0, c.copy.ensures.1 ∙ copied w _ (length w) refl)

pub returns-then-out-word : goal.returns-then-out-word
returns-then-out-word c =
    let w = tab ∷ c.args.word.now in
    (sym (fitted_short w c.args.out.now (omega (arith, c.if-out-word.true))), sym (placed-short w c.args.out.now (omega (arith, c.if-out-word.true))))

pub slice_bounds-copy-count : goal.slice_bounds-copy-count
slice_bounds-copy-count c = simp length-set (omega (arith, c.if-out-word.false))

pub slice_bounds-copy-start : goal.slice_bounds-copy-start
slice_bounds-copy-start c = simp length-set (omega (arith, c.if-out-word.false))

pub copy-requires : goal.copy-requires
copy-requires c =
    put-room (length c.args.word.now) (put_first c.args.out.now tab (omega (arith, c.if-out-word.false))) (omega (arith, c.if-out-word.false))

pub overflow_add-result : goal.overflow_add-result
overflow_add-result c = omega (arith, (final c).end, c.if-out-word.false, c.well_formed)

pub shape_of-out : goal.shape_of-out
shape_of-out c = (final c).kept

pub returns : goal.returns
returns c =
    let w = tab ∷ c.args.word.now in
    let h : length w ≤ length c.args.out.now = omega (arith, c.if-out-word.false) in
    ((final c).end ∙ sym (fitted-fits w c.args.out.now h), (final c).front ∙ sym (placed-fits w c.args.out.now h))
