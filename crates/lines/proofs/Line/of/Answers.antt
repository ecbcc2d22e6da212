-- `Line::of` meets its contract: as many fields are there as are given and as a line may have.
use mathlib.Core.Path.{◌≡◌, refl, ap, ◌∙◌}
use Prim.Native.Nat.{◌-◌, min}
use native.Mathlib.Omega.{arith}
use lib.ListN.{length}
use Rattle.std.proofs.lemmas.List.{take_min}
use Rattle.std.specs.Prelude.{Some, None}
use Rattle.words.specs.Lists.{up_to}
use Rattle.words.proofs.Filled.{filled_next}
use Rattle.fields.specs.Fields.{line}
use Rattle.lines.specs.declared.Field.TheVariants.{Number}
use Rattle.lines.specs.Lines.{field_text, texts, most_fields}
use Rattle.lines.proofs.Laws.{texts-some}
use mathlib.Core.List.{map}
use lib.ListN.{take}
use Rattle.lines.proofs.Line.of.Goals as goal

pub loop-i-preserved : goal.loop-i-preserved
loop-i-preserved c =
    let fs = c.args.fields.now in
    filled_next Some None fs most_fields c.loop-i.i (Number 0) c.loop-i.behind _ (omega arith) (omega arith) c.loop-i.invariant refl

pub returns : goal.returns
returns c =
    let fs = c.args.fields.now in
    let i = c.loop-i.i in
    let e : i ≡ min most_fields (length fs) = omega arith in
    let l = up_to 0 c.args.head in
    ap (λ bs. line l (texts bs)) c.loop-i.invariant ∙ ap (line l) (texts-some (take i fs) (most_fields - i))
    ∙ ap (λ xs. line l (map field_text xs)) (ap (λ n. take n fs) e ∙ take_min most_fields fs)
