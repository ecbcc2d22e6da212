-- `line` meets its contract: a refusal has a place, or none.
use mathlib.Core.Path.{◌≡◌}
use mathlib.Core.List.{[]}
use native.Mathlib.Omega.{arith}
use Rattle.words.specs.Lists.{up_to}
use Rattle.refused.specs.Refused.{place_of, refused_line}
use Rattle.refused.proofs.Lines.{place_none, place-there}
use Rattle.refused.proofs.line.Goals as goal

pub returns-then-number-ge-NO_PLACE : goal.returns-then-number-ge-NO_PLACE
unfolding up_to refused_line
returns-then-number-ge-NO_PLACE c =
    let why = c.args.why in
    let p : place_of why ≡ [] = place_none why (omega arith) in
    rw (p, ← c.number-number.ensures) c.of.ensures

pub returns : goal.returns
unfolding up_to refused_line
returns c =
    let why = c.args.why in
    let p = place-there why (omega arith) in
    rw (p, ← c.number-number.ensures, ← c.line-line.ensures, ← c.field-field.ensures) c.of-2.ensures
