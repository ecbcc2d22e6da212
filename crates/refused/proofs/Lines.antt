-- The line of a refusal: its place, and its length.
use mathlib.Core.Path.{◌≡◌}
use mathlib.Core.List.{[], ◌∷◌, ◌++◌}
use Prim.Native.Nat.{◌+◌, ◌≤◌, ◌<◌}
use native.Mathlib.Omega.{arith}
use borrow.Author.Tests.{le-leb, lt-leb}
use lib.ListN.{length}
use Rattle.words.specs.Spelled.{spelled}
use Rattle.words.proofs.Choice.{if-true, if-false}
use Rattle.decimal.specs.Decimal.{digits}
use Rattle.fields.specs.Fields.{line_feed, fields_text}
use Rattle.fields.proofs.Lines.{fields-length, line-length, line-parts}
use Rattle.refusals.specs.declared.Refusal.{Refusal}
use Rattle.refusals.specs.Refusals.{number_of, line_of, field_of}
use Rattle.refused.specs.Refused.{place_of, refused_line}

-- a refusal has a place, or none

pub place_none : (why : Refusal) → 20 ≤ number_of why → place_of why ≡ []
place_none why h = if-true _ _ (le-leb 20 (number_of why) h)

pub place-there : (why : Refusal) → number_of why < 20 → place_of why ≡ digits (line_of why) ∷ digits (field_of why) ∷ []
place-there why h = if-false _ _ (lt-leb 20 (number_of why) h)

pub refused-parts : (why : Refusal) → refused_line why ≡ spelled "refused" ++ fields_text (digits (number_of why) ∷ []) ++ fields_text (place_of why) ++ (line_feed ∷ [])
unfolding refused_line
refused-parts why = line-parts (spelled "refused") (digits (number_of why) ∷ []) (place_of why)

pub refused-length : (why : Refusal) → length (refused_line why) ≡ 9 + length (digits (number_of why)) + length (fields_text (place_of why))
unfolding refused_line
refused-length why = omega (arith, line-length (spelled "refused") (digits (number_of why) ∷ place_of why), fields-length (digits (number_of why)) (place_of why))
