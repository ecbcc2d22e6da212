-- The line of a refusal: document 01, 'The report'.
use Rattle.std.specs.Prelude.{List, [], ◌∷◌, ℕ, leb, if◌then◌else◌}
use Rattle.words.specs.Spelled.{spelled}
use Rattle.decimal.specs.Decimal.{digits}
use Rattle.fields.specs.Fields.{line}
use Rattle.refusals.specs.declared.Refusal.{Refusal}
use Rattle.refusals.specs.Refusals.{number_of, line_of, field_of}

-- where the text was refused: line and field; 20 to 23 have no place
abbrev pub place_of : Refusal → List (List ℕ)
place_of why = if leb 20 (number_of why) then [] else digits (line_of why) ∷ digits (field_of why) ∷ []

-- the line of a refusal: "refused", number, and where there is a place line and field
unfoldable pub refused_line : Refusal → List ℕ
refused_line why = line (spelled "refused") (digits (number_of why) ∷ place_of why)
