-- Lines as values, and what writing them gives.
use Rattle.std.specs.Prelude.{Option, Some, None, Result, Ok, Err, List, [], ◌∷◌, ℕ, leb, length, if◌then◌else◌}
use Rattle.words.specs.Lists.{up_to}
use Rattle.words.specs.Spelled.{spelled}
use Rattle.decimal.specs.Decimal.{digits}
use Rattle.fields.specs.Fields.{line}
use Rattle.refusals.specs.declared.Refusal.{Refusal}
use Rattle.refusals.specs.declared.Refusal.TheVariants.{NoRoom}
use Rattle.lines.specs.declared.Field.{Field}
use Rattle.lines.specs.declared.Field.TheVariants.{Number, Fits, Misses, Open, Hyphen}
use Rattle.lines.specs.declared.Line.{Line}

-- the bytes of a field
abbrev pub field_text : Field → List ℕ
field_text (Number n) = digits n
field_text Fits = spelled "fits"
field_text Misses = spelled "misses"
field_text Open = spelled "open"
field_text Hyphen = spelled "-"

-- the most fields of a line behind its first
abbrev pub most_fields : ℕ
most_fields = 9

-- a number, or a hyphen where there is none
abbrev pub field_of : Option ℕ → Field
field_of (Some n) = Number n
field_of None = Hyphen

-- the bytes of the fields that are there
abbrev pub texts : List (Option Field) → List (List ℕ)
texts [] = []
texts (Some f ∷ fs) = field_text f ∷ texts fs
texts (None ∷ fs) = texts fs

-- the bytes of a line: its first field ends at the first zero
abbrev pub line_of : Line → List ℕ
line_of l = line (up_to 0 l.head) (texts l.fields)

-- the length of what is to be put into a buffer; 22 where it is too short
abbrev pub length_in : List ℕ → List ℕ → Result ℕ Refusal
length_in bs d = if leb (length bs) (length d) then Ok (length bs) else Err NoRoom
