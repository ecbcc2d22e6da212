-- Lines, each ended by one line feed, and fields, parted by one tab.
use Rattle.std.specs.Prelude.{List, [], ◌∷◌, ℕ, eqb, if◌then◌else◌}
use Rattle.fields.specs.Fields.{line_feed, tab}

-- the byte x in front of the first of several parts
unfoldable pub on_first : ℕ → List (List ℕ) → List (List ℕ)
on_first x [] = (x ∷ []) ∷ []
on_first x (l ∷ ls) = (x ∷ l) ∷ ls

-- the lines of a text, each without the line feed that ends it
unfoldable pub lines : List ℕ → List (List ℕ)
lines [] = []
lines (x ∷ xs) = if eqb x line_feed then [] ∷ lines xs else on_first x (lines xs)

-- the fields of a line: a line is split at every tab, and an empty line is one empty field
unfoldable pub fields : List ℕ → List (List ℕ)
fields [] = [] ∷ []
fields (x ∷ xs) = if eqb x tab then [] ∷ fields xs else on_first x (fields xs)
