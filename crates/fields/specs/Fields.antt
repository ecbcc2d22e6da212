-- Lines of fields, as document 01 has them in every text: fields parted by one tab, each line ended by one line feed.
use Rattle.std.specs.Prelude.{List, [], ◌∷◌, ◌++◌, ℕ}

-- the byte that ends a line
abbrev pub line_feed : ℕ
line_feed = 10

-- the byte between two fields
abbrev pub tab : ℕ
tab = 9

-- fields, a tab before each
unfoldable pub fields_text : List (List ℕ) → List ℕ
fields_text [] = []
fields_text (f ∷ fs) = tab ∷ f ++ fields_text fs

-- a line: its first field, the others, and the line feed
unfoldable pub line : List ℕ → List (List ℕ) → List ℕ
line f fs = f ++ fields_text fs ++ (line_feed ∷ [])

-- lines, one after the other
unfoldable pub joined : List (List ℕ) → List ℕ
joined [] = []
joined (l ∷ ls) = l ++ joined ls
