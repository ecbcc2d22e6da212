-- How an item stands in the stream.
use Rattle.std.specs.Prelude.{ℕ, ◌/◌, ◌%◌, List, ◌∷◌, length}

-- its length as two bytes, the higher one first, then its bytes
abbrev pub item_of : List ℕ → List ℕ
item_of bs = length bs / 256 ∷ length bs % 256 ∷ bs
