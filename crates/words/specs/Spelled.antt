-- Words, spelled out in bytes.
use Rattle.std.specs.Prelude.{List, [], ◌∷◌, ℕ}
use Prim.Native.Char.{code}
use Prim.Native.String as Text
use Prim.Native.String.{String}

-- the bytes of a word
abbrev pub spelled : String → List ℕ
spelled Text.[] = []
spelled (Text.◌∷◌ c s) = code c ∷ spelled s
