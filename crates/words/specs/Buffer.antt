-- Bytes put at the front of a lent buffer, the bytes behind them unchanged.
use Rattle.std.specs.Prelude.{List, ◌++◌, ℕ, leb, length, drop, if◌then◌else◌}

-- the buffer d with bs at its front
unfoldable pub over : List ℕ → List ℕ → List ℕ
over bs d = bs ++ drop (length bs) d

-- the buffer d after bs were to be put into it: unchanged where it is too short for all of them
unfoldable pub placed : List ℕ → List ℕ → List ℕ
placed bs d = if leb (length bs) (length d) then over bs d else d

-- how many bytes were put there: all or none
unfoldable pub fitted : List ℕ → List ℕ → ℕ
fitted bs d = if leb (length bs) (length d) then length bs else 0
