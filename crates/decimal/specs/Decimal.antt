-- Decimal numbers as bytes: how a number is written, and what bytes read as.
use Rattle.std.specs.Prelude.{Option, Some, None, Bool, true, false, not, List, [], ◌∷◌, ◌++◌, ℕ, zero, suc, ◌+◌, ◌-◌, ◌*◌, ◌/◌, ◌%◌, ltb, leb, eqb, if◌then◌else◌}
use Rattle.words.specs.Choice.{◌and◌}
use Rattle.words.specs.Lists.{all}

-- the last digits of n, at most as many as the first argument says
unfoldable pub last_digits : ℕ → ℕ → List ℕ
last_digits zero n = []
last_digits (suc most) n =
    let more = last_digits most (n / 10) ++ ((48 + n % 10) ∷ []) in
    if ltb n 10 then (48 + n) ∷ [] else more

-- the digits of n: decimal, no leading zero, 0 is "0"
unfoldable pub digits : ℕ → List ℕ
digits n = last_digits (suc n) n

-- a byte from 0 to 9
unfoldable pub digit : ℕ → Bool
digit b = leb 48 b and leb b 57

-- the number that digits stand for, where v stands before them
unfoldable pub value : ℕ → List ℕ → ℕ
value v [] = v
value v (b ∷ bs) = value (v * 10 + (b - 48)) bs

-- at least one byte, and no 0 in front of others
unfoldable pub leads : List ℕ → Bool
leads [] = false
leads (b ∷ []) = true
leads (b ∷ c ∷ bs) = not (eqb b 48)

-- what bytes read as: a number from lo to hi, decimal, with no leading zero and no sign; or no number
unfoldable pub read_number : ℕ → ℕ → List ℕ → Option ℕ
read_number lo hi bs =
    if leads bs and all digit bs and leb lo (value 0 bs) and leb (value 0 bs) hi then Some (value 0 bs) else None
