-- Lists of numbers and of rows.
use Rattle.std.specs.Prelude.{Bool, true, false, List, [], ◌∷◌, ◌++◌, ℕ, zero, suc, ◌+◌, ◌-◌, eqb, length, replicate, if◌then◌else◌}
use Rattle.words.specs.Choice.{◌and◌, ◌or◌}

-- a number is zero
abbrev pub is_zero : ℕ → Bool
is_zero n = eqb n 0

-- all numbers added
unfoldable pub sum : List ℕ → ℕ
sum [] = 0
sum (x ∷ xs) = x + sum xs

-- each element passes the test
unfoldable pub all : {A : Type 0} → (A → Bool) → List A → Bool
all test [] = true
all test (x ∷ xs) = test x and all test xs

-- some element passes the test
unfoldable pub any : {A : Type 0} → (A → Bool) → List A → Bool
any test [] = false
any test (x ∷ xs) = test x or any test xs

-- the same numbers in the same order
unfoldable pub same : List ℕ → List ℕ → Bool
same [] [] = true
same [] (y ∷ ys) = false
same (x ∷ xs) [] = false
same (x ∷ xs) (y ∷ ys) = eqb x y and same xs ys

-- the part before the first b; all of it where there is none
unfoldable pub up_to : ℕ → List ℕ → List ℕ
up_to b [] = []
up_to b (x ∷ xs) = if eqb x b then [] else x ∷ up_to b xs

-- n numbers: xs, and zeros behind it
unfoldable pub padded : ℕ → List ℕ → List ℕ
padded n xs = xs ++ replicate (n - length xs) 0

-- the numbers 0 to n - 1
unfoldable pub below : ℕ → List ℕ
below zero = []
below (suc n) = below n ++ (n ∷ [])
