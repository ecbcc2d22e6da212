-- Laws of lists, in the form in which a loop goes by them: the element at i, and what is left behind it.
use Rattle.std.specs.Prelude.{if◌then◌else◌}
use mathlib.Core.Path.{◌≡◌, refl, sym, ap, ◌∙◌}
use mathlib.Core.Bool.{Bool, true, false, not, cond, ◌&&◌, ◌||◌, false≢true}
use mathlib.Core.List.{List, [], ◌∷◌, ◌++◌, map}
use Prim.Native.Nat.{ℕ, zero, suc, ◌+◌, ◌-◌, ◌≤◌, ◌<◌}
use native.Mathlib.Omega.{arith}
use native.Mathlib.Numerals.{add-one}
use lib.Dec.{eqb}
use lib.ListN.{length, take, drop, get_or, replicate, drop_of_length-le, length-append, length-replicate, length-drop, take-append-drop}
use lib.Pointwise.{pointwise}
use lib.Seq.{drop-cons, drop-append_seam}
use borrow.Author.Tests.{eqb-true, eq-eqb, ne_eqb, not-true}
use Rattle.std.specs.List.{take_while, prefix_len, list_any, list_all}
use Rattle.words.specs.Choice.{◌and◌, ◌or◌}
use Rattle.words.specs.Lists.{is_zero, sum, all, any, same, up_to, padded}
use Rattle.words.proofs.Choice.{and_parts, and_both, or-false, or_nothing}

pub sum-at : (xs : List ℕ) (i : ℕ) → i < length xs → sum (drop i xs) ≡ get_or xs i 0 + sum (drop (i + 1) xs)
unfolding sum
sum-at xs i h = rw (drop-cons xs i 0, add-one)

pub sum-end : (xs : List ℕ) (i : ℕ) → length xs ≤ i → sum (drop i xs) ≡ 0
unfolding sum
sum-end xs i h = rw (drop_of_length-le xs h)

pub sum-append : (xs ys : List ℕ) → sum (xs ++ ys) ≡ sum xs + sum ys
unfolding sum
sum-append [] ys = omega arith
sum-append (x ∷ xs) ys = omega (arith, sum-append xs ys)

pub sum_zeros : (n : ℕ) → sum (replicate n 0) ≡ 0
unfolding sum
sum_zeros zero = refl
sum_zeros (suc n) = omega (arith, sum_zeros n)

pub sum-padded : (n : ℕ) (xs : List ℕ) → sum (padded n xs) ≡ sum xs
unfolding padded
sum-padded n xs = omega (arith, sum-append xs (replicate (n - length xs) 0), sum_zeros (n - length xs))

module _ {A : Type 0} (test : A → Bool) where
  pub all-at : (xs : List A) (i : ℕ) (d : A) → i < length xs → all test (drop i xs) ≡ (test (get_or xs i d) and all test (drop (i + 1) xs))
  unfolding all
  all-at xs i d h = rw (drop-cons xs i d, add-one)

  pub all_end : (xs : List A) (i : ℕ) → length xs ≤ i → all test (drop i xs) ≡ true
  unfolding all
  all_end xs i h = rw (drop_of_length-le xs h)

  -- what all elements pass, each does
  pub all-each : (xs : List A) → all test xs ≡ true → (i : ℕ) (d : A) → i < length xs → test (get_or xs i d) ≡ true
  unfolding all
  all-each [] e i d h = absurd (omega arith)
  all-each (x ∷ xs) e zero d h = (and_parts e).0
  all-each (x ∷ xs) e (suc i) d h = all-each xs (and_parts e).1 i d (omega arith)

-- what stands at an index within the list is the same whatever is said to stand behind its end
pub get_d_any : {A : Type 0} (xs : List A) (i : ℕ) (d e : A) → i < length xs → get_or xs i d ≡ get_or xs i e
get_d_any [] i d e h = absurd (omega arith)
get_d_any (x ∷ xs) zero d e h = refl
get_d_any (x ∷ xs) (suc i) d e h = get_d_any xs i d e (omega arith)

-- `same` is equality
pub same-eq : (xs ys : List ℕ) → same xs ys ≡ true → xs ≡ ys
unfolding same
same-eq [] [] e = refl
same-eq [] (y ∷ ys) e = absurd (false≢true e)
same-eq (x ∷ xs) [] e = absurd (false≢true e)
same-eq (x ∷ xs) (y ∷ ys) e =
    let p : x ≡ y = eqb-true x y (and_parts e).0 in
    let q : xs ≡ ys = same-eq xs ys (and_parts e).1 in
    cc

pub same_refl : (xs : List ℕ) → same xs xs ≡ true
unfolding same
same_refl [] = refl
same_refl (x ∷ xs) = and_both (eq-eqb x x refl) (same_refl xs)

pub eq-same : (xs ys : List ℕ) → xs ≡ ys → same xs ys ≡ true
eq-same xs ys e = rw e (same_refl ys)

pub up_to-at : (b : ℕ) (xs : List ℕ) (i : ℕ) → i < length xs → (get_or xs i 0 ≡ b → ⊥) → length (up_to b (drop i xs)) ≡ length (up_to b (drop (i + 1) xs)) + 1
unfolding up_to
up_to-at b xs i h n = rw (drop-cons xs i 0, ne_eqb (get_or xs i 0) b n, add-one, add-one)

pub up_to-here : (b : ℕ) (xs : List ℕ) (i : ℕ) → i < length xs → get_or xs i 0 ≡ b → length (up_to b (drop i xs)) ≡ 0
unfolding up_to
up_to-here b xs i h e = rw (drop-cons xs i 0, eq-eqb (get_or xs i 0) b e)

pub up_to-end : (b : ℕ) (xs : List ℕ) (i : ℕ) → length xs ≤ i → length (up_to b (drop i xs)) ≡ 0
unfolding up_to
up_to-end b xs i h = rw (drop_of_length-le xs h)

pub length-up_to : (b : ℕ) (xs : List ℕ) → length (up_to b xs) ≤ length xs
unfolding up_to
length-up_to b [] = omega arith
length-up_to b (x ∷ xs) = go (eqb x b) (length-up_to b xs)
  where
    go : (t : Bool) → length (up_to b xs) ≤ length xs → length (if t then [] else x ∷ up_to b xs) ≤ suc (length xs)
    go true h = omega arith
    go false h = omega arith

pub take-up_to : (b : ℕ) (xs : List ℕ) → take (length (up_to b xs)) xs ≡ up_to b xs
unfolding up_to
take-up_to b [] = refl
take-up_to b (x ∷ xs) = go (eqb x b) (take-up_to b xs)
  where
    go : (t : Bool) → take (length (up_to b xs)) xs ≡ up_to b xs → take (length (if t then [] else x ∷ up_to b xs)) (x ∷ xs) ≡ (if t then [] else x ∷ up_to b xs)
    go true h = refl
    go false h = ap (λ (l : List ℕ). x ∷ l) h

-- no number of the list is b
abbrev pub lacks : ℕ → List ℕ → Bool
lacks b xs = all (λ x. not (eqb x b)) xs

pub length-padded : (n : ℕ) (xs : List ℕ) → length xs ≤ n → length (padded n xs) ≡ n
unfolding padded
length-padded n xs h = omega (arith, length-append xs (replicate (n - length xs) 0), length-replicate {A = ℕ} (n - length xs) 0)

-- two lists of the same length, compared from the front

pub same_at : (xs ys : List ℕ) (i : ℕ) → i < length xs → i < length ys
    → same (drop i xs) (drop i ys) ≡ (eqb (get_or xs i 0) (get_or ys i 0) and same (drop (i + 1) xs) (drop (i + 1) ys))
unfolding same
same_at xs ys i h k = rw (drop-cons xs i 0 h, drop-cons ys i 0 k, add-one)

pub same_end : (xs ys : List ℕ) (i : ℕ) → length xs ≤ i → length ys ≤ i → same (drop i xs) (drop i ys) ≡ true
unfolding same
same_end xs ys i h k = rw (drop_of_length-le xs h, drop_of_length-le ys k)

-- a list is its part before the first b, and the rest
pub up_to-rest : (b : ℕ) (xs : List ℕ) → up_to b xs ++ drop (length (up_to b xs)) xs ≡ xs
up_to-rest b xs = ap (λ (l : List ℕ). l ++ drop (length (up_to b xs)) xs) (sym (take-up_to b xs)) ∙ take-append-drop (length (up_to b xs)) xs

-- nothing but zeros is so many zeros
pub zeros-are : (xs : List ℕ) → all is_zero xs ≡ true → xs ≡ replicate (length xs) 0
unfolding all
zeros-are [] e = refl
zeros-are (x ∷ xs) e =
    let p : x ≡ 0 = eqb-true x 0 (and_parts e).0 in
    let q : xs ≡ replicate (length xs) 0 = zeros-are xs (and_parts e).1 in
    rw p (ap (λ (l : List ℕ). 0 ∷ l) q)

pub zeros-all : (n : ℕ) → all is_zero (replicate n 0) ≡ true
unfolding all
zeros-all zero = refl
zeros-all (suc n) = and_both refl (zeros-all n)

-- what is padded ends at its first zero, where it has none itself
pub up_to-padded : (n : ℕ) (xs : List ℕ) → lacks 0 xs ≡ true → up_to 0 (padded n xs) ≡ xs
unfolding padded up_to all
up_to-padded n xs e = go xs (n - length xs) e
  where
    none : (m : ℕ) → up_to 0 (replicate m 0) ≡ []
    none zero = refl
    none (suc m) = refl

    go : (xs : List ℕ) (m : ℕ) → lacks 0 xs ≡ true → up_to 0 (xs ++ replicate m 0) ≡ xs
    go [] m e = none m
    go (x ∷ xs) m e = rw (not-true (eqb x 0) (and_parts e).0) (ap (λ (l : List ℕ). x ∷ l) (go xs m (and_parts e).1))

-- a list of n numbers with nothing but zeros behind its first zero is padded
pub padded-up_to : (n : ℕ) (xs : List ℕ) → length xs ≡ n → all is_zero (drop (length (up_to 0 xs)) xs) ≡ true → xs ≡ padded n (up_to 0 xs)
unfolding padded
padded-up_to n xs l e =
    let k = length (up_to 0 xs) in
    let d : length (drop k xs) ≡ n - k = simp length-drop (omega arith) in
    sym (up_to-rest 0 xs) ∙ ap (λ (ys : List ℕ). up_to 0 xs ++ ys) (zeros-are (drop k xs) e ∙ ap (λ (m : ℕ). replicate m 0) d)

-- padding ends a list
pub padded-ends : (n : ℕ) (xs : List ℕ) → lacks 0 xs ≡ true → all is_zero (drop (length (up_to 0 (padded n xs))) (padded n xs)) ≡ true
unfolding padded
padded-ends n xs e =
    let u : up_to 0 (xs ++ replicate (n - length xs) 0) ≡ xs = up_to-padded n xs e in
    rw (u, drop-append_seam xs (replicate (n - length xs) 0)) (zeros-all (n - length xs))

pub all_append : {A : Type 0} (test : A → Bool) (xs ys : List A) → all test xs ≡ true → all test ys ≡ true → all test (xs ++ ys) ≡ true
unfolding all
all_append test [] ys p q = q
all_append test (x ∷ xs) ys p q = and_both (and_parts p).0 (all_append test xs ys (and_parts p).1 q)

-- one element more
pub all_snoc : {A : Type 0} (test : A → Bool) (xs : List A) (y : A) → all test (xs ++ (y ∷ [])) ≡ (all test xs and test y)
unfolding all ◌and◌
all_snoc test [] y = last (test y)
  where
    last : (b : Bool) → (b and true) ≡ b
    last true = refl
    last false = refl
all_snoc test (x ∷ xs) y = go (test x) (all_snoc test xs y)
  where
    go : (b : Bool) → all test (xs ++ (y ∷ [])) ≡ (all test xs and test y) → (b and all test (xs ++ (y ∷ []))) ≡ ((b and all test xs) and test y)
    go true e = e
    go false e = refl

pub any_snoc : {A : Type 0} (test : A → Bool) (xs : List A) (y : A) → any test (xs ++ (y ∷ [])) ≡ (any test xs or test y)
unfolding any ◌or◌
any_snoc test [] y = or_nothing (test y)
any_snoc test (x ∷ xs) y = go (test x) (any_snoc test xs y)
  where
    go : (b : Bool) → any test (xs ++ (y ∷ [])) ≡ (any test xs or test y) → (b or any test (xs ++ (y ∷ []))) ≡ ((b or any test xs) or test y)
    go true e = refl
    go false e = e

-- where none of the others passes, the last one decides
pub any_last : {A : Type 0} (test : A → Bool) (xs : List A) (y : A) → any test xs ≡ false → any test (xs ++ (y ∷ [])) ≡ test y
any_last test xs y e = any_snoc test xs y ∙ or-false (test y) e

-- our words and the library's, with which the contracts of its iterators are said

pub take_while-up_to : {A : Type 0} (f : A → ℕ) (b : ℕ) (xs : List A) → length (take_while (λ x. not (eqb (f x) b)) xs) ≡ length (up_to b (map f xs))
unfolding up_to
take_while-up_to f b [] = refl
take_while-up_to f b (x ∷ xs) = go (eqb (f x) b) (take_while-up_to f b xs)
  where
    go : (t : Bool) → length (take_while (λ x. not (eqb (f x) b)) xs) ≡ length (up_to b (map f xs))
        → length (take (cond (not t) (1 + prefix_len (λ x. not (eqb (f x) b)) xs) 0) (x ∷ xs)) ≡ length (if t then [] else f x ∷ up_to b (map f xs))
    go true e = refl
    go false e =
        let k : 1 + prefix_len (λ x. not (eqb (f x) b)) xs ≡ suc (prefix_len (λ x. not (eqb (f x) b)) xs) = omega arith in
        rw k (ap (λ (n : ℕ). suc n) e)

pub any-list_any : {A : Type 0} (test : A → Bool) (xs : List A) → list_any test xs ≡ any test xs
unfolding any ◌or◌
any-list_any test [] = refl
any-list_any test (x ∷ xs) = go (test x) (any-list_any test xs)
  where
    go : (t : Bool) → list_any test xs ≡ any test xs → (t || list_any test xs) ≡ (t or any test xs)
    go true e = refl
    go false e = e

pub all-list_all : {A : Type 0} (test : A → Bool) (xs : List A) → list_all test xs ≡ all test xs
unfolding all ◌and◌
all-list_all test [] = refl
all-list_all test (x ∷ xs) = go (test x) (all-list_all test xs)
  where
    go : (t : Bool) → list_all test xs ≡ all test xs → (t && list_all test xs) ≡ (t and all test xs)
    go true e = e
    go false e = refl

-- `same` is what `==` on slices of numbers says
pub same-pointwise : (xs ys : List ℕ) → pointwise eqb xs ys ≡ same xs ys
unfolding same ◌and◌
same-pointwise [] [] = refl
same-pointwise [] (y ∷ ys) = refl
same-pointwise (x ∷ xs) [] = refl
same-pointwise (x ∷ xs) (y ∷ ys) = go (eqb x y) (same-pointwise xs ys)
  where
    go : (t : Bool) → pointwise eqb xs ys ≡ same xs ys → (t && pointwise eqb xs ys) ≡ (t and same xs ys)
    go true e = e
    go false e = refl

module _ {A : Type 0} (test : A → Bool) where
  pub any-at : (xs : List A) (i : ℕ) (d : A) → i < length xs → any test (drop i xs) ≡ (test (get_or xs i d) or any test (drop (i + 1) xs))
  unfolding any
  any-at xs i d h = rw (drop-cons xs i d, add-one)

  pub any_end : (xs : List A) (i : ℕ) → length xs ≤ i → any test (drop i xs) ≡ false
  unfolding any
  any_end xs i h = rw (drop_of_length-le xs h)
