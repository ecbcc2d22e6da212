-- Lists of f 0, f 1, f 2, .., and arrays that are filled from the front.
use mathlib.Core.Path.{◌≡◌, refl, sym, ◌∙◌, ap}
use mathlib.Core.Bool.{Bool, true, false, false≢true}
use mathlib.Core.List.{List, [], ◌∷◌, ◌++◌, map, append-nil}
use Prim.Native.Nat.{ℕ, zero, suc, ◌+◌, ◌-◌, ◌≤◌, ◌<◌}
use native.Mathlib.Omega.{arith}
use native.Mathlib.Numerals.{add-one}
use native.Mathlib.Decide.{dec_le}
use lib.ListN.{length, take, get_or, set, replicate, length-map, length-append}
use lib.Seq.{take_all, take-length, take-suc, length-take-le, set_at, append_snoc, get_or-append_seam}
use Rattle.words.specs.Choice.{◌or◌}
use Rattle.words.specs.Lists.{all, any, below}
use Rattle.words.proofs.Choice.{and_parts, and_both, or-true}
use Rattle.words.proofs.Lists.{all_snoc, any_snoc}

pub map_snoc : {A B : Type 0} (f : A → B) (xs : List A) (x : A) → map f (xs ++ (x ∷ [])) ≡ map f xs ++ (f x ∷ [])
map_snoc f [] x = refl
map_snoc f (a ∷ xs) x = ap (λ l. f a ∷ l) (map_snoc f xs x)

pub map_below : {A : Type 0} (f : ℕ → A) (n : ℕ) → map f (below (suc n)) ≡ map f (below n) ++ (f n ∷ [])
unfolding below
map_below f n = map_snoc f (below n) n

pub length-below : (n : ℕ) → length (below n) ≡ n
unfolding below
length-below zero = refl
length-below (suc n) = length-append (below n) (n ∷ []) ∙ omega (arith, length-below n)

-- two functions that agree below n
pub below-same : {A : Type 0} (f g : ℕ → A) (n : ℕ) → ((k : ℕ) → k < n → f k ≡ g k) → map f (below n) ≡ map g (below n)
unfolding below
below-same f g zero h = refl
below-same f g (suc n) h =
    map_below f n ∙ ap (λ l. l ++ (f n ∷ [])) (below-same f g n (λ k l. h k (omega arith))) ∙ ap (λ x. map g (below n) ++ (x ∷ [])) (h n (omega arith))
    ∙ sym (map_below g n)

-- the first n elements of a list are those at 0, 1, 2, ..
pub take_below : {A B : Type 0} (f : A → B) (xs : List A) (d : A) (n : ℕ) → n ≤ length xs → map f (take n xs) ≡ map (λ k. f (get_or xs k d)) (below n)
unfolding below
take_below f xs d zero h = refl
take_below f xs d (suc n) h =
    ap (map f) (take-suc xs n d h) ∙ map_snoc f (take n xs) (get_or xs n d) ∙ ap (λ l. l ++ (f (get_or xs n d) ∷ [])) (take_below f xs d n (omega arith))
    ∙ sym (map_below (λ k. f (get_or xs k d)) n)

-- and so are all
pub all-below : {A B : Type 0} (f : A → B) (xs : List A) (d : A) → map f xs ≡ map (λ k. f (get_or xs k d)) (below (length xs))
all-below f xs d = ap (map f) (sym (take-length xs)) ∙ take_below f xs d (length xs) (omega arith)

-- one element more in an array of m, the rest of which holds z
fill : {A : Type 0} (xs : List A) (z y : A) (m k : ℕ) → length xs ≡ k → k < m
    → set (xs ++ replicate (m - k) z) k y ≡ (xs ++ (y ∷ [])) ++ replicate (m - (k + 1)) z
fill xs z y m k e h =
    let a : m - k ≡ suc (m - (k + 1)) = omega arith in
    ap (λ n. set (xs ++ replicate n z) k y) a ∙ set_at xs z (replicate (m - (k + 1)) z) y k e ∙ sym (append_snoc xs y (replicate (m - (k + 1)) z))

-- an array of m whose first k elements are f 0, f 1, ..
abbrev pub filled : {A : Type 0} → (ℕ → A) → A → ℕ → ℕ → List A
filled f z m k = map f (below k) ++ replicate (m - k) z

pub fill-next : {A : Type 0} (f : ℕ → A) (z y : A) (m k : ℕ) → k < m → y ≡ f k → set (filled f z m k) k y ≡ filled f z m (k + 1)
fill-next f z y m k h e =
    fill (map f (below k)) z y m k (length-map (below k) f ∙ length-below k) h
    ∙ ap (λ x. (map f (below k) ++ (x ∷ [])) ++ replicate (m - (k + 1)) z) e
    ∙ ap (λ l. l ++ replicate (m - (k + 1)) z) (sym (map_below f k) ∙ ap (λ n. map f (below n)) (sym (add-one k)))

-- what stands at a filled place
pub filled_at : {A : Type 0} (f : ℕ → A) (n : ℕ) (xs : List A) (d : A) (k : ℕ) → k < n → get_or (map f (below n) ++ xs) k d ≡ f k
filled_at f zero xs d k h = absurd (omega arith)
filled_at f (suc n) xs d k h = go (dec_le n k) (filled_at f n (f n ∷ xs) d k)
  where
    split : map f (below (suc n)) ++ xs ≡ map f (below n) ++ (f n ∷ xs)
    split = ap (λ l. l ++ xs) (map_below f n) ∙ append_snoc (map f (below n)) (f n) xs

    go : Dec (n ≤ k) → (k < n → get_or (map f (below n) ++ (f n ∷ xs)) k d ≡ f k) → get_or (map f (below (suc n)) ++ xs) k d ≡ f k
    go (yes l) ih =
        let z : length (map f (below n)) ≡ k = length-map (below n) f ∙ length-below n ∙ (let y : n ≡ k = omega arith in y) in
        let y : n ≡ k = omega arith in
        ap (λ l. get_or l k d) split ∙ ap (λ i. get_or (map f (below n) ++ (f n ∷ xs)) i d) (sym z) ∙ get_or-append_seam (map f (below n)) (f n) xs d ∙ ap f y
    go (no l) ih = ap (λ l. get_or l k d) split ∙ ih (omega arith)

-- an array of m whose first elements are f of those of xs
module _ {A B : Type 0} (f : A → B) (z : B) where
  pub filled_next : (xs : List A) (m k : ℕ) (d : A) (ys : List B) (y : B) → k < length xs → k < m → ys ≡ map f (take k xs) ++ replicate (m - k) z
      → y ≡ f (get_or xs k d)
      → set ys k y ≡ map f (take (k + 1) xs) ++ replicate (m - (k + 1)) z
  filled_next xs m k d ys y h l e ey =
      let a : length (map f (take k xs)) ≡ k = length-map (take k xs) f ∙ length-take-le k xs (omega arith) in
      ap (λ v. set v k y) e ∙ fill (map f (take k xs)) z y m k a l
      ∙ ap (λ v. (map f (take k xs) ++ (v ∷ [])) ++ replicate (m - (k + 1)) z) ey
      ∙ ap (λ v. v ++ replicate (m - (k + 1)) z)
      (sym (map_snoc f (take k xs) (get_or xs k d)) ∙ ap (map f) (sym (take-suc xs k d h)) ∙ ap (λ n. map f (take n xs)) (sym (add-one k)))

  pub filled-all : (xs : List A) (m k : ℕ) (ys : List B) → length xs ≡ m → m ≤ k → ys ≡ map f (take k xs) ++ replicate (m - k) z → ys ≡ map f xs
  filled-all xs m k ys len h e =
      let a : m - k ≡ 0 = omega arith in
      e ∙ ap (λ n. map f (take k xs) ++ replicate n z) a ∙ append-nil (map f (take k xs)) ∙ ap (map f) (take_all k xs (omega (arith, len)))

-- what stands behind the filled places
pub filled-behind : {A : Type 0} (xs : List A) (m k : ℕ) (z : A) → length xs ≤ k → get_or (xs ++ replicate m z) k z ≡ z
filled-behind [] zero k z h = refl
filled-behind [] (suc m) zero z h = refl
filled-behind [] (suc m) (suc k) z h = filled-behind [] m k z (omega arith)
filled-behind (x ∷ xs) m zero z h = absurd (omega arith)
filled-behind (x ∷ xs) m (suc k) z h = filled-behind xs m k z (omega arith)

-- a test of f 0, f 1, .., f (n - 1): all of them pass it, or some one
module _ {A : Type 0} (test : A → Bool) (f : ℕ → A) where
  pub all-below-each : (n : ℕ) → all test (map f (below n)) ≡ true → (k : ℕ) → k < n → test (f k) ≡ true
  all-below-each zero e k h = absurd (omega arith)
  all-below-each (suc n) e k h =
      let p = and_parts (sym (all_snoc test (map f (below n)) (f n)) ∙ sym (ap (all test) (map_below f n)) ∙ e) in
      go (dec_le n k) p (all-below-each n p.0 k)
    where
      go : Dec (n ≤ k) → (all test (map f (below n)) ≡ true) × (test (f n) ≡ true) → (k < n → test (f k) ≡ true) → test (f k) ≡ true
      go (yes l) p ih = let y : k ≡ n = omega arith in ap (λ i. test (f i)) y ∙ p.1
      go (no l) p ih = ih (omega arith)

  pub each-all-below : (n : ℕ) → ((k : ℕ) → k < n → test (f k) ≡ true) → all test (map f (below n)) ≡ true
  unfolding below all
  each-all-below zero h = refl
  each-all-below (suc n) h =
      ap (all test) (map_below f n) ∙ all_snoc test (map f (below n)) (f n) ∙ and_both (each-all-below n (λ k l. h k (omega arith))) (h n (omega arith))

  pub any-below-some : (n : ℕ) → any test (map f (below n)) ≡ true → (k : ℕ) × (k < n) × (test (f k) ≡ true)
  unfolding below any ◌or◌
  any-below-some zero e = absurd (false≢true e)
  any-below-some (suc n) e =
      go (any test (map f (below n))) refl (test (f n)) refl (sym (any_snoc test (map f (below n)) (f n)) ∙ sym (ap (any test) (map_below f n)) ∙ e)
      (any-below-some n)
    where
      go : (a : Bool) → any test (map f (below n)) ≡ a → (b : Bool) → test (f n) ≡ b → (any test (map f (below n)) or test (f n)) ≡ true
          → (any test (map f (below n)) ≡ true → (k : ℕ) × (k < n) × (test (f k) ≡ true)) → (k : ℕ) × (k < suc n) × (test (f k) ≡ true)
      go true p b q h ih = let r = ih p in (r.0, omega (arith, r.1), r.2)
      go false p true q h ih = (n, omega arith, q)
      go false p false q h ih = absurd (false≢true (sym (rw (p, q)) ∙ h))

  pub some-any-below : (n k : ℕ) → k < n → test (f k) ≡ true → any test (map f (below n)) ≡ true
  unfolding ◌or◌
  some-any-below zero k h e = absurd (omega arith)
  some-any-below (suc n) k h e = ap (any test) (map_below f n) ∙ any_snoc test (map f (below n)) (f n) ∙ go (dec_le n k) (some-any-below n k)
    where
      or-last : (a b : Bool) → b ≡ true → (a or b) ≡ true
      or-last true b q = refl
      or-last false b q = q

      go : Dec (n ≤ k) → (k < n → test (f k) ≡ true → any test (map f (below n)) ≡ true) → (any test (map f (below n)) or test (f n)) ≡ true
      go (yes l) ih = let y : n ≡ k = omega arith in or-last (any test (map f (below n))) (test (f n)) (ap (λ i. test (f i)) y ∙ e)
      go (no l) ih = or-true (test (f n)) (ih (omega arith) e)
