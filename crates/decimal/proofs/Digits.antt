-- Laws of a number's digits.
use mathlib.Core.Path.{◌≡◌, sym, ap, ◌∙◌}
use mathlib.Core.List.{List, [], ◌∷◌, ◌++◌}
use Prim.Native.Nat.{ℕ, zero, suc, ◌+◌, ◌-◌, ◌*◌, ◌/◌, ◌%◌, ◌^◌, ◌≤◌, ◌<◌}
use native.Mathlib.Nat.{div-lt_iff_lt-mul, pow-suc}
use native.Mathlib.Omega.{arith}
use native.Mathlib.Decide.{dec_lt}
use lib.ListN.{length, drop, set, length-append, length-set}
use lib.Seq.{drop-cons, drop-set-lt, get_or-set_same, append_snoc}
use lib.Arith.{digits_div, digits_mod}
use borrow.Author.Tests.{lt-ltb, le-ltb}
use Rattle.decimal.specs.Decimal.{last_digits, digits}

-- induction by the last digit
pub by-last-digit : (P : ℕ → Type 0) → ((n : ℕ) → n < 10 → P n) → ((n : ℕ) → 10 ≤ n → P (n / 10) → P n) → (n : ℕ) → P n
by-last-digit P small big n = go (suc n) n (omega arith)
  where
    step : (f : ℕ) (m : ℕ) → ((k : ℕ) → k < f → P k) → m < suc f → Dec (m < 10) → P m
    step f m ih h (yes a) = small m a
    step f m ih h (no a) = big m (omega arith) (ih (m / 10) (omega arith))

    go : (f : ℕ) (m : ℕ) → m < f → P m
    go zero m h = absurd (omega arith)
    go (suc f) m h = step f m (go f) h (dec_lt m 10)

last-small : (f n : ℕ) → n < 10 → last_digits (suc f) n ≡ (48 + n) ∷ []
unfolding last_digits
last-small f n h = simp (lt-ltb n 10 h)

last-big : (f n : ℕ) → 10 ≤ n → last_digits (suc f) n ≡ last_digits f (n / 10) ++ ((48 + n % 10) ∷ [])
unfolding last_digits
last-big f n h = simp (le-ltb n 10 h)

-- how many are allowed does not matter, where they are enough
enough : (n : ℕ) (f g : ℕ) → n < f → n < g → last_digits f n ≡ last_digits g n
enough = by-last-digit (λ n. (f g : ℕ) → n < f → n < g → last_digits f n ≡ last_digits g n) small big
  where
    small : (n : ℕ) → n < 10 → (f g : ℕ) → n < f → n < g → last_digits f n ≡ last_digits g n
    small n h zero g a b = absurd (omega arith)
    small n h (suc f) zero a b = absurd (omega arith)
    small n h (suc f) (suc g) a b = last-small f n h ∙ sym (last-small g n h)

    big : (n : ℕ) → 10 ≤ n → ((f g : ℕ) → n / 10 < f → n / 10 < g → last_digits f (n / 10) ≡ last_digits g (n / 10)) → (f g : ℕ) → n < f → n < g
        → last_digits f n ≡ last_digits g n
    big n h ih zero g a b = absurd (omega arith)
    big n h ih (suc f) zero a b = absurd (omega arith)
    big n h ih (suc f) (suc g) a b = last-big f n h ∙ ap (λ (l : List ℕ). l ++ ((48 + n % 10) ∷ [])) (ih f g (omega arith) (omega arith)) ∙ sym (last-big g n h)

-- one digit, and all but the last
pub digits-small : (n : ℕ) → n < 10 → digits n ≡ (48 + n) ∷ []
unfolding digits
digits-small n h = last-small n n h

pub digits-big : (n : ℕ) → 10 ≤ n → digits n ≡ digits (n / 10) ++ ((48 + n % 10) ∷ [])
unfolding digits
digits-big n h = last-big n n h ∙ ap (λ (l : List ℕ). l ++ ((48 + n % 10) ∷ [])) (enough (n / 10) n (suc (n / 10)) (omega arith) (omega arith))

-- one digit more
pub digits-snoc : (v d : ℕ) → 0 < v → d < 10 → digits (v * 10 + d) ≡ digits v ++ ((48 + d) ∷ [])
digits-snoc v d h k = digits-big (v * 10 + d) (omega arith) ∙ rw (digits_div v k, digits_mod v k)

pub length-small : (n : ℕ) → n < 10 → length (digits n) ≡ 1
length-small n h = rw (digits-small n h)

pub length-big : (n : ℕ) → 10 ≤ n → length (digits n) ≡ length (digits (n / 10)) + 1
length-big n h = ap length (digits-big n h) ∙ length-append (digits (n / 10)) ((48 + n % 10) ∷ [])

-- a number below ten to the k + 1 has k + 1 digits at most
pub length-below : (k n : ℕ) → n < 10 ^ suc k → length (digits n) ≤ suc k
length-below zero n h = omega (arith, length-small n h)
length-below (suc k) n h = go (length-below k (n / 10)) (dec_lt n 10)
  where
    go : (n / 10 < 10 ^ suc k → length (digits (n / 10)) ≤ suc k) → Dec (n < 10) → length (digits n) ≤ suc (suc k)
    go ih (yes a) = omega (arith, length-small n a)
    go ih (no a) =
        let p : 10 ^ suc (suc k) ≡ 10 ^ suc k * 10 = pow-suc 10 (suc k) in
        let q : n / 10 < 10 ^ suc k = (div-lt_iff_lt-mul {k = 10} (omega arith)).1 (rw p at h) in
        omega (arith, length-big n (omega arith), ih q)

-- every number has a digit
pub length_some : (n : ℕ) → 1 ≤ length (digits n)
length_some n = go (dec_lt n 10)
  where
    go : Dec (n < 10) → 1 ≤ length (digits n)
    go (yes h) = omega (arith, length-small n h)
    go (no h) = omega (arith, length-big n (omega arith))

-- no power of ten is 0
ten-power : (k : ℕ) → 1 ≤ 10 ^ k
ten-power zero = omega arith
ten-power (suc k) = omega (arith, pow-suc 10 k, ten-power k)

-- a number of ten to the k or more has more than k digits
pub length-above : (k n : ℕ) → 10 ^ k ≤ n → suc k ≤ length (digits n)
length-above zero n h = length_some n
length-above (suc k) n h =
    let p : 10 ^ suc k ≡ 10 ^ k * 10 = pow-suc 10 k in
    let o : 1 ≤ 10 ^ k = ten-power k in
    let g : 10 ^ k * 10 ≤ n = rw p at h in
    omega (arith, length-big n (omega arith), length-above k (n / 10) (omega arith))

-- a number from ten to the k and below ten times that has k + 1 digits
pub length-between : (k n : ℕ) → 10 ^ k ≤ n → n < 10 * 10 ^ k → k + 1 ≡ length (digits n)
length-between k n h b = omega (arith, length-above k n h, length-below k n (omega (arith, pow-suc 10 k, b)))

-- a greater number has no fewer digits
pub length-grows : (m n : ℕ) → n ≤ m → length (digits n) ≤ length (digits m)
length-grows = by-last-digit (λ m. (n : ℕ) → n ≤ m → length (digits n) ≤ length (digits m)) small big
  where
    small : (m : ℕ) → m < 10 → (n : ℕ) → n ≤ m → length (digits n) ≤ length (digits m)
    small m h n k = omega (arith, length-small m h, length-small n (omega arith))

    big : (m : ℕ) → 10 ≤ m → ((n : ℕ) → n ≤ m / 10 → length (digits n) ≤ length (digits (m / 10))) → (n : ℕ) → n ≤ m → length (digits n) ≤ length (digits m)
    big m h ih n k = go (dec_lt n 10)
      where
        go : Dec (n < 10) → length (digits n) ≤ length (digits m)
        go (yes a) = omega (arith, length-small n a, length_some m)
        go (no a) = omega (arith, length-big n (omega arith), length-big m h, ih (n / 10) (omega arith))

-- a byte put in front of those from at on
pub put-before : (bs : List ℕ) (at b : ℕ) → 1 ≤ at → at ≤ length bs → drop (at - 1) (set bs (at - 1) b) ≡ b ∷ drop at bs
put-before bs at b h k =
    let e : suc (at - 1) ≡ at = omega arith in
    let l : at - 1 < length (set bs (at - 1) b) = simp length-set (omega arith) in
    drop-cons (set bs (at - 1) b) (at - 1) 0 l
    ∙ rw (get_or-set_same bs (at - 1) b 0 (omega arith), drop-set-lt (suc (at - 1)) bs (at - 1) b (omega arith), e)

-- the last k digits of n, zeros among them
unfoldable pub ends : ℕ → ℕ → List ℕ
ends zero n = []
ends (suc k) n = ends k (n / 10) ++ ((48 + n % 10) ∷ [])

-- they are all its digits, where they are as many
pub digits-ends : (n : ℕ) → ends (length (digits n)) n ≡ digits n
unfolding ends
digits-ends = by-last-digit (λ n. ends (length (digits n)) n ≡ digits n) small big
  where
    small : (n : ℕ) → n < 10 → ends (length (digits n)) n ≡ digits n
    small n h = let e : n % 10 ≡ n = omega arith in rw (digits-small n h, e)

    big : (n : ℕ) → 10 ≤ n → ends (length (digits (n / 10))) (n / 10) ≡ digits (n / 10) → ends (length (digits n)) n ≡ digits n
    big n h ih =
        let e : length (digits n) ≡ suc (length (digits (n / 10))) = omega (arith, length-big n h) in
        rw (e, ih, digits-big n h)

-- one digit moved from the number to the bytes behind it
pub digit-moved : (rest i : ℕ) (bs : List ℕ) → 1 ≤ i → i ≤ length bs
    → ends i rest ++ drop i bs ≡ ends (i - 1) (rest / 10) ++ drop (i - 1) (set bs (i - 1) (48 + rest % 10))
unfolding ends
digit-moved rest zero bs h k = absurd (omega arith)
digit-moved rest (suc i) bs h k =
    let e : suc i - 1 ≡ i = omega arith in
    rw (put-before bs (suc i) (48 + rest % 10) h k, e) (append_snoc (ends i (rest / 10)) (48 + rest % 10) (drop (suc i) bs))
