-- What is written reads back (`number_digits`), what is accepted was written so (`digits_number`), and what a reader goes by.
use Rattle.std.specs.Prelude.{if◌then◌else◌}
use mathlib.Core.Path.{◌≡◌, refl, sym, ap, ◌∙◌}
use mathlib.Core.List.{List, [], ◌∷◌, ◌++◌, append_assoc, append-nil}
use mathlib.Core.Logic.{◌⊎◌, inl, inr}
use mathlib.Core.Bool.{Bool, true, false, not, false≢true}
use Prim.Native.Nat.{ℕ, ◌+◌, ◌-◌, ◌*◌, ◌/◌, ◌%◌, ◌≤◌, ◌<◌}
use native.Mathlib.Omega.{arith}
use native.Mathlib.Decide.{dec_lt}
use native.Mathlib.Numerals.{add-one}
use lib.Dec.{leb, eqb}
use lib.ListN.{length, get_or, drop, drop_of_length-le}
use lib.Seq.{drop-cons}
use borrow.Author.Tests.{leb-true, eqb-false, le-leb, lt-leb, eq-eqb, ne_eqb, not-true}
use Rattle.words.specs.Choice.{◌and◌}
use Rattle.words.specs.Lists.{all}
use Rattle.words.proofs.Choice.{and_parts, and_both, and-false, and-last-false, if-true, if-false}
use Rattle.decimal.specs.Decimal.{digits, digit, value, leads, read_number}
use Rattle.std.specs.Prelude.{Some, None}
use Rattle.decimal.proofs.Digits.{by-last-digit, digits-small, digits-big, digits-snoc}

-- digits

pub is_digit : (b : ℕ) → 48 ≤ b → b ≤ 57 → digit b ≡ true
unfolding digit
is_digit b l u = and_both (le-leb 48 b l) (le-leb b 57 u)

digit-range : (b : ℕ) → digit b ≡ true → (48 ≤ b) × (b ≤ 57)
unfolding digit
digit-range b e = (leb-true 48 b (and_parts e).0, leb-true b 57 (and_parts e).1)

pub not_digit : (b : ℕ) → (b < 48) ⊎ (57 < b) → digit b ≡ false
unfolding digit
not_digit b (inl h) = and-false _ (lt-leb 48 b h)
not_digit b (inr h) = and-last-false _ (lt-leb b 57 h)

-- what the digits of n come to

value-append : (v : ℕ) (xs ys : List ℕ) → value v (xs ++ ys) ≡ value (value v xs) ys
unfolding value
value-append v [] ys = refl
value-append v (x ∷ xs) ys = value-append (v * 10 + (x - 48)) xs ys

value-small : (n : ℕ) → n < 10 → value 0 (digits n) ≡ n
unfolding value
value-small n h = rw (digits-small n h) (omega arith)

value-big : (n : ℕ) → 10 ≤ n → value 0 (digits (n / 10)) ≡ n / 10 → value 0 (digits n) ≡ n
unfolding value
value-big n h ih = rw (digits-big n h) (value-append 0 (digits (n / 10)) ((48 + n % 10) ∷ []) ∙ rw ih (omega arith))

pub value-digits : (n : ℕ) → value 0 (digits n) ≡ n
value-digits = by-last-digit (λ n. value 0 (digits n) ≡ n) value-small value-big

all_snoc : (xs : List ℕ) (d : ℕ) → d < 10 → all digit xs ≡ true → all digit (xs ++ ((48 + d) ∷ [])) ≡ true
unfolding all
all_snoc [] d h e = and_both (is_digit (48 + d) (omega arith) (omega arith)) refl
all_snoc (x ∷ xs) d h e = and_both (and_parts e).0 (all_snoc xs d h (and_parts e).1)

all_small : (n : ℕ) → n < 10 → all digit (digits n) ≡ true
unfolding all
all_small n h = rw (digits-small n h) (all_snoc [] n h refl)

all-big : (n : ℕ) → 10 ≤ n → all digit (digits (n / 10)) ≡ true → all digit (digits n) ≡ true
all-big n h ih = rw (digits-big n h) (all_snoc (digits (n / 10)) (n % 10) (omega arith) ih)

pub all_digits : (n : ℕ) → all digit (digits n) ≡ true
all_digits = by-last-digit (λ n. all digit (digits n) ≡ true) all_small all-big

-- the first byte is there and no 0
heads : List ℕ → Bool
heads [] = false
heads (b ∷ bs) = not (eqb b 48)

heads-append : (xs ys : List ℕ) → heads xs ≡ true → heads (xs ++ ys) ≡ true
unfolding heads
heads-append [] ys e = absurd (false≢true e)
heads-append (x ∷ xs) ys e = e

heads-leads : (xs : List ℕ) → heads xs ≡ true → leads xs ≡ true
unfolding heads leads
heads-leads [] e = e
heads-leads (x ∷ []) e = refl
heads-leads (x ∷ y ∷ xs) e = e

heads-digits : (n : ℕ) → 0 < n → heads (digits n) ≡ true
unfolding heads
heads-digits = by-last-digit (λ n. 0 < n → heads (digits n) ≡ true) small big
  where
    small : (n : ℕ) → n < 10 → 0 < n → heads (digits n) ≡ true
    small n h p = rw (digits-small n h) (simp (ne_eqb (48 + n) 48 (omega arith)))

    big : (n : ℕ) → 10 ≤ n → (0 < n / 10 → heads (digits (n / 10)) ≡ true) → 0 < n → heads (digits n) ≡ true
    big n h ih p = rw (digits-big n h) (heads-append (digits (n / 10)) _ (ih (omega arith)))

pub leads-digits : (n : ℕ) → leads (digits n) ≡ true
unfolding leads
leads-digits n = go n (dec_lt n 1)
  where
    go : (n : ℕ) → Dec (n < 1) → leads (digits n) ≡ true
    go n (yes h) = rw (digits-small n (omega arith))
    go n (no h) = heads-leads (digits n) (heads-digits n (omega arith))

-- what read_number answers

pub number_is : (lo hi : ℕ) (s : List ℕ) → leads s ≡ true → all digit s ≡ true → lo ≤ value 0 s → value 0 s ≤ hi → read_number lo hi s ≡ Some (value 0 s)
unfolding read_number
number_is lo hi s a b c d = if-true _ _ (and_both a (and_both b (and_both (le-leb lo (value 0 s) c) (le-leb (value 0 s) hi d))))

pub number-leads : (lo hi : ℕ) (s : List ℕ) → leads s ≡ false → read_number lo hi s ≡ None
unfolding read_number
number-leads lo hi s e = if-false _ _ (and-false _ e)

pub number-digit : (lo hi : ℕ) (s : List ℕ) → all digit s ≡ false → read_number lo hi s ≡ None
unfolding read_number
number-digit lo hi s e = if-false _ _ (and-last-false (leads s) (and-false _ e))

pub number-low : (lo hi : ℕ) (s : List ℕ) → value 0 s < lo → read_number lo hi s ≡ None
unfolding read_number
number-low lo hi s h = if-false _ _ (and-last-false (leads s) (and-last-false (all digit s) (and-false _ (lt-leb lo (value 0 s) h))))

pub number-high : (lo hi : ℕ) (s : List ℕ) → hi < value 0 s → read_number lo hi s ≡ None
unfolding read_number
number-high lo hi s h =
    if-false _ _ (and-last-false (leads s) (and-last-false (all digit s) (and-last-false (leb lo (value 0 s)) (lt-leb (value 0 s) hi h))))

-- WHAT IS WRITTEN READS BACK, for every limit
pub number_digits : (lo hi n : ℕ) → lo ≤ n → n ≤ hi → read_number lo hi (digits n) ≡ Some n
number_digits lo hi n l h =
    let v = value-digits n in
    number_is lo hi (digits n) (leads-digits n) (all_digits n) (rw v l) (rw v h) ∙ rw v

-- digits that follow v
digits_value : (v : ℕ) (bs : List ℕ) → 0 < v → all digit bs ≡ true → digits (value v bs) ≡ digits v ++ bs
unfolding value all
digits_value v [] h e = sym (append-nil (digits v))
digits_value v (b ∷ bs) h e =
    let r = digit-range b (and_parts e).0 in
    let k : 48 + (b - 48) ≡ b = omega (arith, r.0) in
    digits_value (v * 10 + (b - 48)) bs (omega arith) (and_parts e).1
    ∙ rw (digits-snoc v (b - 48) h (omega (arith, r.1)), k, append_assoc)

digits_of : (bs : List ℕ) → leads bs ≡ true → all digit bs ≡ true → digits (value 0 bs) ≡ bs
unfolding leads value all
digits_of [] l e = absurd (false≢true l)
digits_of (b ∷ []) l e =
    let r = digit-range b (and_parts e).0 in
    let k : 48 + (b - 48) ≡ b = omega (arith, r.0) in
    let z : 0 * 10 + (b - 48) ≡ b - 48 = omega arith in
    rw (z, digits-small (b - 48) (omega (arith, r.1)), k)
digits_of (b ∷ c ∷ bs) l e =
    let n = eqb-false b 48 (not-true (eqb b 48) l) in
    let r = digit-range b (and_parts e).0 in
    let k : 48 + (b - 48) ≡ b = omega (arith, r.0) in
    let z : 0 * 10 + (b - 48) ≡ b - 48 = omega arith in
    rw z (digits_value (b - 48) (c ∷ bs) (omega (arith, r.0)) (and_parts e).1 ∙ rw (digits-small (b - 48) (omega (arith, r.1)), k))

no-is : (n : ℕ) → None ≡ Some n → ⊥
no-is n e = let z : ◌≡◌ {A = ℕ} 0 1 = cc in omega arith

-- WHAT IS ACCEPTED WRITES BACK TO THE SAME BYTES, for every limit
pub digits_number : (lo hi : ℕ) (bs : List ℕ) (n : ℕ) → read_number lo hi bs ≡ Some n → (digits n ≡ bs) × (lo ≤ n) × (n ≤ hi)
unfolding read_number
digits_number lo hi bs n e = go (leads bs and all digit bs and leb lo (value 0 bs) and leb (value 0 bs) hi) refl e
  where
    go : (t : Bool) → (leads bs and all digit bs and leb lo (value 0 bs) and leb (value 0 bs) hi) ≡ t
        → (if t then Some (value 0 bs) else None) ≡ Some n → (digits n ≡ bs) × (lo ≤ n) × (n ≤ hi)
    go true a x =
        let p = and_parts a in
        let q = and_parts p.1 in
        let r = and_parts q.1 in
        let v : value 0 bs ≡ n = cc in
        (ap digits (sym v) ∙ digits_of bs p.0 q.0, rw v at (leb-true lo (value 0 bs) r.0), rw v at (leb-true (value 0 bs) hi r.1))
    go false a x = absurd (no-is n x)

-- what the reader of a number goes by

pub leads-none : (s : List ℕ) → length s ≡ 0 → leads s ≡ false
unfolding leads
leads-none [] e = refl
leads-none (x ∷ s) e = absurd (omega arith)

pub leads_one : (s : List ℕ) → (length s ≡ 0 → ⊥) → length s ≤ 1 → leads s ≡ true
unfolding leads
leads_one [] h e = absurd (h refl)
leads_one (x ∷ []) h e = refl
leads_one (x ∷ y ∷ s) h e = absurd (omega arith)

pub leads-many : (s : List ℕ) → 1 < length s → (get_or s 0 0 ≡ 48 → ⊥) → leads s ≡ true
unfolding leads
leads-many [] h e = absurd (omega arith)
leads-many (x ∷ []) h e = absurd (omega arith)
leads-many (x ∷ y ∷ s) h e = simp (ne_eqb x 48 e)

pub leads-zero : (s : List ℕ) → 1 < length s → get_or s 0 0 ≡ 48 → leads s ≡ false
unfolding leads
leads-zero [] h e = absurd (omega arith)
leads-zero (x ∷ []) h e = absurd (omega arith)
leads-zero (x ∷ y ∷ s) h e = simp (eq-eqb x 48 e)

pub value-at : (v : ℕ) (s : List ℕ) (i : ℕ) → i < length s → value v (drop i s) ≡ value (v * 10 + (get_or s i 0 - 48)) (drop (i + 1) s)
unfolding value
value-at v s i h = rw (drop-cons s i 0, add-one)

pub value-end : (v : ℕ) (s : List ℕ) (i : ℕ) → length s ≤ i → value v (drop i s) ≡ v
unfolding value
value-end v s i h = rw (drop_of_length-le s h)

pub value-le : (v : ℕ) (s : List ℕ) → v ≤ value v s
unfolding value
value-le v [] = omega arith
value-le v (x ∷ s) = omega (arith, value-le (v * 10 + (x - 48)) s)

-- a number that has grown beyond hi stays there, whatever follows
pub number-past : (lo hi v i : ℕ) (s : List ℕ) → value 0 s ≡ value v (drop i s) → i < length s → hi < v * 10 + (get_or s i 0 - 48)
    → read_number lo hi s ≡ None
number-past lo hi v i s e h p =
    number-high lo hi s (omega (arith, e, value-at v s i h, value-le (v * 10 + (get_or s i 0 - 48)) (drop (i + 1) s), p))
