-- Laws of tests.
use Rattle.std.specs.Prelude.{if◌then◌else◌}
use mathlib.Core.Path.{◌≡◌, refl, sym}
use mathlib.Core.Bool.{Bool, true, false, not, false≢true}
use Prim.Native.Nat.{ℕ}
use lib.Dec.{ltb, leb}
use borrow.Author.Tests.{ltb-true, ltb-false, lt-leb, le-leb}
use Rattle.words.specs.Choice.{◌and◌, ◌or◌}

-- the two parts of an `and` that holds
pub and_parts : {a b : Bool} → (a and b) ≡ true → (a ≡ true) × (b ≡ true)
unfolding ◌and◌
and_parts {a = true} {b} e = (refl, e)
and_parts {a = false} {b} e = absurd (false≢true e)

pub and_both : {a b : Bool} → a ≡ true → b ≡ true → (a and b) ≡ true
unfolding ◌and◌
and_both p q = rw (p, q)

-- what follows a first test that holds, or fails
pub and-true : {a : Bool} (b : Bool) → a ≡ true → (a and b) ≡ b
unfolding ◌and◌
and-true b e = rw e

pub and-false : {a : Bool} (b : Bool) → a ≡ false → (a and b) ≡ false
unfolding ◌and◌
and-false b e = rw e

pub and-last-false : (a : Bool) {b : Bool} → b ≡ false → (a and b) ≡ false
unfolding ◌and◌
and-last-false true e = e
and-last-false false e = refl

pub or-true : {a : Bool} (b : Bool) → a ≡ true → (a or b) ≡ true
unfolding ◌or◌
or-true b e = rw e

pub or-false : {a : Bool} (b : Bool) → a ≡ false → (a or b) ≡ b
unfolding ◌or◌
or-false b e = rw e

-- two parts of an `or` that fails
pub or_parts : {a b : Bool} → (a or b) ≡ false → (a ≡ false) × (b ≡ false)
unfolding ◌or◌
or_parts {a = true} {b} e = absurd (false≢true (sym e))
or_parts {a = false} {b} e = (refl, e)

-- a choice whose test is known
pub if-true : {A : Type 0} {t : Bool} (a b : A) → t ≡ true → (if t then a else b) ≡ a
if-true a b e = rw e

pub if-false : {A : Type 0} {t : Bool} (a b : A) → t ≡ false → (if t then a else b) ≡ b
if-false a b e = rw e

-- what stands behind a first test matters only where it holds
pub and_same : (a : Bool) {b c : Bool} → (a ≡ true → b ≡ c) → (a and b) ≡ (a and c)
unfolding ◌and◌
and_same true f = f refl
and_same false f = refl

-- two tests that hold together are the same
pub tests_same : (a b : Bool) → (a ≡ true → b ≡ true) → (b ≡ true → a ≡ true) → a ≡ b
tests_same true b f g = sym (f refl)
tests_same false true f g = g refl
tests_same false false f g = refl

-- the opposite of `<` is `≤`
pub not-ltb : (a b : ℕ) → not (ltb a b) ≡ leb b a
not-ltb a b = go (ltb a b) refl
  where
    go : (t : Bool) → ltb a b ≡ t → not t ≡ leb b a
    go true e = sym (lt-leb b a (ltb-true a b e))
    go false e = sym (le-leb b a (ltb-false a b e))

pub or_nothing : (a : Bool) → (a or false) ≡ a
unfolding ◌or◌
or_nothing true = refl
or_nothing false = refl
