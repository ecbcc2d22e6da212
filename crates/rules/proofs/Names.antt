-- Laws of names and numbers, as the tests in code go by them.
use mathlib.Core.Path.{◌≡◌, refl, ◌∙◌}
use mathlib.Core.Bool.{Bool, true, false}
use mathlib.Core.List.{List}
use Prim.Native.Nat.{ℕ, ◌≤◌, ◌<◌}
use lib.Dec.{leb, eqb}
use mathlib.Core.Logic.{◌⊎◌, inl, inr}
use Rattle.std.specs.Prelude.{MatchBool}
use lib.ListN.{length}
use borrow.Author.Tests.{le-leb, lt-leb}
use Rattle.words.specs.Choice.{◌and◌, ◌or◌}
use Rattle.words.specs.Lists.{all}
use Rattle.words.proofs.Choice.{and-true, and-false, and-last-false, or-true, or-false}
use Rattle.table.specs.Limits.{longest_name}
use Rattle.table.specs.Paper.{name_byte, right_name, right_number}

-- b is between lo and hi, or it isn't, as a test of the library says
abbrev pub Tested : Bool → ℕ → ℕ → ℕ → Type 0
Tested t lo hi b = MatchBool t ((lo ≤ b) × (b ≤ hi)) ((b < lo) ⊎ (hi < b))

-- what a test of the library says of a byte
in-range : (b lo hi : ℕ) (t : Bool) → Tested t lo hi b → (leb lo b and leb b hi) ≡ t
in-range b lo hi true h = and-true _ (le-leb lo b h.0) ∙ le-leb b hi h.1
in-range b lo hi false (inl h) = and-false _ (lt-leb lo b h)
in-range b lo hi false (inr h) = and-last-false (leb lo b) (lt-leb b hi h)

-- a letter, or else a digit, or else a hyphen
pub letter_byte : (b : ℕ) (l : Bool) → Tested l 97 122 b → l ≡ true → name_byte b ≡ true
unfolding name_byte
letter_byte b l p e = or-true _ (in-range b 97 122 l p ∙ e)

pub other_byte : (b : ℕ) (l d : Bool) → Tested l 97 122 b → Tested d 48 57 b → l ≡ false
    → name_byte b ≡ (d or eqb b 45)
unfolding name_byte
other_byte b l d p q e = or-false _ (in-range b 97 122 l p ∙ e) ∙ rw (in-range b 48 57 d q) refl

pub name-short : (bs : List ℕ) → length bs < 1 → right_name bs ≡ false
unfolding right_name
name-short bs h = and-false _ (lt-leb 1 (length bs) h)

pub name-long : (bs : List ℕ) → longest_name < length bs → right_name bs ≡ false
unfolding right_name
name-long bs h = and-last-false (leb 1 (length bs)) (and-false _ (lt-leb (length bs) longest_name h))

pub name-bytes : (bs : List ℕ) → 1 ≤ length bs → length bs ≤ longest_name → right_name bs ≡ all name_byte bs
unfolding right_name
name-bytes bs l u = and-true _ (le-leb 1 (length bs) l) ∙ and-true _ (le-leb (length bs) longest_name u)

pub number-zero : (n : ℕ) → n < 1 → right_number n ≡ false
unfolding right_number
number-zero n h = and-false _ (lt-leb 1 n h)
