-- When a job that its row serves from x on has ended, by the ticks that are free for it. No table and no machine.
use mathlib.Core.Path.{◌≡◌, refl, sym, subst}
use mathlib.Core.Bool.{Bool, true, false}
use mathlib.Core.List.{List, [], ◌∷◌}
use Prim.Native.Nat.{ℕ, zero, suc, ◌+◌, ◌-◌, ◌≤◌}
use native.Mathlib.Omega.{arith}
use Rattle.table.specs.Paper.{Part, part, total}
use Rattle.kernel.specs.Rules.{advance, Within}
use Rattle.promises.proofs.Supply.{bit, idle}

-- each stretch takes 1 tick or more
abbrev pub Positive : List Part → Type 0
Positive [] = Unit {0}
Positive (part s c ∷ l) = (1 ≤ c) × Positive l

-- what is left of a job that its row serves for n ticks from x on
abbrev pub served : (ℕ → Bool) → ℕ → ℕ → List Part → List Part
served p x zero l = l
served p x (suc n) l = served p (suc x) n (advance (p x) l)

-- chosen times take a tick or more for each stretch
pub within-positive : (l m : List Part) → Within l m → Positive l
within-positive [] [] h = tt
within-positive [] (x ∷ m) h = absurd h
within-positive (x ∷ l) [] h = absurd h
within-positive (part w c ∷ l) (part s k ∷ m) h = (h.1, within-positive l m h.3)

-- chosen times add up to no more than the row's
pub within-total : (l m : List Part) → Within l m → total l ≤ total m
within-total [] [] h = omega arith
within-total [] (x ∷ m) h = absurd h
within-total (x ∷ l) [] h = absurd h
within-total (part w c ∷ l) (part s k ∷ m) h = omega (arith, within-total l m h.3)

-- a tick leaves each stretch 1 tick or more
pub advance-positive : (b : Bool) (l : List Part) → Positive l → Positive (advance b l)
advance-positive b [] h = tt
advance-positive b (part (suc w) c ∷ l) h = h
advance-positive true (part zero zero ∷ l) h = h
advance-positive true (part zero (suc zero) ∷ l) h = h.1
advance-positive true (part zero (suc (suc c)) ∷ l) h = (omega arith, h.1)
advance-positive false (part zero c ∷ l) h = h

advance-total : (b : Bool) (l : List Part) → Positive l → total (advance b l) ≤ total l - bit b
advance-total b [] h = omega arith
advance-total true (part (suc w) c ∷ l) h = omega arith
advance-total false (part (suc w) c ∷ l) h = omega arith
advance-total true (part zero zero ∷ l) h = omega arith
advance-total true (part zero (suc zero) ∷ l) h = omega arith
advance-total true (part zero (suc (suc c)) ∷ l) h = omega arith
advance-total false (part zero c ∷ l) h = omega arith

-- whole: a job has ended where the free ticks number at least all that it has left
pub whole-ends : (p : ℕ → Bool) (n x : ℕ) (l : List Part) → Positive l → total l ≤ idle p x n → served p x n l ≡ []
whole-ends p zero x [] h le = refl
whole-ends p zero x (part w c ∷ l) h le = absurd (omega arith)
whole-ends p (suc n) x l h le =
    whole-ends p n (suc x) (advance (p x) l) (advance-positive (p x) l h) (omega (arith, advance-total (p x) l h))

served-nil : (p : ℕ → Bool) (n x : ℕ) → served p x n [] ≡ []
served-nil p zero x = refl
served-nil p (suc n) x = served-nil p n (suc x)

served-longer : (p : ℕ → Bool) (m n x : ℕ) (l : List Part) → m ≤ n → served p x m l ≡ [] → served p x n l ≡ []
served-longer p zero n x l h e = subst (λ (k : List Part). served p x n k ≡ []) (sym e) (served-nil p n x)
served-longer p (suc m) zero x l h e = absurd (omega arith)
served-longer p (suc m) (suc n) x l h e = served-longer p m n (suc x) (advance (p x) l) (omega arith) e

-- l is what comes behind a stretch, and takes at most B ticks from wherever it starts
module _ (p : ℕ → Bool) (l : List Part) (B : ℕ) (rest : (y : ℕ) → served p y B l ≡ []) where
  stretch-ends : (n R x c : ℕ) → R + B ≤ n → 1 ≤ c → c ≤ idle p x R → served p x n (part zero c ∷ l) ≡ []
  stretch-ends n zero x c h pos le = absurd (omega arith)
  stretch-ends zero (suc R) x c h pos le = absurd (omega arith)
  stretch-ends (suc n) (suc R) x c h pos le = go (λ k. stretch-ends n R (suc x) k (omega arith)) (p x) c pos le
    where
      go : ((k : ℕ) → 1 ≤ k → k ≤ idle p (suc x) R → served p (suc x) n (part zero k ∷ l) ≡ []) →
          (b : Bool) (k : ℕ) → 1 ≤ k → k ≤ bit b + idle p (suc x) R → served p (suc x) n (advance b (part zero k ∷ l)) ≡ []
      go ih false k pos le = ih k pos (omega arith)
      go ih true zero pos le = absurd (omega arith)
      go ih true (suc zero) pos le = served-longer p B n (suc x) l (omega arith) (rest (suc x))
      go ih true (suc (suc k)) pos le = ih (suc k) (omega arith) (omega arith)

  part-ends : (w n R x c : ℕ) → w + R + B ≤ n → 1 ≤ c → ((y : ℕ) → c ≤ idle p y R) → served p x n (part w c ∷ l) ≡ []
  part-ends zero n R x c h pos le = stretch-ends n R x c (omega arith) pos (le x)
  part-ends (suc w) zero R x c h pos le = absurd (omega arith)
  part-ends (suc w) (suc n) R x c h pos le = part-ends w n R (suc x) c (omega arith) pos le

-- B bounds a job stretch by stretch: each C has a length R in which there are always C free ticks
pub data Splits (p : ℕ → Bool) : List Part → ℕ → Type 0 where
  no_part : Splits p [] 0
  one-part : {s c : ℕ} {m : List Part} {B : ℕ} (R : ℕ) → ((y : ℕ) → c ≤ idle p y R) → Splits p m B → Splits p (part s c ∷ m) (s + R + B)

-- split: a job has ended where each stretch had its length, and each suspension its S
pub split-ends : (p : ℕ → Bool) {m : List Part} {B : ℕ} → Splits p m B → (l : List Part) → Within l m → (x : ℕ) → served p x B l ≡ []
split-ends p no_part [] h x = refl
split-ends p no_part (a ∷ l) h x = absurd h
split-ends p (one-part R f d) [] h x = absurd h
split-ends p (one-part {s} {c} {m} {B} R f d) (part w k ∷ l) h x =
    part-ends p l B (λ y. split-ends p d l h.3 y) w (s + R + B) R x k (omega arith) h.1 (λ y. omega (arith, f y))
