-- The recurrence, round by round, as a loop carries it out: what is left of the sequence gives the rest of the rounds and the result.
use mathlib.Core.Path.{◌≡◌, refl, ap, ◌∙◌}
use mathlib.Core.Bool.{Bool, true, false}
use mathlib.Core.List.{List, [], ◌∷◌}
use mathlib.Core.Option.{none, some}
use Prim.Native.Nat.{ℕ, zero, suc, ◌+◌, ◌-◌, ◌≤◌, ◌<◌}
use native.Mathlib.Omega.{arith}
use lib.ListN.{length}
use borrow.Author.Tests.{eq-eqb, ne_eqb, lt-ltb, le-ltb}
use Rattle.words.proofs.Choice.{or-true, or-false, if-true, if-false}
use Rattle.recurrence.specs.Figures.{stops, sequence_from, sequence, last, settled, result, rounds}

module _ (f : ℕ → ℕ) (d c : ℕ) where
  -- the part of the sequence that starts at t, after n rounds
  abbrev rest : ℕ → ℕ → List ℕ
  rest t n = sequence_from (d - c - n) f d t (stops f d t)

  -- after n rounds the next is at t
  pub record Going (t n : ℕ) : Type 0 where
    pub low : c + n ≤ t
    pub top : t ≤ d
    pub up : t ≤ f t
    pub counted : rounds f d c ≡ n + length (rest t n)
    pub ends : last c (sequence f d c) ≡ last t (rest t n)

  pub going_start : c ≤ d → c ≤ f c → Going c 0
  unfolding sequence
  going_start h u =
      let e : d - c ≡ d - c - 0 = omega arith in
      record {
        low = omega arith;
        top = h;
        up = u;
        counted = ap (λ m. length (sequence_from m f d c (stops f d c))) e ∙ (let z : length (rest c 0) ≡ 0 + length (rest c 0) = omega arith in z);
        ends = ap (λ m. last c (sequence_from m f d c (stops f d c))) e;
      }

  stopped : (m t : ℕ) → stops f d t ≡ true → sequence_from m f d t (stops f d t) ≡ t ∷ []
  stopped zero t e = refl
  stopped (suc m) t e = ap (sequence_from (suc m) f d t) e

  ended : (t n : ℕ) → Going t n → stops f d t ≡ true → (last c (sequence f d c) ≡ t) × (rounds f d c ≡ n + 1)
  ended t n g e =
      let s = stopped (d - c - n) t e in
      (g.ends ∙ ap (last t) s, g.counted ∙ ap (λ l. n + length l) s)

  -- work ends at a fixed point
  pub going-fixed : (t n : ℕ) → Going t n → f t ≡ t → (result f d c ≡ some t) × (rounds f d c ≡ n + 1)
  going-fixed t n g e =
      let s = ended t n g (or-true _ (eq-eqb (f t) t e)) in
      (ap (settled f) s.0 ∙ if-true _ _ (eq-eqb (f t) t e), s.1)

  -- work ends above d
  pub going-above : (t n : ℕ) → Going t n → (f t ≡ t → ⊥) → d < f t → (result f d c ≡ none) × (rounds f d c ≡ n + 1)
  going-above t n g ne h =
      let s = ended t n g (or-false _ (ne_eqb (f t) t ne) ∙ lt-ltb d (f t) h) in
      (ap (settled f) s.0 ∙ if-false _ _ (ne_eqb (f t) t ne), s.1)

  any-first : (m u : ℕ) (b : Bool) (v : ℕ) → last v (sequence_from m f d u b) ≡ last u (sequence_from m f d u b)
  any-first zero u b v = refl
  any-first (suc m) u true v = refl
  any-first (suc m) u false v = refl

  -- or goes on
  pub going_on : ((s t : ℕ) → s ≤ t → f s ≤ f t) → (t n : ℕ) → Going t n → (f t ≡ t → ⊥) → f t ≤ d → Going (f t) (n + 1)
  going_on mono t n g ne h =
      let m = d - c - (n + 1) in
      let lt : t < f t = omega (arith, g.up, ne) in
      let k : d - c - n ≡ suc m = omega (arith, g.low) in
      let e : stops f d t ≡ false = or-false _ (ne_eqb (f t) t ne) ∙ le-ltb d (f t) h in
      let s : rest t n ≡ t ∷ rest (f t) (n + 1) = ap (λ x. sequence_from x f d t (stops f d t)) k ∙ ap (sequence_from (suc m) f d t) e in
      record {
        low = omega (arith, g.low);
        top = h;
        up = mono t (f t) g.up;
        counted = g.counted ∙ ap (λ l. n + length l) s
            ∙ (let z : n + suc (length (rest (f t) (n + 1))) ≡ n + 1 + length (rest (f t) (n + 1)) = omega arith in z);
        ends = g.ends ∙ ap (last t) s ∙ any-first m (f t) (stops f d (f t)) t;
      }
