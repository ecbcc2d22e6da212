-- The recurrence comes to the smallest positive fixed point, or stops above d where there is none up to d.
use mathlib.Core.Path.{◌≡◌, refl, ap, ◌∙◌}
use mathlib.Core.Bool.{Bool, true, false}
use mathlib.Core.List.{List, [], ◌∷◌}
use mathlib.Core.Option.{none, some}
use mathlib.Core.Logic.{◌⊎◌, inl, inr, ⊎_elim, ◌↔◌}
use Prim.Native.Nat.{ℕ, zero, suc, ◌+◌, ◌-◌, ◌≤◌, ◌<◌}
use native.Mathlib.Nat.{mul-le-mul_right}
use native.Mathlib.Omega.{arith}
use native.Mathlib.Numerals.{add-one}
use lib.Dec.{eqb, ltb}
use lib.ListN.{length}
use borrow.Author.Tests.{eqb-true, eqb-false, ltb-true, ltb-false, eq-eqb, ne_eqb}
use Rattle.words.proofs.Choice.{or_parts, or-false, if-true, if-false}
use Rattle.table.specs.Paper.{Row, parts, work}
use Rattle.recurrence.specs.Fixed.{Smallest, NoneUpTo, Took, settles, passes, goes_on}
use Rattle.recurrence.specs.Figures.{demand, stops, sequence_from, sequence, last, settled, result, rounds}
use Rattle.recurrence.proofs.Arrivals.{arrivals-mono}

module _ (f : ℕ → ℕ) (d : ℕ) where
  why-stopped : (t : ℕ) → stops f d t ≡ true → (f t ≡ t) ⊎ (d < f t)
  why-stopped t e = go (eqb (f t) t) refl
    where
      go : (b : Bool) → eqb (f t) t ≡ b → (f t ≡ t) ⊎ (d < f t)
      go true h = inl (eqb-true (f t) t h)
      go false h = inr (ltb-true d (f t) (rw (or-false (ltb d (f t)) h) at e))

  why-on : (t : ℕ) → stops f d t ≡ false → (f t ≡ t → ⊥) × (f t ≤ d)
  why-on t e =
      let h = or_parts e in
      (eqb-false (f t) t h.0, ltb-false d (f t) h.1)

  -- t is on the way: f has not fallen there, it is at most d, and no y with f y ≤ y lies below it
  record OnWay (t : ℕ) : Type 0 where
    up : t ≤ f t
    low : t ≤ d
    under : (y : ℕ) → f y ≤ y → t ≤ y

  -- where the sequence from t on ends
  record End (t : ℕ) (l : List ℕ) : Type 0 where
    way : OnWay (last t l)
    from : t ≤ last t l
    stop : stops f d (last t l) ≡ true
    some : 0 < length l
    few : length l ≤ suc (d - t)

  module _ (mono : (s t : ℕ) → s ≤ t → f s ≤ f t) where
    one_more : (t u : ℕ) (l : List ℕ) → t < u → u ≤ d → End u l → End t (t ∷ l)
    one_more t u [] lt le h = absurd (omega (arith, h.some))
    one_more t u (x ∷ l) lt le h =
        record { way = h.way; from = omega (arith, h.from); stop = h.stop; some = omega arith; few = omega (arith, h.few) }

    ends : (n t : ℕ) (b : Bool) → stops f d t ≡ b → OnWay t → d - t ≤ n → End t (sequence_from n f d t b)
    ends zero t true e g le = record { way = g; from = omega arith; stop = e; some = omega arith; few = omega arith }
    ends zero t false e g le = absurd ((why-on t e).0 (omega (arith, (why-on t e).1, g.up)))
    ends (suc n) t true e g le = record { way = g; from = omega arith; stop = e; some = omega arith; few = omega arith }
    ends (suc n) t false e g le =
        let h = why-on t e in
        let lt : t < f t = omega (arith, g.up, h.0) in
        one_more t (f t) (sequence_from n f d (f t) (stops f d (f t))) lt h.1
        (ends n (f t) (stops f d (f t)) refl
        (record { up = mono t (f t) g.up; low = h.1; under = λ y fix. omega (arith, mono t y (g.under y fix)) })
        (omega arith))

    -- its length is the number of times that f was worked out
    took : (n t : ℕ) (b : Bool) → stops f d t ≡ b → t ≤ f t → d - t ≤ n → Took f d t (length (sequence_from n f d t b))
    took zero t true e g le = ⊎_elim settles passes (why-stopped t e)
    took zero t false e g le = absurd ((why-on t e).0 (omega (arith, (why-on t e).1)))
    took (suc n) t true e g le = ⊎_elim settles passes (why-stopped t e)
    took (suc n) t false e g le =
        let h = why-on t e in
        rw (← add-one) (goes_on h.0 (omega (arith, h.1)) (took n (f t) (stops f d (f t)) refl (mono t (f t) g) (omega (arith, h.0))))

    module _ (c : ℕ) (positive : 1 ≤ c) (fits : c ≤ d) (above : (t : ℕ) → c ≤ f t) where
      ended : End c (sequence f d c)
      unfolding sequence
      ended =
          ends (d - c) c (stops f d c) refl (record { up = above c; low = fits; under = λ y e. omega (arith, above y) }) (omega arith)

      data Answer : Type 0 where
        found : (R : ℕ) → result f d c ≡ some R → Smallest f R → R ≤ d → ((y : ℕ) → f y ≤ y → R ≤ y) → Answer
        missing : result f d c ≡ none → ((y : ℕ) → f y ≤ y → d < y) → Answer

      answer : Answer
      answer = go (last c (sequence f d c)) refl ended.way ended.from (why-stopped (last c (sequence f d c)) ended.stop)
        where
          go : (z : ℕ) → last c (sequence f d c) ≡ z → OnWay z → c ≤ z → (f z ≡ z) ⊎ (d < f z) → Answer
          go z e g le (inl fix) =
              found z (ap (settled f) e ∙ if-true (some z) none (eq-eqb (f z) z fix))
              (record { positive = omega arith; fixed = fix; least = λ y p e. omega (arith, g.under y (omega arith)) }) g.low g.under
          go z e g le (inr big) =
              missing (ap (settled f) e ∙ if-false (some z) none (ne_eqb (f z) z (λ fix. omega (arith, g.low))))
              (λ y h. omega (arith, mono z y (g.under y h)))

      -- the result is R exactly where R is the smallest positive fixed point, and at most d
      pub result-some : (R : ℕ) → (result f d c ≡ some R) ↔ (Smallest f R × (R ≤ d))
      result-some R = (to answer, from answer)
        where
          to : Answer → result f d c ≡ some R → Smallest f R × (R ≤ d)
          to (found S e l le under) h = let z : S ≡ R = cc in (rw z at l, omega arith)
          to (missing e n) h = let z : ◌≡◌ {A = ℕ} 0 1 = cc in absurd (omega arith)

          from : Answer → Smallest f R × (R ≤ d) → result f d c ≡ some R
          from (found S e l le under) h =
              let z : S ≡ R = omega (arith, l.least R h.0.positive h.0.fixed, h.0.least S l.positive l.fixed) in
              rw z at e
          from (missing e n) h = absurd (omega (arith, n R (omega (arith, h.0.fixed))))

      -- there is none exactly where no positive fixed point is at most d
      pub result-none : (result f d c ≡ none) ↔ NoneUpTo d f
      result-none = (to answer, from answer)
        where
          to : Answer → result f d c ≡ none → NoneUpTo d f
          to (found S e l le under) h = let z : ◌≡◌ {A = ℕ} 0 1 = cc in absurd (omega arith)
          to (missing e n) h = λ y p fix. omega (arith, n y (omega arith))

          from : Answer → NoneUpTo d f → result f d c ≡ none
          from (found S e l le under) h = absurd (omega (arith, h S l.positive l.fixed))
          from (missing e n) h = e

      -- rounds: the right side is worked out so often
      pub rounds-took : Took f d c (rounds f d c)
      unfolding sequence
      rounds-took = took (d - c) c (stops f d c) refl (above c) (omega arith)

      -- the right side is worked out at most d - c + 1 times
      pub rounds-few : rounds f d c ≤ d - c + 1
      rounds-few = omega (arith, ended.few)

-- a longer window asks for no less
pub demand-mono : (rows : ℕ → Row) (k : ℕ) → ((i : ℕ) → i < k → 1 ≤ (rows i).period) → (s t : ℕ) → s ≤ t → demand rows k s ≤ demand rows k t
demand-mono rows zero h s t le = omega arith
demand-mono rows (suc k) h s t le =
    omega (
      arith,
      demand-mono rows k (λ i lt. h i (omega arith)) s t le,
      mul-le-mul_right (work (parts (rows k).times)) (arrivals-mono (rows k) (h k (omega arith)) s t le),
    )
