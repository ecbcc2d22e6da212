-- A row of one stretch joins the rows above it into one server.
use mathlib.Core.Path.{◌≡◌, refl, sym, ap}
use mathlib.Core.Bool.{Bool, true, false, not, ◌&&◌, true≢false}
use mathlib.Core.List.{List, [], ◌∷◌, ◌++◌}
use mathlib.Core.Option.{Option, none, some}
use Prim.Native.Nat.{ℕ, zero, suc, ◌+◌, ◌-◌, ◌≤◌, ◌<◌}
use native.Mathlib.Omega.{arith}
use Rattle.table.specs.Paper.{Row, Part, part, parts, work}
use Rattle.kernel.specs.Rules.{Job, job, serve, ready, arrive, Within, Legal}
use Rattle.promises.proofs.Supply.{bit, Server}
use Rattle.promises.proofs.Queue.{Evolves}
use Rattle.promises.proofs.Window.{Spaced}

-- each job has one stretch left, and no suspension before it
abbrev pub Plain : List Job → Type 0
Plain [] = Unit {0}
Plain (job r [] ∷ q) = ⊥
Plain (job r (part w c ∷ []) ∷ q) = (w ≡ 0) × (1 ≤ c) × Plain q
Plain (job r (part w c ∷ y ∷ l) ∷ q) = ⊥

-- the work that a row's jobs have left
abbrev pub backlog : List Job → ℕ
backlog [] = 0
backlog (job r l ∷ q) = work l + backlog q

-- the work that a release brings
abbrev pub released : Option (List Part) → ℕ
released none = 0
released (some l) = work l

backlog-append : (q : List Job) (r : ℕ) (l : List Part) → backlog (q ++ (job r l ∷ [])) ≡ backlog q + work l
backlog-append [] r l = omega arith
backlog-append (job s m ∷ q) r l = omega (arith, backlog-append q r l)

plain-append : (q : List Job) (r w c : ℕ) → Plain q → w ≡ 0 → 1 ≤ c → Plain (q ++ (job r (part w c ∷ []) ∷ []))
plain-append [] r w c h z pos = (z, pos, tt)
plain-append (job s [] ∷ q) r w c h z pos = absurd h
plain-append (job s (part v k ∷ []) ∷ q) r w c h z pos = (h.0, h.1, plain-append q r w c h.2 z pos)
plain-append (job s (part v k ∷ y ∷ l) ∷ q) r w c h z pos = absurd h

-- what a tick does to plain jobs: with the processor they lose one tick of work, and they are ready exactly where they have work
record Ticked (b : Bool) (q : List Job) : Type 0 where
  plain : Plain (serve b q)
  falls : backlog (serve b q) ≡ backlog q - bit b
  idles : ready q ≡ false → backlog q ≡ 0
  works : ready q ≡ true → 0 < backlog q

ticked : (b : Bool) (q : List Job) → Plain q → Ticked b q
ticked b [] h = record { plain = tt; falls = omega arith; idles = λ e. refl; works = λ e. absurd (true≢false (sym e)) }
ticked b (job s [] ∷ q) h = absurd h
ticked b (job s (part w k ∷ y ∷ l) ∷ q) h = absurd h
ticked b (job s (part (suc w) k ∷ []) ∷ q) h = absurd (omega arith)
ticked false (job s (part zero k ∷ []) ∷ q) h =
    record { plain = h; falls = omega arith; idles = λ e. absurd (true≢false e); works = λ e. omega arith }
ticked true (job s (part zero zero ∷ []) ∷ q) h = absurd (omega arith)
ticked true (job s (part zero (suc zero) ∷ []) ∷ q) h =
    record { plain = h.2; falls = omega arith; idles = λ e. absurd (true≢false e); works = λ e. omega arith }
ticked true (job s (part zero (suc (suc k)) ∷ []) ∷ q) h =
    record { plain = (refl, omega arith, h.2); falls = omega arith; idles = λ e. absurd (true≢false e); works = λ e. omega arith }

arrive-backlog : (n : ℕ) (i : Option (List Part)) (q : List Job) → backlog (arrive n i q) ≡ backlog q + released i
arrive-backlog n none q = omega arith
arrive-backlog n (some l) q = backlog-append q n l

arrive-plain : (n C : ℕ) (i : Option (List Part)) (q : List Job) → ((l : List Part) → i ≡ some l → Within l (part 0 C ∷ [])) → Plain q →
    Plain (arrive n i q)
arrive-plain n C none q h g = g
arrive-plain n C (some []) q h g = absurd (h [] refl)
arrive-plain n C (some (part w c ∷ [])) q h g =
    let y = h (part w c ∷ []) refl in
    plain-append q n w c g (omega arith) y.1
arrive-plain n C (some (part w c ∷ x ∷ l)) q h g = absurd (h (part w c ∷ x ∷ l) refl).3

module _ (r : Row) (C : ℕ) (one : parts r.times ≡ part 0 C ∷ []) (releases : ℕ → Option (List Part)) (legal : Legal r releases) where
  within-one : (n : ℕ) (l : List Part) → releases n ≡ some l → Within l (part 0 C ∷ [])
  within-one n l e = rw one at (legal.within n l e)

  -- a row of one stretch releases at most its C in a tick, and nothing for T ticks behind a release
  pub spaced : Spaced r.period C (λ u. released (releases u))
  spaced =
      record { small = λ u. small (releases u) (within-one u); apart = λ u v lt gt nz. apart u v lt gt (releases u) (releases v) refl refl nz }
    where
      small : (i : Option (List Part)) → ((l : List Part) → i ≡ some l → Within l (part 0 C ∷ [])) → released i ≤ C
      small none h = omega arith
      small (some []) h = omega arith
      small (some (part w c ∷ [])) h = let y = h (part w c ∷ []) refl in omega arith
      small (some (part w c ∷ x ∷ l)) h = absurd (h (part w c ∷ x ∷ l) refl).3

      apart : (u v : ℕ) → u < v → v < u + r.period → (i j : Option (List Part)) → releases u ≡ i → releases v ≡ j → 0 < released i → released j ≡ 0
      apart u v lt gt i none e d nz = refl
      apart u v lt gt none (some m) e d nz = absurd (omega arith)
      apart u v lt gt (some l) (some m) e d nz = absurd (omega (arith, legal.apart u v l m lt e d))

  module _ (p : ℕ → Bool) (q : ℕ → List Job) (evolves : Evolves p releases q) where
    tick-of : (n : ℕ) → Plain (q n) → Ticked (p n) (arrive n (releases n) (q n))
    tick-of n h = ticked (p n) (arrive n (releases n) (q n)) (arrive-plain n C (releases n) (q n) (within-one n) h)

    plain : (n : ℕ) → Plain (q n)
    plain zero = rw evolves.begins tt
    plain (suc n) = rw (evolves.steps n) (tick-of n (plain n)).plain

    tick : (n : ℕ) → Ticked (p n) (arrive n (releases n) (q n))
    tick n = tick-of n (plain n)

    -- the rows above and this one are a server too
    pub joined : (a : ℕ → ℕ) → Server p a → Server (λ u. p u && not (ready (arrive u (releases u) (q u)))) (λ u. a u + released (releases u))
    joined a v =
        record {
          left = λ u. v.left u + backlog (q u);
          begins = omega (arith, v.begins, ap backlog evolves.begins);
          next = λ u. next u (p u) refl;
          idles = λ u e. idles u (p u) (ready (arrive u (releases u) (q u))) refl refl e;
          works = λ u e. works u (p u) (ready (arrive u (releases u) (q u))) refl refl e;
        }
      where
        next : (u : ℕ) (b : Bool) → p u ≡ b → v.left (suc u) + backlog (q (suc u)) ≡ (v.left u + backlog (q u) + (a u + released (releases u))) - 1
        next u true e =
            omega (arith, v.next u, v.idles u e, ap bit e, ap backlog (evolves.steps u), (tick u).falls, arrive-backlog u (releases u) (q u))
        next u false e =
            omega (arith, v.next u, v.works u e, ap bit e, ap backlog (evolves.steps u), (tick u).falls, arrive-backlog u (releases u) (q u))

        idles : (u : ℕ) (b g : Bool) → p u ≡ b → ready (arrive u (releases u) (q u)) ≡ g → b && not g ≡ true →
            v.left u + backlog (q u) + (a u + released (releases u)) ≡ 0
        idles u true true e d z = absurd (true≢false (sym z))
        idles u true false e d z = omega (arith, v.idles u e, (tick u).idles d, arrive-backlog u (releases u) (q u))
        idles u false g e d z = absurd (true≢false (sym z))

        works : (u : ℕ) (b g : Bool) → p u ≡ b → ready (arrive u (releases u) (q u)) ≡ g → b && not g ≡ false →
            0 < v.left u + backlog (q u) + (a u + released (releases u))
        works u true true e d z = omega (arith, (tick u).works d, arrive-backlog u (releases u) (q u))
        works u true false e d z = absurd (true≢false z)
        works u false g e d z = omega (arith, v.works u e)
