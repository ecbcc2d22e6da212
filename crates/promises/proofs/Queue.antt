-- A row whose jobs all end within R of the instant from which they are served, R at most T, never has two jobs.
use mathlib.Core.Path.{◌≡◌, refl, ◌∙◌}
use mathlib.Core.Bool.{Bool}
use mathlib.Core.List.{List, [], ◌∷◌}
use mathlib.Core.Option.{Option, none, some}
use Prim.Native.Nat.{ℕ, zero, suc, ◌+◌, ◌≤◌, ◌<◌}
use native.Mathlib.Omega.{arith}
use Rattle.table.specs.Paper.{Row, Part, parts}
use Rattle.kernel.specs.Rules.{Job, job, advance, keep, serve, arrive, Within, Legal, Complete}
use Rattle.promises.proofs.Finish.{served}

-- the jobs q of one row, tick by tick, where p tells the ticks that are free for it
pub record Evolves (p : ℕ → Bool) (releases : ℕ → Option (List Part)) (q : ℕ → List Job) : Type 0 where
  pub begins : q 0 ≡ []
  pub steps : (n : ℕ) → q (suc n) ≡ serve (p n) (arrive n (releases n) (q n))

module _ (r : Row) (p : ℕ → Bool) (releases : ℕ → Option (List Part)) (q : ℕ → List Job) (R : ℕ) where
  -- at n the row has no job, or one, which will have ended R after its release
  data Left (n : ℕ) : Type 0 where
    no-job : q n ≡ [] → Left n
    one-job : (s d : ℕ) (x : Part) (l given : List Part) → q n ≡ job s (x ∷ l) ∷ [] → s < n → n + d ≡ s + R →
        served p n d (x ∷ l) ≡ [] → releases s ≡ some given → Left n

  still : {A : Type 0} {x : Part} {l : List Part} → x ∷ l ≡ [] → A
  still e = let z : ◌≡◌ {A = ℕ} 0 1 = cc in absurd (omega arith)

  job-tick : (n s d : ℕ) (l given : List Part) → q (suc n) ≡ keep s (advance (p n) l) [] → s ≤ n → n + d ≡ s + R →
      served p n d l ≡ [] → releases s ≡ some given → Left (suc n)
  job-tick n s d [] given e le sum f i = no-job e
  job-tick n s zero (x ∷ l) given e le sum f i = still f
  job-tick n s (suc d) (x ∷ l) given e le sum f i = go (advance (p n) (x ∷ l)) e f
    where
      go : (m : List Part) → q (suc n) ≡ keep s m [] → served p (suc n) d m ≡ [] → Left (suc n)
      go [] e f = no-job e
      go (y ∷ m) e f = one-job s d y m given e (omega arith) (omega arith) f i

  module _
      (legal : Legal r releases)
      (evolves : Evolves p releases q)
      (short : R ≤ r.period)
      (ends : (x : ℕ) (l : List Part) → Within l (parts r.times) → served p x R l ≡ []) where
    next : (n : ℕ) → Left n → Left (suc n)
    next n (no-job e) = go (releases n) refl
      where
        go : (i : Option (List Part)) → releases n ≡ i → Left (suc n)
        go none h = no-job (evolves.steps n ∙ rw (h, e))
        go (some l) h = job-tick n n R l l (evolves.steps n ∙ rw (h, e)) (omega arith) (omega arith) (ends n l (legal.within n l h)) h
    next n (one-job s zero x l given e lt sum f i) = still f
    next n (one-job s (suc d) x l given e lt sum f i) = go (releases n) refl
      where
        go : (j : Option (List Part)) → releases n ≡ j → Left (suc n)
        go none h = job-tick n s (suc d) (x ∷ l) given (evolves.steps n ∙ rw (h, e)) (omega arith) sum f i
        go (some m) h = absurd (omega (arith, legal.apart s n given m lt i h))

    left : (n : ℕ) → Left n
    left zero = no-job evolves.begins
    left (suc n) = next n (left n)

    -- from s + R on no job that was released at s or before is left
    pub complete : (s n : ℕ) → s + R ≤ n → Complete s (q n)
    complete s n le = go (left n)
      where
        go : Left n → Complete s (q n)
        go (no-job e) = rw e tt
        go (one-job u zero x l given e lt sum f i) = still f
        go (one-job u (suc d) x l given e lt sum f i) = rw e (omega arith)
