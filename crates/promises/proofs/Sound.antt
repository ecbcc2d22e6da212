-- The machine and the figures meet: what the rows above a row take, and when each of its jobs has ended, in a run that the rules allow.
use mathlib.Core.Path.{◌≡◌, refl, ap}
use mathlib.Core.Bool.{Bool, true≢false}
use mathlib.Core.List.{List, []}
use Prim.Native.Nat.{ℕ, zero, suc, ◌+◌, ◌*◌, ◌≤◌, ◌<◌}
use native.Mathlib.Omega.{arith}
use Rattle.table.specs.Paper.{Row, Part, parts, work}
use Rattle.kernel.specs.Rules.{free, after, Input, Within, Legal, Complete}
use Rattle.recurrence.specs.Figures.{arrivals, demand, own}
use Rattle.promises.proofs.Supply.{sum_from, sum-add, sum-none, Server, Bounded, server-bounded, supply}
use Rattle.promises.proofs.Finish.{served, Splits, whole-ends, split-ends, within-positive, within-total}
use Rattle.promises.proofs.Window.{window}
use Rattle.promises.proofs.Queue.{Evolves, complete}
use Rattle.promises.proofs.Backlog.{released, joined, spaced}
use Rattle.promises.proofs.Proper.{Single}

module _ (run : ℕ → Input) where
  -- tick u is free for row k
  abbrev pub free_at : ℕ → ℕ → Bool
  free_at k u = free u (run u) (after run u) k

  -- the jobs of row k, by themselves
  pub evolves : (k : ℕ) → Evolves (free_at k) (λ u. run u k) (λ n. after run n k)
  evolves k = record { begins = refl; steps = λ n. refl }

  -- the work that the rows above row k release in tick u
  abbrev pub asked : ℕ → ℕ → ℕ
  asked zero u = 0
  asked (suc k) u = asked k u + released (run u k)

  module _ (rows : ℕ → Row) where
    -- the rows above row k, of one C each, keep the rules of releases
    pub record Above (k : ℕ) : Type 0 where
      pub one : (i : ℕ) → i < k → Single (rows i)
      pub legal : (i : ℕ) → i < k → Legal (rows i) (λ u. run u i)

    fewer : (k : ℕ) → Above (suc k) → Above k
    fewer k h = record { one = λ i lt. h.one i (omega arith); legal = λ i lt. h.legal i (omega arith) }

    -- such rows are one server
    pub server : (k : ℕ) → Above k → Server (free_at k) (asked k)
    server zero h =
        record { left = λ u. 0; begins = refl; next = λ u. refl; idles = λ u e. refl; works = λ u e. absurd (true≢false e) }
    server (suc k) h =
        let r = h.one k (omega arith) in
        joined (rows k) r.C r.alone (λ u. run u k) (h.legal k (omega arith)) (free_at k) (λ n. after run n k) (evolves k) (asked k)
        (server k (fewer k h))

    row-window : (k : ℕ) → Single (rows k) → Legal (rows k) (λ u. run u k) → (s t : ℕ) →
        sum_from (λ u. released (run u k)) s t ≤ arrivals (rows k) t * work (parts (rows k).times)
    row-window k r legal s t =
        omega (
          arith,
          window (rows k) r.C (λ u. released (run u k)) r.T-some (spaced (rows k) r.C r.alone (λ u. run u k) legal) s t,
          ap (λ m. arrivals (rows k) t * work m) r.alone,
        )

    asked-bound : (k : ℕ) → Above k → (s t : ℕ) → sum_from (asked k) s t ≤ demand rows k t
    asked-bound zero h s t = omega (arith, sum-none t s)
    asked-bound (suc k) h s t =
        omega (
          arith,
          sum-add (asked k) (λ u. released (run u k)) t s,
          asked-bound k (fewer k h) s t,
          row-window k (h.one k (omega arith)) (h.legal k (omega arith)) s t,
        )

    -- they take at most what the recurrence counts
    pub bounded : (k : ℕ) → Above k → Bounded (free_at k) (demand rows k)
    bounded k h = server-bounded (free_at k) (asked k) (server k h) (demand rows k) (asked-bound k h)

    -- each job of row k has ended within R of the instant from which it is served
    abbrev pub EndsIn : ℕ → ℕ → Type 0
    EndsIn k R = (x : ℕ) (l : List Part) → Within l (parts (rows k).times) → served (free_at k) x R l ≡ []

    -- whole: so it is where all C and S of row k, with what is taken above it in R ticks, fit into R
    pub whole_row : (k : ℕ) (taken : ℕ → ℕ) → Bounded (free_at k) taken → (R : ℕ) → own (rows k) + taken R ≤ R → EndsIn k R
    whole_row k taken b R h x l w =
        whole-ends (free_at k) R x l (within-positive l (parts (rows k).times) w)
        (omega (arith, within-total l (parts (rows k).times) w, supply (free_at k) taken b (own (rows k)) R h x))

    -- split: and where each stretch has its own length
    pub split-row : (k B : ℕ) → Splits (free_at k) (parts (rows k).times) B → EndsIn k B
    split-row k B d x l w = split-ends (free_at k) d l w x

    -- then from s + R on no job that was released at s or before is left, where R is at most T
    pub ends-complete : (k R : ℕ) → EndsIn k R → R ≤ (rows k).period → Legal (rows k) (λ u. run u k) → (s n : ℕ) → s + R ≤ n → Complete s (after run n k)
    ends-complete k R ends le legal s n h =
        complete (rows k) (free_at k) (λ u. run u k) (λ n. after run n k) R legal (evolves k) le ends s n h
