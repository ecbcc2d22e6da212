-- Exactness: in the full run the first job of a row of one C is complete at exactly R, or is not complete by D.
use Rattle.std.specs.Prelude.{if◌then◌else◌}
use mathlib.Core.Path.{◌≡◌, refl, ap, ◌∙◌, subst}
use mathlib.Core.Bool.{Bool, true, false}
use mathlib.Core.List.{List, [], ◌∷◌, ◌++◌}
use mathlib.Core.Option.{Option, none, some, some-injective, none-ne-some}
use Prim.Native.Nat.{ℕ, zero, suc, ◌+◌, ◌*◌, ◌/◌, ◌%◌, ◌≤◌, ◌<◌}
use native.Mathlib.Nat.{mod-add-div, mul-le-mul_left, zero-mod}
use native.Mathlib.Decide.{dec_le}
use native.Mathlib.Omega.{arith}
use lib.Dec.{eqb}
use lib.ListN.{length}
use borrow.Author.Tests.{eqb-true, eq-eqb}
use Rattle.words.proofs.Choice.{if-true}
use Rattle.ticks.specs.declared.Length.{Length}
use Rattle.table.specs.Paper.{Row, Table, row_at, Part, part, parts, work, total, waits, right_row, right_table}
use Rattle.kernel.specs.Rules.{Job, job, serve, arrive, after, Within, Legal, LegalRun, Complete, full_release, full}
use Rattle.verdicts.specs.declared.Bound.{Bound}
use Rattle.verdicts.specs.declared.Verdict.TheVariants.{Fits, Misses}
use Rattle.recurrence.specs.Figures.{arrivals, demand, right, own, verdict}
use Rattle.recurrence.proofs.Arrivals.{arrivals-zero, arrivals-next}
use Rattle.recurrence.proofs.Rows.{sane}
use Rattle.recurrence.specs.Fixed.{Smallest, NoneUpTo}
use Rattle.recurrence.proofs.Verdicts.{one-fits, one-whole, one-misses}
use Rattle.promises.proofs.Supply.{bit, sum_from, sum-add, sum-none, sum-last, idle, Server, balance}
use Rattle.promises.proofs.Finish.{Positive}
use Rattle.promises.proofs.Queue.{Evolves}
use Rattle.promises.proofs.Backlog.{released}
use Rattle.promises.proofs.Proper.{proper, positive, Single, single}
use Rattle.promises.proofs.Sound.{free_at, asked, server, evolves}
use Rattle.promises.proofs.Fits.{rules, above, fits-in-time}

arrive-behind : (n : ℕ) (i : Option (List Part)) (x : Job) (q : List Job) → (r : List Job) × (arrive n i (x ∷ q) ≡ x ∷ r)
arrive-behind n none x q = (q, refl)
arrive-behind n (some l) x q = (q ++ (job n l ∷ []), refl)

-- the first job of a row of one stretch, under a server, whatever comes behind it
module _
    (p : ℕ → Bool)
    (a : ℕ → ℕ)
    (v : Server p a)
    (releases : ℕ → Option (List Part))
    (q : ℕ → List Job)
    (ev : Evolves p releases q)
    (C : ℕ)
    (C-some : 1 ≤ C)
    (first : releases 0 ≡ some (part 0 C ∷ [])) where
  -- at n it has c ticks left, or it ended at an instant F that its work and what was released above it up to F fill
  data First (n : ℕ) : Type 0 where
    runs : (c : ℕ) (rest : List Job) → q n ≡ job 0 (part 0 c ∷ []) ∷ rest → 1 ≤ c → c + idle p 0 n ≡ C → First n
    ended : (F : ℕ) → F ≤ n → 1 ≤ F → C + sum_from a 0 F ≡ F → First n

  first-tick : (n c : ℕ) (rest : List Job) → arrive n (releases n) (q n) ≡ job 0 (part 0 c ∷ []) ∷ rest → 1 ≤ c →
      c + idle p 0 n ≡ C → First (suc n)
  first-tick n c rest e h s = go (p n) c refl h s (ev.steps n ∙ ap (serve (p n)) e)
    where
      longer : idle p 0 (suc n) ≡ idle p 0 n + bit (p n)
      longer = sum-last (λ u. bit (p u)) n 0 n (omega arith)

      go : (b : Bool) (c : ℕ) → p n ≡ b → 1 ≤ c → c + idle p 0 n ≡ C →
          q (suc n) ≡ serve (p n) (job 0 (part 0 c ∷ []) ∷ rest) → First (suc n)
      go false c d h s e = runs c rest (e ∙ ap (λ x. serve x (job 0 (part 0 c ∷ []) ∷ rest)) d) h (omega (arith, longer, ap bit d))
      go true zero d h s e = absurd (omega arith)
      go true (suc zero) d h s e =
          ended (suc n) (omega arith) (omega arith)
          (omega (arith, longer, balance p a v (suc n) 0 (suc n) (omega arith), v.begins, v.idles n d, v.next n, ap bit d))
      go true (suc (suc c)) d h s e =
          runs (suc c) rest (e ∙ ap (λ x. serve x (job 0 (part 0 (suc (suc c)) ∷ []) ∷ rest)) d) (omega arith) (omega (arith, longer, ap bit d))

  first-job : (n : ℕ) → First (suc n)
  first-job zero = first-tick 0 C [] (rw (first, ev.begins)) C-some (omega arith)
  first-job (suc n) = go (first-job n)
    where
      go : First (suc n) → First (suc (suc n))
      go (runs c rest e h s) =
          let z = arrive-behind (suc n) (releases (suc n)) (job 0 (part 0 c ∷ [])) rest in
          first-tick (suc n) c z.0 (ap (arrive (suc n) (releases (suc n))) e ∙ z.1) h s
      go (ended F le h e) = ended F (omega arith) h e

  not_yet : (n : ℕ) → 1 ≤ n → NoneUpTo n (λ y. C + sum_from a 0 y) → Complete 0 (q n) → ⊥
  not_yet zero h later done = omega arith
  not_yet (suc n) h later done = go (first-job n)
    where
      go : First (suc n) → ⊥
      go (runs c rest e h s) = let z = subst (Complete 0) e done in omega (arith, z.0)
      go (ended F le h e) = omega (arith, later F h e)

multiples-apart : (n : ℕ) → 1 ≤ n → (u v : ℕ) → u < v → u % n ≡ 0 → v % n ≡ 0 → u + n ≤ v
multiples-apart n h u v lt eu ev = go (dec_le (v / n) (u / n))
  where
    go : Dec (v / n ≤ u / n) → u + n ≤ v
    go (yes le) = absurd (omega (arith, mod-add-div u n, mod-add-div v n, mul-le-mul_left n le))
    go (no nle) =
        let le : suc (u / n) ≤ v / n = omega arith in
        omega (arith, mod-add-div u n, mod-add-div v n, mul-le-mul_left n le)

within-self : (m : List Part) → Positive m → Within m m
within-self [] h = tt
within-self (part s c ∷ m) h = (omega arith, h.0, omega arith, within-self m h.1)

if_some : {A : Type 0} (b : Bool) (x y : A) → (if b then some x else none) ≡ some y → (b ≡ true) × (x ≡ y)
if_some true x y e = (refl, some-injective x y e)
if_some false x y e = absurd (none-ne-some y e)

released-if : (b : Bool) (l : List Part) → released (if b then some l else none) ≡ bit b * work l
released-if true l = omega arith
released-if false l = omega arith

module _ (r : Row) (right-row : right_row r ≡ true) where
  full-row-legal : Legal r (λ u. full_release u r)
  full-row-legal =
      record {
        apart = λ u v l m lt eu ev.
            multiples-apart r.period (sane r right-row).period-some u v lt
            (eqb-true (u % r.period) 0 (if_some (eqb (u % r.period) 0) (parts r.times) l eu).0)
            (eqb-true (v % r.period) 0 (if_some (eqb (v % r.period) 0) (parts r.times) m ev).0);
        within = λ u l e.
            subst (λ m. Within m (parts r.times)) (if_some (eqb (u % r.period) 0) (parts r.times) l e).1
            (within-self (parts r.times) (positive r right-row));
      }

  full-row-sum : (n : ℕ) → sum_from (λ u. released (full_release u r)) 0 n ≡ arrivals r n * work (parts r.times)
  full-row-sum zero = omega (arith, ap (λ k. k * work (parts r.times)) (arrivals-zero r (sane r right-row).period-some))
  full-row-sum (suc n) =
      omega (
        arith,
        sum-last (λ u. released (full_release u r)) n 0 n (omega arith),
        full-row-sum n,
        released-if (eqb (n % r.period) 0) (parts r.times),
        ap (λ k. k * work (parts r.times)) (arrivals-next r (sane r right-row).period-some n),
      )

module _ (t : Table) (good : right_table t ≡ true) where
  -- the full run keeps the rules
  pub full-legal : LegalRun t (full (row_at t))
  full-legal i h = full-row-legal (row_at t i) ((proper t good).rules i h)

  full-asked : (k : ℕ) → k ≤ length t → (n : ℕ) → sum_from (asked (full (row_at t)) k) 0 n ≡ demand (row_at t) k n
  full-asked zero le n = sum-none n 0
  full-asked (suc k) le n =
      omega (
        arith,
        sum-add (asked (full (row_at t)) k) (λ u. released (full (row_at t) u k)) n 0,
        full-asked k (omega arith) n,
        full-row-sum (row_at t k) ((proper t good).rules k le) n,
      )

  module _ (k : ℕ) (at : k < length t) (one : waits (row_at t k) ≡ false) where
    row : Single (row_at t k)
    row = single (row_at t k) ((proper t good).rules k at) one

    first-waits : (n : ℕ) → 1 ≤ n → NoneUpTo n (right (row_at t) k (own (row_at t k))) → Complete 0 (after (full (row_at t)) n k) → ⊥
    first-waits n h later done =
        not_yet (free_at (full (row_at t)) k) (asked (full (row_at t)) k)
        (server (full (row_at t)) (row_at t) k (above t good k at (full (row_at t)) full-legal))
        (λ u. full (row_at t) u k) (λ n. after (full (row_at t)) n k) (evolves (full (row_at t)) k) row.C row.C-some
        (if-true (some (parts (row_at t k).times)) none (eq-eqb (0 % (row_at t k).period) 0 (zero-mod (row_at t k).period)) ∙ ap some row.alone) n h
        (λ y p e. later y p (omega (arith, full-asked k (omega arith) y, ap total row.alone))) done

    smallest : {b : Bound} {R : Length} → verdict (row_at t) k ≡ Fits b R → Smallest (right (row_at t) k (own (row_at t k))) R.0
    smallest {b} {R} e = ((one-fits (row_at t) k (rules t good k at) one R.0).0 (rw (one-whole (row_at t) k (rules t good k at) one b R e) at e)).0

    -- where a row of one C fits with R, its first job in the full run is not complete before instant R
    pub exact-before : {b : Bound} {R : Length} → verdict (row_at t) k ≡ Fits b R → (u : ℕ) → 1 ≤ u → u < R.0 → Complete 0 (after (full (row_at t)) u k) → ⊥
    exact-before e u h lt = first-waits u h (λ y p fix. omega (arith, (smallest e).least y p fix))

    -- and is complete from R on
    pub exact-from : {b : Bound} {R : Length} → verdict (row_at t) k ≡ Fits b R → (u : ℕ) → R.0 ≤ u → Complete 0 (after (full (row_at t)) u k)
    exact-from e u le = fits-in-time t good k at e (full (row_at t)) full-legal 0 u (omega arith)

    -- where it misses, its first job in the full run is not complete by D
    pub exact-misses : verdict (row_at t) k ≡ Misses → (u : ℕ) → 1 ≤ u → u ≤ (row_at t k).deadline → Complete 0 (after (full (row_at t)) u k) → ⊥
    exact-misses e u h le =
        first-waits u h (λ y p fix. omega (arith, (one-misses (row_at t) k (rules t good k at) one).0 e y p fix))
