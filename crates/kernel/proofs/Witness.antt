-- The runs of specs/Witness: each is allowed or not, and goes as it says.
use Rattle.std.specs.Prelude.{if◌then◌else◌}
use mathlib.Core.Path.{◌≡◌, refl, sym, subst}
use mathlib.Core.Bool.{Bool, true, false}
use mathlib.Core.List.{List, [], ◌∷◌}
use mathlib.Core.Option.{some, some-injective, none-ne-some}
use Prim.Native.Nat.{ℕ, zero, suc, ◌<◌}
use native.Mathlib.Omega.{arith}
use lib.Dec.{eqb}
use lib.ListN.{get_or, drop}
use borrow.Author.Tests.{eqb-true}
use Rattle.words.specs.Choice.{◌and◌, ◌or◌}
use Rattle.words.specs.Lists.{sum, all, any, same}
use Rattle.table.specs.Paper.{Table, Part, part, parts, name_byte, right_name, right_number, right_count, right_row, waits, named, right_rows, right_table}
use Rattle.kernel.specs.Rules.{Job, job, Within, Apart, LegalRun}
use Rattle.kernel.specs.Witness.{listed, run_of, once, Allowed, open_table, third_later, TogetherIsNotWorst, TogetherEndsAt12}
use Rattle.kernel.specs.Witness.{paused_table, less_taken, LessIsAllowed, one_table, seldom, SeldomIsAllowed, full_table, every_t, ExactlyTIsAllowed}
use Rattle.kernel.specs.Witness.{late_table, late_jobs, LateIsServedInOrder, SuspendedIsNotReady}
use Rattle.kernel.specs.Witness.{tick_table, one_tick, LeastStretch, LongestStretch, MostStretches, short_table, LongestSuspension, LeastDistance}

-- a fact of each release that is listed
abbrev Each : (ℕ → List Part → Type 0) → List Job → Type 0
Each P [] = Unit {0}
Each P (job u l ∷ q) = P u l × Each P q

-- the releases are listed in order, and a fact of each two of them
abbrev Pairs : (ℕ → ℕ → Type 0) → List Job → Type 0
Pairs Q [] = Unit {0}
Pairs Q (job u l ∷ q) = Each (λ v m. (u < v) × Q u v) q × Pairs Q q

listed-each : (P : ℕ → List Part → Type 0) (q : List Job) → Each P q → (u : ℕ) (l : List Part) → listed q u ≡ some l → P u l
listed-each P [] h u l e = absurd (none-ne-some l e)
listed-each P (job v m ∷ q) h u l e = go (eqb u v) refl e (listed-each P q h.1 u l)
  where
    go : (b : Bool) → eqb u v ≡ b → (if b then some m else listed q u) ≡ some l → (listed q u ≡ some l → P u l) → P u l
    go true f e ih = subst (λ k. P u k) (some-injective m l e) (subst (λ w. P w m) (sym (eqb-true u v f)) h.0)
    go false f e ih = ih e

listed-pairs : (Q : ℕ → ℕ → Type 0) (q : List Job) → Pairs Q q →
    (u v : ℕ) (l m : List Part) → u < v → listed q u ≡ some l → listed q v ≡ some m → Q u v
listed-pairs Q [] h u v l m lt e f = absurd (none-ne-some l e)
listed-pairs Q (job w k ∷ q) h u v l m lt e f = go (eqb u w) (eqb v w) refl refl e f (listed-pairs Q q h.1 u v l m lt)
  where
    go : (a b : Bool) → eqb u w ≡ a → eqb v w ≡ b → (if a then some k else listed q u) ≡ some l → (if b then some k else listed q v) ≡ some m →
        (listed q u ≡ some l → listed q v ≡ some m → Q u v) → Q u v
    go true true x y e f ih = absurd (omega (arith, eqb-true u w x, eqb-true v w y))
    go true false x y e f ih =
        let z = listed-each (λ v m. (w < v) × Q w v) q h.0 v m f in
        subst (λ n. Q n v) (sym (eqb-true u w x)) z.1
    go false true x y e f ih =
        let z = listed-each (λ v m. (w < v) × Q w v) q h.0 u l e in
        absurd (omega (arith, z.0, eqb-true v w y))
    go false false x y e f ih = ih e f

-- each row's listed releases keep its rules
abbrev Kept : Table → List (List Job) → Type 0
Kept [] qs = Unit {0}
Kept (r ∷ t) qs = Each (λ u l. Within l (parts r.times)) (get_or qs 0 []) × Pairs (Apart r) (get_or qs 0 []) × Kept t (drop 1 qs)

kept-legal : (t : Table) (qs : List (List Job)) → Kept t qs → LegalRun t (run_of qs)
kept-legal [] qs h i lt = absurd (omega arith)
kept-legal (r ∷ t) qs h zero lt =
    record {
      apart = listed-pairs (Apart r) (get_or qs 0 []) h.1;
      within = listed-each (λ u l. Within l (parts r.times)) (get_or qs 0 []) h.0;
    }
kept-legal (r ∷ t) [] h (suc i) lt = kept-legal t [] h.2 i (omega arith)
kept-legal (r ∷ t) (q ∷ qs) h (suc i) lt = kept-legal t qs h.2 i (omega arith)

-- a run of listed releases is allowed
allowed : (t : Table) (qs : List (List Job)) → right_table t ≡ true → Kept t qs → Allowed t (run_of qs)
allowed t qs right h = record { right = right; legal = kept-legal t qs h }

-- the tables keep their rules
record Right : Type 0 where
  waiting : right_table open_table ≡ true
  paused : right_table paused_table ≡ true
  one : right_table one_table ≡ true
  full : right_table full_table ≡ true
  late : right_table late_table ≡ true
  tick : right_table tick_table ≡ true
  short : right_table short_table ≡ true

right : Right
unfolding name_byte right_name right_number right_count right_row waits named right_rows right_table sum all any same ◌and◌ ◌or◌
right = record { waiting = refl; paused = refl; one = refl; full = refl; late = refl; tick = refl; short = refl }

pub together-is-not-worst : TogetherIsNotWorst
together-is-not-worst = (allowed open_table third_later right.waiting (omega arith, omega arith, omega arith), omega arith, omega arith)

pub together-ends-at-12 : TogetherEndsAt12
unfolding ◌and◌
together-ends-at-12 = (refl, refl, refl)

pub less-is-allowed : LessIsAllowed
less-is-allowed = (allowed paused_table less_taken right.paused (omega arith, omega arith, omega arith), omega arith, omega arith)

pub seldom-is-allowed : SeldomIsAllowed
seldom-is-allowed = (allowed one_table seldom right.one (omega arith, omega arith, omega arith), omega arith, omega arith)

pub exactly-T-is-allowed : ExactlyTIsAllowed
exactly-T-is-allowed = (allowed full_table every_t right.full (omega arith, omega arith, omega arith), omega arith, omega arith)

pub late-is-served-in-order : LateIsServedInOrder
late-is-served-in-order = (allowed late_table late_jobs right.late (omega arith, omega arith, omega arith), omega arith, omega arith)

pub suspended-is-not-ready : SuspendedIsNotReady
suspended-is-not-ready = (omega arith, omega arith)

one-tick : Allowed tick_table (run_of one_tick)
one-tick = allowed tick_table one_tick right.tick (omega arith, omega arith, omega arith)

pub least-stretch : LeastStretch
least-stretch = record { allowed = one-tick; in_time = tt; barred = λ h. omega (arith, (h 0 (omega arith)).within 0 _ refl); late = omega arith }

pub longest-stretch : LongestStretch
longest-stretch = record { allowed = one-tick; in_time = tt; barred = λ h. omega (arith, (h 0 (omega arith)).within 0 _ refl); late = omega arith }

pub most-stretches : MostStretches
most-stretches = record { allowed = one-tick; in_time = tt; barred = λ h. ((h 0 (omega arith)).within 0 _ refl).3; late = omega arith }

pub longest-suspension : LongestSuspension
longest-suspension =
    record {
      allowed = allowed short_table ((job 0 (part 0 1 ∷ part 1 1 ∷ []) ∷ []) ∷ []) right.short (omega arith, omega arith, omega arith);
      in_time = tt;
      barred = λ h. omega (arith, (h 0 (omega arith)).within 0 _ refl);
      late = omega arith;
    }

pub least-distance : LeastDistance
least-distance =
    record {
      allowed = allowed full_table ((once 0 1 ∷ once 2 1 ∷ []) ∷ (once 0 2 ∷ []) ∷ []) right.full (omega arith, omega arith, omega arith);
      in_time = tt;
      barred = λ h. omega (arith, (h 0 (omega arith)).apart 0 1 _ _ (omega arith) refl refl);
      late = omega arith;
    }
