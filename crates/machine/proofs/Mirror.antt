-- One row of the full run: its cell stands for its queue of the kernel's rules, before a tick, with the tick's release, and after the tick.
use Rattle.std.specs.Prelude.{if◌then◌else◌}
use mathlib.Core.Path.{◌≡◌, refl, sym, ◌∙◌, ap}
use mathlib.Core.Bool.{Bool, true, false}
use mathlib.Core.List.{List, [], ◌∷◌, ◌++◌}
use mathlib.Core.Option.{none, some}
use Prim.Native.Nat.{ℕ, zero, suc, ◌+◌, ◌-◌, ◌*◌, ◌%◌, ◌≤◌, ◌<◌}
use native.Mathlib.Omega.{arith}
use native.Mathlib.Nat.{mul-mod_left, mod-add-div', div-eq_of_lt-le}
use native.Mathlib.Decide.{dec_le}
use borrow.Author.Tests.{lt-ltb, le-ltb, le-leb, lt-leb, eq-eqb, ne_eqb, eqb-true, eqb-false}
use lib.Dec.{eqb, leb}
use lib.ListN.{length, drop, get_or, get_or-eq_default, drop_of_length-le}
use lib.Seq.{drop-cons}
use Rattle.ticks.specs.declared.Instant.{Instant}
use Rattle.table.specs.Limits.{most_times}
use Rattle.table.specs.Paper.{Row, Part, part, behind, parts}
use Rattle.table.specs.declared.Row.{Row as RowValue}
use Rattle.ticks.specs.Ticks.{long, instant}
use Rattle.machine.specs.declared.Cell.{Cell}
use Rattle.kernel.specs.Rules.{Job, job, spend, keep, serve, ready, arrive, full_release}
use Rattle.machine.specs.Tick.{cell_of, time_at, ended_of, served_of}
use Rattle.machine.specs.Queue.{left_of, full_jobs, jobs_of, queue_of}

-- the time at a place of a row, 0 behind the last
abbrev time : Row → ℕ → ℕ
time r j = get_or r.times j 0

-- the value is that of the row, which keeps its rules
pub record Planned (r : Row) (v : RowValue) : Type 0 where
  pub period : 1 ≤ r.period
  pub some-time : 1 ≤ length r.times
  pub short : length r.times ≤ most_times
  pub no_zero : (j : ℕ) → j < length r.times → 1 ≤ time r j
  pub times : (j : ℕ) → time_at v j ≡ time r j
  pub turn : v.period.0 ≡ r.period

-- the cell of a job of which nothing is done
pub record Fresh (r : Row) (c : Cell) : Type 0 where
  pub ready : c.ready.0 ≡ c.release.0
  pub place : c.place ≡ 0
  pub left : c.left.0 ≡ time r 0

-- the cell stands for the queue q, what is left being counted from n: `jobs` jobs are in the queue, and the next release is at `next`
pub record Stands (r : Row) (n next : ℕ) (c : Cell) (q : List Job) : Type 0 where
  pub jobs : ℕ
  pub due : c.release.0 + jobs * r.period ≡ next
  pub waits : c.release.0 ≤ c.ready.0
  pub some_left : 1 ≤ c.left.0
  pub fresh : jobs ≡ 0 → Fresh r c
  pub placed : c.place < length r.times
  pub is : q ≡ jobs_of r n c jobs

-- before the tick n: the next release is at n or after it
pub record Mirror (r : Row) (n : ℕ) (c : Cell) (q : List Job) : Type 0 where
  pub next : ℕ
  pub turns : ℕ
  pub multiple : next ≡ turns * r.period
  pub soon : n ≤ next
  pub near : next < n + r.period
  pub stands : Stands r n next c q

-- in the tick n, with its release: the next one is after it
pub record Arrived (r : Row) (n : ℕ) (c : Cell) (q : List Job) : Type 0 where
  pub next : ℕ
  pub turns : ℕ
  pub multiple : next ≡ turns * r.period
  pub soon : n < next
  pub near : next ≤ n + r.period
  pub stands : Stands r n next c q

-- the next release is in this tick exactly where the tick's number is a multiple of the period
module _ (T n next d : ℕ) (soon : n ≤ next) (due : next ≡ d * T) where
  due-now : next < n + T → n % T ≡ 0 → next ≡ n
  due-now near e = grind (arith, mod-add-div' n T)

  due-later : (n % T ≡ 0 → ⊥) → n < next
  due-later e = go (dec_le next n)
    where
      go : Dec (next ≤ n) → n < next
      go (yes le) =
          let a : n ≡ d * T = omega arith in
          absurd (e (cc (mul-mod_left d T)))
      go (no le) = omega arith

-- one full job more, behind the others
full-more : (r : Row) (from j n : ℕ) → n ≡ from + j * r.period → full_jobs r from j ++ (job n (parts r.times) ∷ []) ≡ full_jobs r from (suc j)
full-more r from zero n e = grind arith
full-more r from (suc j) n e = ap (λ q. job from (parts r.times) ∷ q) (full-more r (from + r.period) j n (omega arith))

-- the parts of a row, by its first time and what is behind it
parts_are : (ts : List ℕ) → 1 ≤ length ts → parts ts ≡ part 0 (get_or ts 0 0) ∷ behind (drop 1 ts)
parts_are [] h = absurd (omega arith)
parts_are (c ∷ ts) h = refl

-- what is behind the stretch at place p: nothing, or a suspension and a stretch
behind-last : (ts : List ℕ) (p : ℕ) → length ts ≤ p + 2 → behind (drop (p + 1) ts) ≡ []
behind-last ts p h = go (dec_le (length ts) (p + 1))
  where
    go : Dec (length ts ≤ p + 1) → behind (drop (p + 1) ts) ≡ []
    go (yes le) = ap behind (drop_of_length-le ts le)
    go (no nle) = grind (arith, drop-cons ts (p + 1) 0, drop_of_length-le ts {i = suc (p + 1)})

behind-next : (ts : List ℕ) (p : ℕ) → p + 2 < length ts → behind (drop (p + 1) ts) ≡ part (get_or ts (p + 1) 0) (get_or ts (p + 2) 0) ∷ behind (drop (p + 2 + 1) ts)
behind-next ts p h =
    let a : suc (p + 1) ≡ p + 2 = omega arith in
    let b : suc (p + 2) ≡ p + 2 + 1 = omega arith in
    ap behind
    (drop-cons ts (p + 1) 0 (omega arith)
    ∙ ap (λ k. get_or ts (p + 1) 0 ∷ drop k ts) a
    ∙ ap (λ l. get_or ts (p + 1) 0 ∷ l) (drop-cons ts (p + 2) 0 h)
    ∙ ap (λ k. get_or ts (p + 1) 0 ∷ get_or ts (p + 2) 0 ∷ drop k ts) b)

-- the cell's job with w ticks of suspension and l of its stretch to go, and j late ones behind it
abbrev queued : Row → Cell → ℕ → ℕ → ℕ → List Job
queued r c w l j = job c.release.0 (part w l ∷ behind (drop (c.place + 1) r.times)) ∷ full_jobs r (c.release.0 + r.period) j

module _ (r : Row) (v : RowValue) (ok : Planned r v) where
  fresh-left : (n : ℕ) (c : Cell) → Fresh r c → c.release.0 ≤ n → left_of r n c ≡ parts r.times
  fresh-left n c f e =
      let a : c.ready.0 - n ≡ 0 = omega (arith, f.ready) in
      let b : c.place + 1 ≡ 1 = omega (arith, f.place) in
      ap (λ k. part k c.left.0 ∷ behind (drop (c.place + 1) r.times)) a
      ∙ ap (λ k. part 0 k ∷ behind (drop (c.place + 1) r.times)) f.left
      ∙ ap (λ k. part 0 (time r 0) ∷ behind (drop k r.times)) b
      ∙ sym (parts_are r.times ok.some-time)

  -- a release: the queue has one job more, which is the cell's own where the queue was empty
  jobs-more : (n : ℕ) (c : Cell) (j : ℕ) → n ≡ c.release.0 + j * r.period → (j ≡ 0 → Fresh r c) → jobs_of r n c j ++ (job n (parts r.times) ∷ []) ≡ jobs_of r n c (suc j)
  jobs-more n c zero e f =
      let z : n ≡ c.release.0 = omega arith in
      ap (λ k. job k (parts r.times) ∷ []) z ∙ ap (λ l. job c.release.0 l ∷ []) (sym (fresh-left n c (f refl) (omega arith)))
  jobs-more n c (suc j) e f = ap (λ q. job c.release.0 (left_of r n c) ∷ q) (full-more r (c.release.0 + r.period) j n (omega arith))

  pub arrives : (n : ℕ) (c : Cell) (q : List Job) → Mirror r n c q → Arrived r n c (arrive n (full_release n r) q)
  arrives n c q m = go (eqb (n % r.period) 0) refl
    where
      s : Stands r n m.next c q
      s = m.stands

      go : (b : Bool) → eqb (n % r.period) 0 ≡ b → Arrived r n c (arrive n (if b then some (parts r.times) else none) q)
      go true t =
          let e : m.next ≡ n = due-now r.period n m.next m.turns m.soon m.multiple m.near (eqb-true (n % r.period) 0 t) in
          record {
            next = n + r.period;
            turns = suc m.turns;
            multiple = omega (arith, m.multiple);
            soon = omega (arith, ok.period);
            near = omega arith;
            stands =
                record {
                  jobs = suc s.jobs;
                  due = omega (arith, s.due);
                  waits = s.waits;
                  some_left = s.some_left;
                  fresh = λ z. absurd (omega arith);
                  placed = s.placed;
                  is = ap (λ k. k ++ (job n (parts r.times) ∷ [])) s.is ∙ jobs-more n c s.jobs (omega (arith, s.due)) s.fresh;
                };
          }
      go false t =
          record {
            next = m.next;
            turns = m.turns;
            multiple = m.multiple;
            soon = due-later r.period n m.next m.turns m.soon m.multiple (eqb-false (n % r.period) 0 t);
            near = omega (arith, m.near);
            stands = s;
          }

  -- the row has ready work exactly where its cell is ready
  pub ready-is : (n : ℕ) (c : Cell) (q : List Job) → Arrived r n c q → ready q ≡ leb c.ready.0 n
  ready-is n c q a = ap ready a.stands.is ∙ go a.stands.jobs refl (c.ready.0 - n) refl
    where
      s : Stands r n a.next c q
      s = a.stands

      go : (j : ℕ) → s.jobs ≡ j → (w : ℕ) → c.ready.0 - n ≡ w → ready (jobs_of r n c j) ≡ leb c.ready.0 n
      go zero e w f = sym (lt-leb c.ready.0 n (omega (arith, s.due, s.waits, a.soon, ap (λ k. k * r.period) e)))
      go (suc j) e zero f = rw f (sym (le-leb c.ready.0 n (omega arith)))
      go (suc j) e (suc w) f = rw f (sym (lt-leb c.ready.0 n (omega arith)))

  -- what a tick leaves of the next release
  after-tick : (n : ℕ) {c d : Cell} (q : List Job) {p : List Job} (a : Arrived r n c q) → Stands r (suc n) a.next d p → Mirror r (suc n) d p
  after-tick n q a s = record { next = a.next; turns = a.turns; multiple = a.multiple; soon = a.soon; near = omega (arith, a.near); stands = s }

  -- a row that does not run, because a row above does or because it is not ready
  pub stays : (n : ℕ) (c : Cell) (q : List Job) (b : Bool) → Arrived r n c q → (b ≡ true → n < c.ready.0) → Mirror r (suc n) c (serve b q)
  stays n c q b a h =
      after-tick n q a
      (record {
        jobs = s.jobs;
        due = s.due;
        waits = s.waits;
        some_left = s.some_left;
        fresh = s.fresh;
        placed = s.placed;
        is = ap (serve b) s.is ∙ go s.jobs (c.ready.0 - n) refl b h;
      })
    where
      s : Stands r n a.next c q
      s = a.stands

      go : (j w : ℕ) → c.ready.0 - n ≡ w → (b : Bool) → (b ≡ true → n < c.ready.0) → serve b (jobs_of r n c j) ≡ jobs_of r (suc n) c j
      go zero w e b h = refl
      go (suc j) (suc w) e b h =
          let z : w ≡ c.ready.0 - suc n = omega arith in
          rw e (ap (λ k. queued r c k c.left.0 j) z)
      go (suc j) zero e false h =
          let z : 0 ≡ c.ready.0 - suc n = omega arith in
          rw e (ap (λ k. queued r c k c.left.0 j) z)
      go (suc j) zero e true h = absurd (omega (arith, h refl))

  -- the end of a stretch in the words of the row: the job's last one, and one with another behind it
  ended-last : (end : Instant) (c : Cell) → c.place < length r.times → length r.times ≤ c.place + 2
      → ended_of end v c ≡ record { release = instant (c.release.0 + r.period); ready = instant (c.release.0 + r.period); place = 0; left = long (time r 0) }
  ended-last end c h le =
      let t : time_at v (c.place + 2) ≡ 0 = ok.times (c.place + 2) ∙ get_or-eq_default r.times 0 le in
      rw (eq-eqb (time_at v (c.place + 2)) 0 t)
      (λ i. record {
        release = instant (c.release.0 + ok.turn i);
        ready = instant (c.release.0 + ok.turn i);
        place = 0;
        left = long (ok.times 0 i);
      })

  ended-next : (end : Instant) (c : Cell) → c.place + 2 < length r.times
      → ended_of end v c ≡ record { release = c.release; ready = instant (end.0 + time r (c.place + 1)); place = c.place + 2; left = long (time r (c.place + 2)) }
  ended-next end c h =
      let e = ok.times (c.place + 2) in
      let t : time_at v (c.place + 2) ≡ 0 → ⊥ = λ z. omega (arith, ok.no_zero (c.place + 2) h) in
      rw (ne_eqb (time_at v (c.place + 2)) 0 t)
      (λ i. record {
        release = c.release;
        ready = instant (end.0 + ok.times (c.place + 1) i);
        place = c.place + 2;
        left = long (e i);
      })

  -- the row that runs, with j late jobs behind the one that is served
  module _ (n : ℕ) (c : Cell) (q : List Job) (a : Arrived r n c q) (h : c.ready.0 ≤ n) (j : ℕ) (e : a.stands.jobs ≡ suc j) where
    abbrev rest : List Part
    rest = behind (drop (c.place + 1) r.times)

    abbrev late : List Job
    late = full_jobs r (c.release.0 + r.period) j

    served-queue : serve true q ≡ keep c.release.0 (spend c.left.0 rest) late
    served-queue =
        let z : c.ready.0 - n ≡ 0 = omega arith in
        ap (serve true) (a.stands.is ∙ ap (jobs_of r n c) e ∙ ap (λ k. queued r c k c.left.0 j) z)

    product : a.stands.jobs * r.period ≡ suc j * r.period
    product = ap (λ k. k * r.period) e

    -- its stretch goes on
    stretch-goes-on : (k : ℕ) → c.left.0 ≡ suc (suc k) → Mirror r (suc n) (record { release = c.release; ready = c.ready; place = c.place; left = long (c.left.0 - 1) }) (serve true q)
    stretch-goes-on k f =
        let s = a.stands in
        let w : 0 ≡ c.ready.0 - suc n = omega arith in
        let l : suc k ≡ c.left.0 - 1 = omega arith in
        after-tick n q a
        (record {
          jobs = suc j;
          due = omega (arith, s.due, product);
          waits = s.waits;
          some_left = omega arith;
          fresh = λ z. absurd (omega arith);
          placed = s.placed;
          is =
              served-queue
              ∙ ap (λ x. keep c.release.0 (spend x rest) late) f
              ∙ ap (λ x. queued r c x (suc k) j) w
              ∙ ap (λ x. queued r c (c.ready.0 - suc n) x j) l;
        })

    -- its stretch ends, and the job with it: the next job of the row is served from the next tick on where it is released, else awaited
    job-ends : c.left.0 ≡ 1 → length r.times ≤ c.place + 2 → Mirror r (suc n) (ended_of (instant (n + 1)) v c) (serve true q)
    job-ends f le =
        let s = a.stands in
        rw (ended-last (instant (n + 1)) c s.placed le)
        (after-tick n q a
        (record {
          jobs = j;
          due = omega (arith, s.due, product);
          waits = omega arith;
          some_left = ok.no_zero 0 ok.some-time;
          fresh = λ z. fresh;
          placed = ok.some-time;
          is =
              served-queue
              ∙ ap (λ x. keep c.release.0 (spend x rest) late) f
              ∙ ap (λ x. keep c.release.0 x late) (behind-last r.times c.place le)
              ∙ follows j (omega (arith, s.due, a.near, product));
        }))
      where
        next : Cell
        next = record { release = instant (c.release.0 + r.period); ready = instant (c.release.0 + r.period); place = 0; left = long (time r 0) }

        fresh : Fresh r next
        fresh = record { ready = refl; place = refl; left = refl }

        follows : (j : ℕ) → c.release.0 + j * r.period ≤ n → full_jobs r (c.release.0 + r.period) j ≡ jobs_of r (suc n) next j
        follows zero h = refl
        follows (suc j) h = ap (λ x. job (c.release.0 + r.period) x ∷ full_jobs r (c.release.0 + r.period + r.period) j) (sym (fresh-left (suc n) next fresh (omega arith)))

    -- its stretch ends, and a suspension starts
    suspension-starts : c.left.0 ≡ 1 → c.place + 2 < length r.times → Mirror r (suc n) (ended_of (instant (n + 1)) v c) (serve true q)
    suspension-starts f lt =
        let s = a.stands in
        let w : time r (c.place + 1) ≡ n + 1 + time r (c.place + 1) - suc n = omega arith in
        rw (ended-next (instant (n + 1)) c lt)
        (after-tick n q a
        (record {
          jobs = suc j;
          due = omega (arith, s.due, product);
          waits = omega (arith, s.waits);
          some_left = ok.no_zero (c.place + 2) lt;
          fresh = λ z. absurd (omega arith);
          placed = lt;
          is =
              served-queue
              ∙ ap (λ x. keep c.release.0 (spend x rest) late) f
              ∙ ap (λ x. keep c.release.0 x late) (behind-next r.times c.place lt)
              ∙ ap (λ x. job c.release.0 (part x (time r (c.place + 2)) ∷ behind (drop (c.place + 2 + 1) r.times)) ∷ late) w;
        }))

  pub goes_on : (n : ℕ) (c : Cell) (q : List Job) → Arrived r n c q → c.ready.0 ≤ n → Mirror r (suc n) (served_of (instant n) v c) (serve true q)
  goes_on n c q a h = go a.stands.jobs refl
    where
      ends : (j : ℕ) → a.stands.jobs ≡ suc j → c.left.0 ≡ 1 → Dec (length r.times ≤ c.place + 2) → Mirror r (suc n) (ended_of (instant (n + 1)) v c) (serve true q)
      ends j e f (yes le) = job-ends n c q a h j e f le
      ends j e f (no lt) = suspension-starts n c q a h j e f (omega arith)

      ticks : (j : ℕ) → a.stands.jobs ≡ suc j → (k : ℕ) → c.left.0 ≡ k → Mirror r (suc n) (served_of (instant n) v c) (serve true q)
      ticks j e zero f = absurd (omega (arith, a.stands.some_left))
      ticks j e (suc zero) f = rw (le-ltb 1 c.left.0 (omega arith)) (ends j e f (dec_le (length r.times) (c.place + 2)))
      ticks j e (suc (suc k)) f = rw (lt-ltb 1 c.left.0 (omega arith)) (stretch-goes-on n c q a h j e k f)

      go : (j : ℕ) → a.stands.jobs ≡ j → Mirror r (suc n) (served_of (instant n) v c) (serve true q)
      go zero e = absurd (omega (arith, a.stands.due, a.stands.waits, a.soon, ap (λ k. k * r.period) e))
      go (suc j) e = ticks j e c.left.0 refl

  -- the row before its first tick
  pub begins : Mirror r 0 (cell_of (instant 0) v) []
  begins =
      record {
        next = 0;
        turns = 0;
        multiple = omega arith;
        soon = omega arith;
        near = omega (arith, ok.period);
        stands =
            record {
              jobs = 0;
              due = omega arith;
              waits = omega arith;
              some_left = omega (arith, ok.times 0, ok.no_zero 0 ok.some-time);
              fresh = λ z. record { ready = refl; place = refl; left = ok.times 0 };
              placed = ok.some-time;
              is = refl;
            };
      }

  -- the queue is the one that the cell says
  pub queue-is : (n : ℕ) (c : Cell) (q : List Job) → Mirror r n c q → q ≡ queue_of r n c
  unfolding queue_of
  queue-is n c q m =
      let s = m.stands in
      let low : s.jobs * r.period ≤ n - c.release.0 + (r.period - 1) = omega (arith, s.due, m.near, ok.period) in
      let high : n - c.release.0 + (r.period - 1) < (s.jobs + 1) * r.period = omega (arith, s.due, m.soon, ok.period) in
      s.is ∙ ap (jobs_of r n c) (sym (div-eq_of_lt-le r.period low high))
