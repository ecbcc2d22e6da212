-- Releases counted on from one instant to a later one, row by row: a row is counted anew only where its count no longer holds.
use mathlib.Core.Path.{◌≡◌, refl, sym, ap, ◌∙◌}
use mathlib.Core.List.{List, [], ◌∷◌}
use mathlib.Core.Logic.{◌⊎◌, inl, inr}
use Prim.Native.Nat.{ℕ, zero, suc, ◌+◌, ◌-◌, ◌*◌, ◌/◌, ◌≤◌, ◌<◌}
use native.Mathlib.Nat.{mul-le-mul, mul-le-mul_right, add-div_right}
use native.Mathlib.Numerals.{add-one}
use native.Mathlib.Decide.{dec_lt}
use native.Mathlib.Omega.{arith}
use lib.ListN.{length, get_or, set}
use lib.Seq.{get_or-set_same, get_or-set_other}
use Rattle.table.specs.Paper.{Row, parts, work}
use Rattle.recurrence.specs.Figures.{ceiling, arrivals, demand, right}
use Rattle.figures.specs.Count.{safe_number, more_of}
use Rattle.figures.specs.Work.{no_load, rows_from, right_below, Counted, CountedAt}
use Rattle.figures.specs.declared.load.Load.{Load}
use Rattle.recurrence.proofs.Arrivals.{ceiling-zero, ceiling-step, arrivals-zero, arrivals-most, arrivals-mono, arrivals-reach, arrivals-on}
use Rattle.recurrence.proofs.Recurrence.{demand-mono}

-- the row at place j, as its load has it
abbrev pub load_at : List Load → ℕ → Load
load_at above j = get_or above j no_load

-- the rows are the same where a load is counted on
pub rows_set : (above : List Load) (i : ℕ) (x : Load) → i < length above → x.period ≡ (load_at above i).period → x.work ≡ (load_at above i).work
    → rows_from (set above i x) ≡ rows_from above
rows_set above i x h p w = λ d j. one j (dec_lt j i) (dec_lt i j) d
  where
    same : (j : ℕ) (y : Load) → y.period ≡ (load_at above j).period → y.work ≡ (load_at above j).work
        → ◌≡◌ {A = Row} (record { name = []; period = y.period; deadline = 0; times = y.work ∷ [] }) (rows_from above j)
    same j y p w = λ d. record { name = []; period = p d; deadline = 0; times = w d ∷ [] }

    other : (j : ℕ) → (j ≡ i → ⊥) → rows_from (set above i x) j ≡ rows_from above j
    other j ne =
        let e = get_or-set_other above i j x no_load ne in
        same j (load_at (set above i x) j) (ap (λ (y : Load). y.period) e) (ap (λ (y : Load). y.work) e)

    one : (j : ℕ) → Dec (j < i) → Dec (i < j) → rows_from (set above i x) j ≡ rows_from above j
    one j (yes l) b = other j (λ z. omega (arith, z))
    one j (no l) (yes g) = other j (λ z. omega (arith, z))
    one j (no l) (no g) =
        let z : i ≡ j = omega arith in
        let e = get_or-set_same above i x no_load h in
        let s : rows_from (set above i x) i ≡ rows_from above i
        = same i (load_at (set above i x) i) (ap (λ (y : Load). y.period) e ∙ p) (ap (λ (y : Load). y.work) e ∙ w) in
        ap (rows_from (set above i x)) (sym z) ∙ s ∙ ap (rows_from above) z

-- the rows below i are counted at t, the others still at an earlier instant; `until` has how far each row's count holds
pub record Halfway (rows : ℕ → Row) (k t i total : ℕ) (until : ℕ → ℕ) : Type 0 where
  pub at : ℕ
  pub before : at ≤ t
  pub within : i ≤ k
  pub sums : total + demand rows i at ≡ demand rows k at + demand rows i t
  pub done : (j : ℕ) → j < i → until j ≡ arrivals (rows j) t * (rows j).period
  pub left : (j : ℕ) → i ≤ j → j < k → until j ≡ arrivals (rows j) at * (rows j).period

-- how far the count of each load holds
abbrev pub until_of : List Load → ℕ → ℕ
until_of above j = (load_at above j).until

pub halfway-start : (above : List Load) (t sum : ℕ) → Counted above t sum → Halfway (rows_from above) (length above) t 0 sum (until_of above)
halfway-start above t sum c =
    record {
      at = c.at;
      before = c.before;
      within = omega arith;
      sums = omega (arith, c.sums);
      done = λ j h. absurd (omega arith);
      left = λ j h l. c.holds j l;
    }

pub halfway-end : (above now : List Load) (t i total : ℕ) → length above ≤ i → length now ≡ length above → rows_from now ≡ rows_from above
    → Halfway (rows_from above) (length above) t i total (until_of now) → CountedAt now t total
halfway-end above now t i total h size same w =
    let e : i ≡ length above = omega (arith, w.within) in
    let s : total ≡ demand (rows_from above) (length above) t
    = omega (arith, w.sums, ap (λ m. demand (rows_from above) m t) e, ap (λ m. demand (rows_from above) m w.at) e) in
    record {
      sums = s ∙ ap (λ (r : ℕ → Row). demand r (length above) t) (sym same) ∙ ap (λ m. demand (rows_from now) m t) (sym size);
      holds = λ j l. w.done j (omega (arith, e, size)) ∙ ap (λ (r : ℕ → Row). arrivals (r j) t * (r j).period) (sym same);
    }

-- what the rows from i on ask for grows with the window
grows : (rows : ℕ → Row) (k i s t : ℕ) → ((j : ℕ) → j < k → 1 ≤ (rows j).period) → i ≤ k → s ≤ t
    → demand rows k s + demand rows i t ≤ demand rows k t + demand rows i s
grows rows zero i s t some h le =
    let e : i ≡ 0 = omega arith in
    omega (arith, ap (λ n. demand rows n t) e, ap (λ n. demand rows n s) e)
grows rows (suc k) i s t some h le = go (grows rows k i s t (λ j l. some j (omega arith))) (dec_lt k i)
  where
    go : (i ≤ k → s ≤ t → demand rows k s + demand rows i t ≤ demand rows k t + demand rows i s) → Dec (k < i)
        → demand rows (suc k) s + demand rows i t ≤ demand rows (suc k) t + demand rows i s
    go ih (yes l) =
        let e : i ≡ suc k = omega arith in
        omega (arith, ap (λ n. demand rows n t) e, ap (λ n. demand rows n s) e)
    go ih (no l) =
        omega (
          arith,
          ih (omega arith) le,
          mul-le-mul_right (work (parts (rows k).times)) (arrivals-mono (rows k) (some k (omega arith)) s t le),
        )

module _ (rows : ℕ → Row) (k t i total : ℕ) (until : ℕ → ℕ) (some : (j : ℕ) → j < k → 1 ≤ (rows j).period) (w : Halfway rows k t i total until) where
  -- what is counted so far is no more than what is counted in the end
  pub halfway-most : total ≤ demand rows k t
  halfway-most = omega (arith, w.sums, grows rows k i w.at t some w.within w.before)

  module _ (below : i < k) where
    abbrev more : ℕ
    more = more_of (until i) (rows i).period t

    count-on : arrivals (rows i) t ≡ arrivals (rows i) w.at + more
    unfolding more_of
    count-on =
        let here = w.left i (omega arith) below in
        arrivals-on (rows i) (some i below) w.at t w.before
        ∙ ap (λ n. arrivals (rows i) w.at + ceiling (t - n) (rows i).period) (sym here)

    -- the instant up to which its count holds lies less than T beyond the window
    pub held-near : until i ≤ t + (rows i).period
    held-near = omega (arith, w.left i (omega arith) below, arrivals-reach (rows i) (some i below) w.at, w.before)

    -- one row more, counted on; the others are counted as before
    pub halfway-next : (sum : ℕ) (then : ℕ → ℕ) → sum ≡ total + more * work (parts (rows i).times) → then i ≡ until i + more * (rows i).period
        → ((j : ℕ) → (j ≡ i → ⊥) → then j ≡ until j) → Halfway rows k t (i + 1) sum then
    halfway-next sum then sum_is_lem here-is others =
        record {
          at = w.at;
          before = w.before;
          within = omega arith;
          sums = rw add-one (omega (arith, w.sums, sum_is_lem, ap (λ n. n * work (parts (rows i).times)) count-on));
          done = λ j l. here-or-below j l (dec_lt j i);
          left = λ j l m. others j (λ z. omega (arith, z)) ∙ w.left j (omega arith) m;
        }
      where
        here-or-below : (j : ℕ) → j < i + 1 → Dec (j < i) → then j ≡ arrivals (rows j) t * (rows j).period
        here-or-below j l (yes b) = others j (λ z. omega (arith, z)) ∙ w.done j b
        here-or-below j l (no b) =
            let z : j ≡ i = omega arith in
            let here = w.left i (omega arith) below in
            let p : then i ≡ arrivals (rows i) t * (rows i).period = omega (arith, here-is, here, ap (λ n. n * (rows i).period) count-on) in
            rw z p

-- counting on from u: release by release
module _ (period : ℕ) (some : 1 ≤ period) where
  pub more-none : (u t : ℕ) → t ≤ u → more_of u period t ≡ 0
  unfolding more_of
  more-none u t h =
      let z : t - u ≡ 0 = omega arith in
      ap (λ k. ceiling k period) z ∙ ceiling-zero period some

  more-step : (u t : ℕ) → u < t → more_of u period t ≡ suc (more_of (u + period) period t)
  unfolding more_of
  more-step u t h =
      let x : suc (t - u - 1) ≡ t - u = omega arith in
      let y : suc (t - u - 1) - period ≡ t - (u + period) = omega arith in
      sym (ap (λ k. ceiling k period) x) ∙ ceiling-step period some (t - u - 1) ∙ ap (λ k. suc (ceiling k period)) y

  -- the quotient of one less, and one, is the same
  pub more-quotient : (u t : ℕ) → u < t → (t - u - 1) / period + 1 ≡ more_of u period t
  unfolding more_of ceiling
  more-quotient u t h =
      let e : t - u - 1 + period ≡ t - u + (period - 1) = omega arith in
      omega (arith, sym (ap (λ k. k / period) e) ∙ add-div_right (t - u - 1) some)

  pub more-few : (u t : ℕ) → more_of u period t ≤ t
  unfolding more_of arrivals
  more-few u t = omega (arith, arrivals-most (record { name = []; period = period; deadline = 0; times = [] }) some (t - u))

  -- one release chosen or not, and the rest counted from there, is the same as all counted from `held`
  pub chosen : (held work t u a : ℕ) → ((held < t) × (u ≡ held + period) × (a ≡ work)) ⊎ ((t ≤ held) × (u ≡ held) × (a ≡ 0))
      → (u + more_of u period t * period ≡ held + more_of held period t * period) × (a + more_of u period t * work ≡ more_of held period t * work)
      × (u ≤ held + period) × (a ≤ work)
  chosen held work t u a (inl (h, p, q)) =
      let e : more_of held period t ≡ suc (more_of u period t) = more-step held t h ∙ ap (λ k. suc (more_of k period t)) (sym p) in
      (omega (arith, ap (λ n. n * period) e), omega (arith, ap (λ n. n * work) e), omega arith, omega arith)
  chosen held work t u a (inr (h, p, q)) =
      let e : more_of u period t ≡ more_of held period t = ap (λ k. more_of k period t) p in
      let z = more-none held t h in
      (omega (arith, ap (λ n. n * period) e), omega (arith, ap (λ n. n * work) e, ap (λ n. n * work) z), omega arith, omega arith)

-- a load counted on stands in the place of the one before
pub counted_on : (start above : List Load) (t i total asked : ℕ) (x : Load) → length above ≡ length start → i < length start
    → rows_from above ≡ rows_from start → Halfway (rows_from start) (length start) t i total (until_of above)
    → x.period ≡ (load_at above i).period → x.work ≡ (load_at above i).work
    → x.until ≡ until_of above i + more_of (until_of above i) (load_at above i).period t * (load_at above i).period
    → asked ≡ more_of (until_of above i) (load_at above i).period t * (load_at above i).work
    → (rows_from (set above i x) ≡ rows_from start) × Halfway (rows_from start) (length start) t (i + 1) (total + asked) (until_of (set above i x))
counted_on start above t i total asked x size below same w p q u a =
    let here : i < length above = omega arith in
    let period : (load_at above i).period ≡ (load_at start i).period = ap (λ (r : ℕ → Row). (r i).period) same in
    let works : (load_at above i).work + 0 ≡ (load_at start i).work + 0 = ap (λ (r : ℕ → Row). work (parts (r i).times)) same in (
      rows_set above i x here p q ∙ same,
      halfway-next (rows_from start) (length start) t i total (until_of above) (λ j l. (load_at start j).some) w below (total + asked) (until_of (set above i x))
          (ap (λ n. total + n) a ∙ ap (λ n. total + more_of (until_of above i) n t * (load_at above i).work) period
          ∙ ap (λ n. total + more_of (until_of above i) (load_at start i).period t * n) (omega (arith, works)))
          (ap (λ (y : Load). y.until) (get_or-set_same above i x no_load here) ∙ u ∙ ap (λ n. until_of above i + more_of (until_of above i) n t * n) period)
          (λ j ne. ap (λ (y : Load). y.until) (get_or-set_other above i j x no_load ne)),
    )

-- the right side grows with the window
pub below-mono : (above : List Load) (c s t : ℕ) → s ≤ t → right_below above c s ≤ right_below above c t
below-mono above c s t le = omega (arith, demand-mono (rows_from above) (length above) (λ j h. (load_at above j).some) s t le)

-- and is the same below the same rows
pub below-same : (above others : List Load) → length above ≡ length others → rows_from above ≡ rows_from others → (c : ℕ)
    → right_below above c ≡ right_below others c
below-same above others size same c = ap (λ (r : ℕ → Row). right r (length above) c) same ∙ ap (λ n. right (rows_from others) n c) size

-- the numbers of the rows above keep every count and every sum within 64 bits
pub demand-safe : (above : List Load) (k t : ℕ) → t ≤ safe_number → demand (rows_from above) k t ≤ k * (safe_number * safe_number)
demand-safe above zero t s = omega arith
demand-safe above (suc k) t s =
    let a : arrivals (rows_from above k) t ≤ safe_number = omega (arith, arrivals-most (rows_from above k) (load_at above k).some t) in
    let b : (load_at above k).work + 0 ≤ safe_number = omega (arith, (load_at above k).work_safe) in
    omega (arith, demand-safe above k t s, mul-le-mul a b)

-- no release of the loads passed is counted
pub zero_next : (above : List Load) (i : ℕ) (x : Load) → i < length above → x.until ≡ 0 → ((j : ℕ) → j < i → until_of above j ≡ 0)
    → (j : ℕ) → j < i + 1 → until_of (set above i x) j ≡ 0
zero_next above i x h z zeros j l = go (dec_lt j i)
  where
    go : Dec (j < i) → until_of (set above i x) j ≡ 0
    go (yes b) = ap (λ (y : Load). y.until) (get_or-set_other above i j x no_load (λ e. omega (arith, e))) ∙ zeros j b
    go (no b) = let e : j ≡ i = omega arith in rw e (ap (λ (y : Load). y.until) (get_or-set_same above i x no_load h) ∙ z)

-- at the start no release is counted
pub counted_start : (above : List Load) (t : ℕ) → ((i : ℕ) → i < length above → until_of above i ≡ 0) → Counted above t 0
counted_start above t zeros =
    record {
      at = 0;
      before = omega arith;
      sums = none (length above);
      holds = λ i h. zeros i h
          ∙ (let z : 0 ≡ arrivals (rows_from above i) 0 * (rows_from above i).period
          = omega (arith, ap (λ n. n * (rows_from above i).period) (arrivals-zero (rows_from above i) (load_at above i).some)) in z);
    }
  where
    none : (m : ℕ) → 0 ≡ demand (rows_from above) m 0
    none zero = refl
    none (suc m) =
        omega (arith, none m, ap (λ n. n * work (parts (rows_from above m).times)) (arrivals-zero (rows_from above m) (load_at above m).some))
