-- The machine of the full run stands for the kernel's rules, step for step.
use Rattle.std.specs.Prelude.{Option, Some, None}
use Rattle.std.specs.List.{position_or_len}
use Rattle.std.proofs.lemmas.Bool.{not-true, not-false}
use Rattle.std.proofs.lemmas.List.{places}
use Rattle.std.proofs.lemmas.List.Sums.{prefix_len_passes, prefix_len_stops}
use mathlib.Core.Path.{◌≡◌, refl, sym, ◌∙◌, ap, subst}
use mathlib.Core.Bool.{Bool, true, false, not, ◌&&◌, cond, true≢false}
use mathlib.Core.List.{List, [], map}
use Prim.Native.Nat.{ℕ, zero, suc, ◌+◌, ◌-◌, ◌≤◌, ◌<◌}
use native.Mathlib.Omega.{arith}
use native.Mathlib.Numerals.{add-one}
use native.Mathlib.Decide.{dec_le}
use borrow.Author.Tests.{lt-ltb, le-leb, lt-leb, leb-true, leb-false}
use lib.Dec.{leb, ltb}
use lib.ListN.{length, take, get_or, replicate, length-map, length-set, get_or-append, get_or-map}
use lib.Seq.{get_or-take, length-take-le, get_or-set_same, get_or-set_other}
use Rattle.ticks.specs.Ticks.{instant}
use Rattle.table.specs.Limits.{most_rows}
use Rattle.table.specs.Paper.{Table, row_at}
use Rattle.table.specs.Value.{no_value, table_of, well_formed}
use Rattle.table.specs.declared.Row.{Row as RowValue}
use Rattle.table.specs.declared.Table.{Table as TableValue}
use Rattle.table.proofs.Used.{len-most}
use Rattle.machine.specs.declared.Machine.{Machine}
use Rattle.kernel.specs.Rules.{Job, State, serve, ready, arrive, free, step, after, full}
use Rattle.machine.specs.Tick.{cell_of, served_of, is_ready, no_cell, cell_at, runs, cells_of, rows_of, run_of}
use Rattle.machine.specs.Queue.{queue_of}
use Rattle.machine.proofs.Mirror.{Planned, Mirror, Arrived, arrives, ready-is, stays, goes_on, begins, queue-is}
use Rattle.machine.proofs.Plan.{count-is, planned}

-- the row that runs

-- the highest of n rows that is ready; n where none is
abbrev pub first_ready : Machine → ℕ → ℕ
first_ready m n = position_or_len (is_ready m.now) (take n m.cells)

-- the cells after one tick of the rows
module _ (m : Machine) (rows : List RowValue) (long-enough : length rows ≤ length m.cells) where
  abbrev n : ℕ
  n = length rows

  abbrev top : ℕ
  top = first_ready m n

  searched : length (take n m.cells) ≡ n
  searched = length-take-le n m.cells long-enough

  pub runs-is : top < n → runs m n ≡ Some top
  runs-is l = rw (lt-ltb top (length (take n m.cells)) (omega (arith, searched)))

  before-runs : (k : ℕ) → k < top → k < n → is_ready m.now (cell_at m k) ≡ false
  before-runs k l b =
      ap (is_ready m.now) (sym (get_or-take n m.cells k no_cell b))
      ∙ not-true (is_ready m.now (get_or (take n m.cells) k no_cell)) (prefix_len_passes (λ c. not (is_ready m.now c)) (take n m.cells) k no_cell l)

  at-runs : top < n → is_ready m.now (cell_at m top) ≡ true
  at-runs l =
      ap (is_ready m.now) (sym (get_or-take n m.cells top no_cell l))
      ∙ not-false (is_ready m.now (get_or (take n m.cells) top no_cell)) (prefix_len_stops (λ c. not (is_ready m.now c)) (take n m.cells) no_cell (omega (arith, searched)))

  -- the cells after the tick
  pub other-cell : (k : ℕ) → (k ≡ top → ⊥) → get_or (cells_of m rows (runs m n)) k no_cell ≡ cell_at m k
  other-cell k d = go (ltb top (length (take n m.cells)))
    where
      go : (b : Bool) → get_or (cells_of m rows (cond b (Some top) None)) k no_cell ≡ cell_at m k
      go true = get_or-set_other m.cells top k _ no_cell d
      go false = refl

  run-cell : top < n → get_or (cells_of m rows (runs m n)) top no_cell ≡ served_of m.now (get_or rows top no_value) (cell_at m top)
  run-cell l = rw (runs-is l) (get_or-set_same m.cells top _ no_cell (omega arith))

-- one tick of the machine is one step of the rules, for the rows of t
module _ (t : Table) (m : Machine) (rows : List RowValue) (long-enough : length rows ≤ length m.cells)
    (planned : (k : ℕ) → k < length rows → Planned (row_at t k) (get_or rows k no_value))
    (s : State) (holds : (k : ℕ) → k < length rows → Mirror (row_at t k) m.now.0 (cell_at m k) (s k)) where
  abbrev ran : ℕ
  ran = first_ready m (length rows)

  -- a row's queue with the release of the tick
  abbrev queued : ℕ → List Job
  queued k = arrive m.now.0 (full (row_at t) m.now.0 k) (s k)

  arrived : (k : ℕ) → k < length rows → Arrived (row_at t k) m.now.0 (cell_at m k) (queued k)
  arrived k h = arrives (row_at t k) (get_or rows k no_value) (planned k h) m.now.0 (cell_at m k) (s k) (holds k h)

  ready_at : (k : ℕ) → k < length rows → ready (queued k) ≡ is_ready m.now (cell_at m k)
  ready_at k h = ready-is (row_at t k) (get_or rows k no_value) (planned k h) m.now.0 (cell_at m k) (queued k) (arrived k h)

  -- no row above k is ready exactly where the row that runs is not above k
  free-is : (k : ℕ) → k ≤ length rows → free m.now.0 (full (row_at t) m.now.0) s k ≡ leb k ran
  free-is zero h = sym (le-leb 0 ran (omega arith))
  free-is (suc k) h = ap (λ b. b && not (ready (queued k))) (free-is k (omega arith)) ∙ ap (λ b. leb k ran && not b) (ready_at k h) ∙ go (dec_le k ran) (dec_le (suc k) ran)
    where
      go : Dec (k ≤ ran) → Dec (suc k ≤ ran) → (leb k ran && not (is_ready m.now (cell_at m k))) ≡ leb (suc k) ran
      go (yes a) (yes b) = rw (le-leb k ran a, before-runs m rows long-enough k b h, le-leb (suc k) ran b)
      go (yes a) (no b) =
          let e : ran ≡ k = omega arith in
          let z : is_ready m.now (cell_at m k) ≡ true = subst (λ x. is_ready m.now (cell_at m x) ≡ true) e (at-runs m rows long-enough (omega arith)) in
          rw (le-leb k ran a, z, lt-leb (suc k) ran (omega arith))
      go (no a) b = rw (lt-leb k ran (omega arith), lt-leb (suc k) ran (omega arith))

  step-holds : (k : ℕ) → k < length rows → Mirror (row_at t k) (suc m.now.0) (get_or (cells_of m rows (runs m (length rows))) k no_cell) (step m.now.0 (full (row_at t) m.now.0) s k)
  step-holds k h =
      subst (λ b. Mirror (row_at t k) (suc m.now.0) (get_or (cells_of m rows (runs m (length rows))) k no_cell) (serve b (queued k))) (sym (free-is k (omega arith))) (go (dec_le k ran) (dec_le ran k))
    where
      stays-so : (k ≡ ran → ⊥) → (leb k ran ≡ true → m.now.0 < (cell_at m k).ready.0) → Mirror (row_at t k) (suc m.now.0) (get_or (cells_of m rows (runs m (length rows))) k no_cell) (serve (leb k ran) (queued k))
      stays-so d w =
          subst (λ x. Mirror (row_at t k) (suc m.now.0) x (serve (leb k ran) (queued k))) (sym (other-cell m rows long-enough k d))
          (stays (row_at t k) (get_or rows k no_value) (planned k h) m.now.0 (cell_at m k) (queued k) (leb k ran) (arrived k h) w)

      go : Dec (k ≤ ran) → Dec (ran ≤ k) → Mirror (row_at t k) (suc m.now.0) (get_or (cells_of m rows (runs m (length rows))) k no_cell) (serve (leb k ran) (queued k))
      go (yes a) (yes b) =
          let e : ran ≡ k = omega arith in
          let z : (cell_at m k).ready.0 ≤ m.now.0 = leb-true (cell_at m k).ready.0 m.now.0 (subst (λ x. is_ready m.now (cell_at m x) ≡ true) e (at-runs m rows long-enough (omega arith))) in
          let d : get_or (cells_of m rows (runs m (length rows))) k no_cell ≡ served_of m.now (get_or rows k no_value) (cell_at m k)
          = subst (λ x. get_or (cells_of m rows (runs m (length rows))) x no_cell ≡ served_of m.now (get_or rows x no_value) (cell_at m x)) e (run-cell m rows long-enough (omega arith)) in
          rw (le-leb k ran a) (subst (λ x. Mirror (row_at t k) (suc m.now.0) x (serve true (queued k))) (sym d)
          (goes_on (row_at t k) (get_or rows k no_value) (planned k h) m.now.0 (cell_at m k) (queued k) (arrived k h) z))
      go (yes a) (no b) = stays-so (λ e. omega arith) (λ e. leb-false (cell_at m k).ready.0 m.now.0 (before-runs m rows long-enough k (omega arith) h))
      go (no a) b = stays-so (λ e. omega arith) (λ e. absurd (true≢false (sym e ∙ lt-leb k ran (omega arith))))

-- the run

pub run-now : (v : TableValue) (n : ℕ) → (run_of v n).now.0 ≡ n
run-now v zero = refl
run-now v (suc n) = ap (λ k. k + 1) (run-now v n) ∙ add-one n

cells-length : (m : Machine) (rows : List RowValue) (o : Option ℕ) → length (cells_of m rows o) ≡ length m.cells
cells-length m rows (Some i) = length-set m.cells i _
cells-length m rows None = refl

module _ (v : TableValue) (ok : well_formed v ≡ true) where
  abbrev t : Table
  t = table_of v

  start-length : length (map (cell_of (instant 0)) (rows_of v)) ≡ v.len
  start-length = length-map (rows_of v) (cell_of (instant 0)) ∙ count-is v ok

  run_length : (n : ℕ) → length (run_of v n).cells ≡ most_rows
  run_length zero = grind (arith, places, start-length, count-is v ok, len-most v ok)
  run_length (suc n) = cells-length (run_of v n) (rows_of v) (runs (run_of v n) (length (rows_of v))) ∙ run_length n

  pub cells-enough : (n : ℕ) → length (rows_of v) ≤ length (run_of v n).cells
  cells-enough n = omega (arith, run_length n, count-is v ok, len-most v ok)

  pub start-cell : (k : ℕ) → k < v.len → cell_at (run_of v 0) k ≡ cell_of (instant 0) (get_or (rows_of v) k no_value)
  start-cell k h =
      get_or-append (map (cell_of (instant 0)) (rows_of v)) (replicate (most_rows - length (rows_of v)) no_cell) no_cell k (omega (arith, start-length))
      ∙ get_or-map (cell_of (instant 0)) (rows_of v) k no_value

  -- after n ticks each row's cell stands for its queue
  pub stands : (n k : ℕ) → k < v.len → Mirror (row_at t k) n (cell_at (run_of v n) k) (after (full (row_at t)) n k)
  stands zero k h = subst (λ c. Mirror (row_at t k) 0 c []) (sym (start-cell k h)) (begins (row_at t k) (get_or (rows_of v) k no_value) (planned v ok k h))
  stands (suc n) k h =
      subst (λ i. Mirror (row_at t k) (suc i) (cell_at (run_of v (suc n)) k) (step i (full (row_at t) i) (after (full (row_at t)) n) k)) (run-now v n)
      (step-holds t (run_of v n) (rows_of v) (cells-enough n) (λ j l. planned v ok j (omega (arith, count-is v ok))) (after (full (row_at t)) n)
      (λ j l. subst (λ i. Mirror (row_at t j) i (cell_at (run_of v n) j) (after (full (row_at t)) n j)) (sym (run-now v n)) (stands n j (omega (arith, count-is v ok)))) k (omega (arith, count-is v ok)))

  -- THE LINK: after n ticks each row's cell says the row's queue after n ticks of the kernel's rules
  pub mirrors : (n k : ℕ) → k < v.len → after (full (row_at t)) n k ≡ queue_of (row_at t k) n (cell_at (run_of v n) k)
  mirrors n k h = queue-is (row_at t k) (get_or (rows_of v) k no_value) (planned v ok k h) n (cell_at (run_of v n) k) (after (full (row_at t)) n k) (stands n k h)
