-- What the full run notes of its rows are the completions that the kernel's rules give.
use Rattle.std.specs.Prelude.{Option, Some, None, Ok, Err, if◌then◌else◌}
use Rattle.std.proofs.lemmas.List.{ext_get_or, places}
use mathlib.Core.Path.{◌≡◌, refl, sym, ◌∙◌, ap, subst}
use mathlib.Core.Bool.{Bool, true, false, cond}
use mathlib.Core.List.{List, [], ◌++◌, map}
use mathlib.Core.Option.{Option as Maybe, none, some, none-ne-some}
use Prim.Native.Nat.{ℕ, zero, suc, ◌+◌, ◌-◌, ◌≤◌, ◌<◌, ◌*◌}
use native.Mathlib.Omega.{arith}
use native.Mathlib.Decide.{dec_le}
use native.Mathlib.Nat.{lt-div-mul-add}
use borrow.Author.Tests.{lt-ltb, le-ltb, eqb-true, eqb-false}
use lib.Dec.{eqb, ltb}
use lib.ListN.{length, take, get_or, replicate, length-set, length-map, get_or-replicate}
use lib.Seq.{get_or-set_same, get_or-set_other}
use Rattle.words.specs.Choice.{◌and◌}
use Rattle.words.specs.Lists.{below}
use Rattle.words.proofs.Choice.{and_both, if-true, if-false}
use Rattle.ticks.specs.declared.Instant.{Instant}
use Rattle.refusals.specs.declared.Refusal.TheVariants.{ManyTicks}
use Rattle.table.specs.Limits.{most_rows, most_ticks}
use Rattle.table.specs.Paper.{Table, row_at, Row}
use Rattle.table.specs.Value.{table_of, well_formed}
use Rattle.table.specs.declared.Row.{Row as RowValue}
use Rattle.table.specs.declared.Table.{Table as TableValue}
use Rattle.table.proofs.Used.{len_is, len-most}
use Rattle.machine.specs.declared.Cell.{Cell}
use Rattle.machine.specs.declared.Machine.{Machine}
use Rattle.kernel.specs.Rules.{after, full}
use Rattle.kernel.specs.Completion.{first_done, or_else, completion}
use Rattle.machine.specs.Run.{completion_value, completions, full_run}
use Rattle.machine.specs.Tick.{cell_at, ticked, rows_of, run_of}
use Rattle.machine.specs.Noted.{noted_of, note_of, firsts_after, first_at}
use Rattle.machine.specs.Queue.{queue_of, full_jobs, jobs_of, released_of}
use Rattle.words.proofs.Filled.{length-below, filled_at, filled-behind}
use Rattle.machine.proofs.Laws.{ran_below}
use Rattle.machine.proofs.Plan.{count-is, planned}
use Rattle.machine.proofs.Safe.{safe-run}
use Rattle.machine.proofs.Link.{first_ready, runs-is, other-cell, run-now, cells-enough, start-cell, mirrors}

-- the queue that a cell stands for

and-nothing : (a : Bool) → (a and true) ≡ a
unfolding ◌and◌
and-nothing true = refl
and-nothing false = refl

-- full jobs that were released after 0 do not count
late-done : (r : Row) (from j : ℕ) → 0 < from → first_done (full_jobs r from j) ≡ true
late-done r from zero h = refl
late-done r from (suc j) h = and_both (lt-ltb 0 from h) (late-done r (from + r.period) j (omega arith))

-- from the first tick on the row's first job is complete exactly where a later one is the oldest
queue-done : (r : Row) → 1 ≤ r.period → (n : ℕ) (c : Cell) → 1 ≤ n → first_done (queue_of r n c) ≡ ltb 0 c.release.0
unfolding queue_of
queue-done r pos n c h = go (released_of r n c) refl
  where
    go : (j : ℕ) → released_of r n c ≡ j → first_done (jobs_of r n c j) ≡ ltb 0 c.release.0
    go zero e = sym (lt-ltb 0 c.release.0 (omega (arith, lt-div-mul-add {a = n - c.release.0 + (r.period - 1)} pos, ap (λ k. k * r.period) e)))
    go (suc j) e = ap (λ b. ltb 0 c.release.0 and b) (late-done r (c.release.0 + r.period) j (omega arith)) ∙ and-nothing (ltb 0 c.release.0)

-- what is noted

note-length : (m : Machine) (firsts : List (Option Instant)) (o : Option ℕ) → length (note_of m firsts o) ≡ length firsts
note-length m firsts (Some i) = length-set firsts i _
note-length m firsts None = refl

firsts-length : (rows : List RowValue) (k : ℕ) → length (firsts_after rows k) ≡ most_rows
firsts-length rows zero = refl
firsts-length rows (suc k) = note-length (ticked rows (suc k)) (firsts_after rows k) (ticked rows (suc k)).ran ∙ firsts-length rows k

or_else_some : (o : Maybe ℕ) (c : ℕ) → or_else o (some c) ≡ none → ⊥
or_else_some (some d) c e = absurd (none-ne-some d (sym e))
or_else_some none c e = absurd (none-ne-some c (sym e))

-- a completion instant is the end of one of the n ticks
or-else-most : (o : Maybe ℕ) (b : Bool) (n c : ℕ) → ((d : ℕ) → o ≡ some d → d ≤ n) → or_else o (if b then some (suc n) else none) ≡ some c → c ≤ suc n
or-else-most (some d) b n c h e = omega (arith, h c e)
or-else-most none true n c h e = let z : suc n ≡ c = cc in omega arith
or-else-most none false n c h e = absurd (none-ne-some c e)

pub completion-most : (rows : ℕ → Row) (k n c : ℕ) → completion rows k n ≡ some c → c ≤ n
completion-most rows k zero c e = absurd (none-ne-some c e)
completion-most rows k (suc n) c e = or-else-most (completion rows k n) (first_done (after (full rows) (suc n) k)) n c (completion-most rows k n) e

-- what is noted of a row at the end of a tick is its completion, where what was noted before was
noted-is : (c : Cell) (f : Option Instant) (now : Instant) (o : Maybe ℕ) → f ≡ completion_value o → noted_of c f now ≡ completion_value (or_else o (if ltb 0 c.release.0 then some now.0 else none))
noted-is c f now o e = grind arith

module _ (v : TableValue) (ok : well_formed v ≡ true) where
  abbrev t : Table
  t = table_of v

  -- the first job of a row is complete exactly where a later one is the oldest
  done-is : (n k : ℕ) → k < v.len → first_done (after (full (row_at t)) (suc n) k) ≡ ltb 0 (cell_at (run_of v (suc n)) k).release.0
  done-is n k h = ap first_done (mirrors v ok (suc n) k h) ∙ queue-done (row_at t k) (planned v ok k h).period (suc n) (cell_at (run_of v (suc n)) k) (omega arith)

  abbrev ran : ℕ → ℕ
  ran n = first_ready (run_of v n) (length (rows_of v))

  -- the rows that did not run: their cell and what is noted of them stay
  first-stays : (n k : ℕ) → (k ≡ ran n → ⊥) → first_at v (suc n) k ≡ first_at v n k
  first-stays n k h = go (ltb (ran n) (length (take (length (rows_of v)) (run_of v n).cells)))
    where
      go : (b : Bool) → get_or (note_of (run_of v (suc n)) (firsts_after (rows_of v) n) (cond b (Some (ran n)) None)) k None ≡ first_at v n k
      go true = get_or-set_other (firsts_after (rows_of v) n) (ran n) k _ None h
      go false = refl

  cell_stays : (n k : ℕ) → (k ≡ ran n → ⊥) → cell_at (run_of v (suc n)) k ≡ cell_at (run_of v n) k
  cell_stays n k h = other-cell (run_of v n) (rows_of v) (cells-enough v ok n) k h

  -- the row that ran
  first-noted : (n k : ℕ) → k < v.len → k ≡ ran n → first_at v (suc n) k ≡ noted_of (cell_at (run_of v (suc n)) k) (first_at v n k) (run_of v (suc n)).now
  first-noted n k h e =
      let s : ran n < length (firsts_after (rows_of v) n) = omega (arith, firsts-length (rows_of v) n, len-most v ok) in
      subst (λ i. first_at v (suc n) i ≡ noted_of (cell_at (run_of v (suc n)) i) (first_at v n i) (run_of v (suc n)).now) (sym e)
      (rw (runs-is (run_of v n) (rows_of v) (cells-enough v ok n) (omega (arith, count-is v ok))) (get_or-set_same (firsts_after (rows_of v) n) (ran n) _ None s))

  -- where a later job is the oldest there is a completion
  completed : (n k : ℕ) → k < v.len → 0 < (cell_at (run_of v n) k).release.0 → completion (row_at t) k n ≡ none → ⊥
  completed zero k h l e = omega (arith, ap (λ (c : Cell). c.release.0) (start-cell v ok k h))
  completed (suc n) k h l e =
      let d : first_done (after (full (row_at t)) (suc n) k) ≡ true = done-is n k h ∙ lt-ltb 0 (cell_at (run_of v (suc n)) k).release.0 l in
      or_else_some (completion (row_at t) k n) (suc n) (ap (λ b. or_else (completion (row_at t) k n) (if b then some (suc n) else none)) (sym d) ∙ e)

  -- so what is noted of any row is what would be noted had it run
  all_noted : (n k : ℕ) → k < v.len → first_at v n k ≡ completion_value (completion (row_at t) k n) → first_at v (suc n) k ≡ noted_of (cell_at (run_of v (suc n)) k) (first_at v n k) (run_of v (suc n)).now
  all_noted n k h e = go (eqb k (ran n)) refl
    where
      go : (b : Bool) → eqb k (ran n) ≡ b → first_at v (suc n) k ≡ noted_of (cell_at (run_of v (suc n)) k) (first_at v n k) (run_of v (suc n)).now
      go true d = first-noted n k h (eqb-true k (ran n) d)
      go false d = first-stays n k other ∙ keeps (dec_le (cell_at (run_of v (suc n)) k).release.0 0)
        where
          other : k ≡ ran n → ⊥
          other = eqb-false k (ran n) d

          keeps : Dec ((cell_at (run_of v (suc n)) k).release.0 ≤ 0) → first_at v n k ≡ noted_of (cell_at (run_of v (suc n)) k) (first_at v n k) (run_of v (suc n)).now
          keeps (yes le) = grind arith
          keeps (no lt) =
              let l : 0 < (cell_at (run_of v n) k).release.0 = omega (arith, ap (λ (c : Cell). c.release.0) (cell_stays n k other)) in
              grind (arith, completed n k h l)

  -- THE COMPLETIONS: what is noted of a row after n ticks is what the kernel's rules say
  pub completes : (n k : ℕ) → k < v.len → first_at v n k ≡ completion_value (completion (row_at t) k n)
  completes zero k h = get_or-replicate most_rows k None None (omega (arith, len-most v ok))
  completes (suc n) k h =
      let m = run_of v (suc n) in
      let o = completion (row_at t) k n in
      all_noted n k h (completes n k h)
      ∙ noted-is (cell_at m k) (first_at v n k) m.now o (completes n k h)
      ∙ ap (λ b. completion_value (or_else o (if b then some m.now.0 else none))) (sym (done-is n k h))
      ∙ ap (λ i. completion_value (or_else o (if first_done (after (full (row_at t)) (suc n) k) then some i else none))) (run-now v (suc n))

  -- behind the last row nothing is noted
  first_behind : (n k : ℕ) → v.len ≤ k → first_at v n k ≡ None
  first_behind zero k h = filled-behind [] most_rows k None (omega arith)
  first_behind (suc n) k h = go (run_of v (suc n)).ran refl ∙ first_behind n k h
    where
      go : (o : Option ℕ) → (run_of v (suc n)).ran ≡ o → get_or (note_of (run_of v (suc n)) (firsts_after (rows_of v) n) o) k None ≡ first_at v n k
      go (Some i) e = get_or-set_other (firsts_after (rows_of v) n) i k _ None (λ z. omega (arith, ran_below (run_of v n) (rows_of v) i e, count-is v ok))
      go None e = refl

  -- so the answers are those of the rules
  pub answers : (n : ℕ) → firsts_after (rows_of v) n ≡ completions t n
  unfolding completions
  answers n = ext_get_or None _ _ (firsts-length (rows_of v) n ∙ sym answers-length) (λ k h. go k (dec_le (length t) k))
    where
      answer : ℕ → Option Instant
      answer k = completion_value (completion (row_at t) k n)

      rows-length : length (map answer (below (length t))) ≡ length t
      rows-length = length-map (below (length t)) answer ∙ length-below (length t)

      answers-length : length (map answer (below (length t)) ++ replicate (most_rows - length t) None) ≡ most_rows
      answers-length = grind (arith, rows-length, places, len_is v ok, len-most v ok)

      go : (k : ℕ) → Dec (length t ≤ k) → first_at v n k ≡ get_or (map answer (below (length t)) ++ replicate (most_rows - length t) None) k None
      go k (yes l) = first_behind n k (omega (arith, len_is v ok)) ∙ sym (filled-behind (map answer (below (length t))) (most_rows - length t) k None (omega (arith, rows-length)))
      go k (no l) = completes n k (omega (arith, len_is v ok)) ∙ sym (filled_at answer (length t) _ None k (omega arith))

-- up to the limit the run takes place
pub run-there : (v : TableValue) (n : ℕ) → well_formed v ≡ true → n ≤ most_ticks → full_run v n ≡ Ok (completions (table_of v) n)
unfolding full_run
run-there v n ok h = if-true _ _ ok ∙ if-false _ _ (le-ltb most_ticks n h)

-- and beyond it 23 is answered
pub run-many : (v : TableValue) (n : ℕ) → well_formed v ≡ true → most_ticks < n → full_run v n ≡ Err ManyTicks
unfolding full_run
run-many v n ok h = if-true _ _ ok ∙ if-true _ _ (lt-ltb most_ticks n h)

-- what `full_run` needs
pub ruleset run_steps = (len-most, safe-run, answers)
