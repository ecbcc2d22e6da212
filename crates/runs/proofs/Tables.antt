-- The run of a table value: its lines, as the code has them, are the run on paper; and what answers it.
use mathlib.Core.Path.{◌≡◌, refl, sym, ap, ◌∙◌}
use mathlib.Core.Bool.{true}
use mathlib.Core.List.{List, [], ◌∷◌, map}
use mathlib.Core.Option.{Option as Maybe, none, some}
use Prim.Native.Nat.{ℕ, ◌≤◌, ◌<◌, min}
use native.Mathlib.Omega.{arith}
use native.Mathlib.Decide.{dec_le}
use borrow.Author.Tests.{lt-ltb, le-ltb}
use lib.ListN.{length, get_or}
use Rattle.std.specs.Prelude.{Option, None, Result, Ok, Err}
use Rattle.words.specs.Lists.{below}
use Rattle.words.specs.Buffer.{placed}
use Rattle.words.proofs.Choice.{if-true, if-false}
use Rattle.words.proofs.Filled.{below-same, filled_at}
use Rattle.fields.specs.Fields.{line, joined}
use Rattle.refusals.specs.declared.Refusal.{Refusal}
use Rattle.refusals.specs.declared.Refusal.TheVariants.{ManyTicks}
use Rattle.ticks.specs.declared.Instant.{Instant}
use Rattle.table.specs.Limits.{most_rows, most_ticks}
use Rattle.table.specs.Paper.{Row, Table, row_at}
use Rattle.table.specs.Value.{table_of, well_formed}
use Rattle.table.specs.declared.Table.{Table as TableValue}
use Rattle.text.specs.Read.{accepted}
use Rattle.text.specs.Write.{length_in}
use Rattle.table.proofs.Used.{row_is, len_is, len-most}
use Rattle.kernel.specs.Completion.{completion}
use Rattle.machine.specs.Run.{completion_value, completions, full_run}
use Rattle.machine.proofs.Completions.{run-there, run-many}
use Rattle.runs.specs.Runs.{instant_text, run_line, run_text, ran_in, ran_into}
use Rattle.runs.specs.Parts.{first_text, line_at, run_lines}

-- a completion and its value have the same text
value-text : (o : Maybe ℕ) → first_text (completion_value o) ≡ instant_text o
value-text none = refl
value-text (some c) = refl

module _ (v : TableValue) (ok : well_formed v ≡ true) (n : ℕ) where
  abbrev t : Table
  t = table_of v

  -- line k on paper
  abbrev paper_line : ℕ → List ℕ
  paper_line k = run_line (row_at t k) (completion (row_at t) k n)

  line-is : (k : ℕ) → k < v.len → line_at v.rows (completions t n) k ≡ paper_line k
  unfolding completions run_line
  line-is k h =
      ap (λ (r : Row). line r.name (first_text (get_or (completions t n) k None) ∷ [])) (row_is v ok k)
      ∙ ap (λ (o : Option Instant). line (row_at t k).name (first_text o ∷ []))
      (filled_at (λ i. completion_value (completion (row_at t) i n)) (length t) _ None k (omega (arith, len_is v ok)))
      ∙ ap (λ (l : List ℕ). line (row_at t k).name (l ∷ [])) (value-text (completion (row_at t) k n))

  -- a well-formed table has no more rows than an array
  rows-min : min v.len most_rows ≡ v.len
  rows-min = omega (arith, len-most v ok)

  lines_are : joined (run_lines v (completions t n)) ≡ run_text t n
  unfolding run_text
  lines_are =
      ap (λ m. joined (map (line_at v.rows (completions t n)) (below m))) rows-min
      ∙ ap joined (below-same (line_at v.rows (completions t n)) paper_line v.len line-is)
      ∙ ap (λ m. joined (map paper_line (below m))) (len_is v ok)

  -- a run that took place had no more ticks than it may have, and is the kernel's
  module _ (firsts : List (Option Instant)) (e : Ok firsts ≡ full_run v n) where
    ran-ticks : n ≤ most_ticks
    ran-ticks = go (dec_le n most_ticks)
      where
        go : Dec (n ≤ most_ticks) → n ≤ most_ticks
        go (yes h) = h
        go (no h) =
            let z : ◌≡◌ {A = Result (List (Option Instant)) Refusal} (Ok firsts) (Err ManyTicks) = e ∙ run-many v n ok (omega arith) in
            cc

    ran-is : firsts ≡ completions t n
    ran-is =
        let z : ◌≡◌ {A = Result (List (Option Instant)) Refusal} (Ok firsts) (Ok (completions t n)) = e ∙ run-there v n ok ran-ticks in
        cc

    -- THE RUN'S TEXT: its lines
    pub ran-lines : joined (run_lines v firsts) ≡ run_text t n
    ran-lines = ap (λ (q : List (Option Instant)). joined (run_lines v q)) ran-is ∙ lines_are

    -- the answer where it took place
    pub answer-ran : (d : List ℕ)
        → (ran_in (accepted t) n d ≡ length_in (run_text t n) d) × (ran_into (accepted t) n d ≡ placed (run_text t n) d)
    answer-ran d = let l = le-ltb most_ticks n ran-ticks in (if-false _ _ l, if-false _ _ l)

  -- and where it was refused
  pub answer-refused : (why : Refusal) → Err why ≡ full_run v n → (d : List ℕ)
      → (ran_in (accepted t) n d ≡ Err why) × (ran_into (accepted t) n d ≡ d)
  answer-refused why e d = go (dec_le n most_ticks)
    where
      go : Dec (n ≤ most_ticks) → (ran_in (accepted t) n d ≡ Err why) × (ran_into (accepted t) n d ≡ d)
      go (yes h) =
          let z : ◌≡◌ {A = Result (List (Option Instant)) Refusal} (Err why) (Ok (completions t n)) = e ∙ run-there v n ok h in
          cc
      go (no h) =
          let z : ◌≡◌ {A = Result (List (Option Instant)) Refusal} (Err why) (Err ManyTicks) = e ∙ run-many v n ok (omega arith) in
          let w : why ≡ ManyTicks = cc in
          let l = lt-ltb most_ticks n (omega arith) in
          (if-true _ _ l ∙ ap Err (sym w), if-true _ _ l)
