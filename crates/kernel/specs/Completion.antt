-- The completion of a row's first job in the full run: document 01, the end of 'The kernel's rules'.
use Rattle.std.specs.Prelude.{Bool, true, List, [], ◌∷◌, ℕ, zero, suc, ltb, if◌then◌else◌}
use Rattle.std.proofs.Math.Option.{Option, none, some}
use Rattle.words.specs.Choice.{◌and◌}
use Rattle.table.specs.Paper.{Row}
use Rattle.kernel.specs.Rules.{Job, job, after, full}

-- of the jobs that are not complete none was released at 0: the first job is complete
abbrev pub first_done : List Job → Bool
first_done [] = true
first_done (job r l ∷ q) = ltb 0 r and first_done q

-- the first of two where it is there, else the second
abbrev pub or_else : Option ℕ → Option ℕ → Option ℕ
or_else (some c) o = some c
or_else none o = o

-- the completion instant of the first job of row k in n ticks of the full run: the first instant after a tick at which it is complete
abbrev pub completion : (ℕ → Row) → ℕ → ℕ → Option ℕ
completion rows k zero = none
completion rows k (suc n) = or_else (completion rows k n) (if first_done (after (full rows) (suc n) k) then some (suc n) else none)
