-- Runs that the kernel's rules allow, and runs that they do not, with what happens in them, on both sides of each rule. That the set of the
-- allowed runs is the one of document 01 is what specs/Numbers says of all runs; these are the ones to look at. Rows are written "T D times",
-- as in 01, and counted from 0. proofs/Witness shows each of them.
use Rattle.std.specs.Prelude.{◌≡◌, true, List, [], ◌∷◌, ℕ, ◌+◌, ◌-◌, eqb, get_or, if◌then◌else◌}
use Rattle.std.proofs.Math.Option.{Option, none, some}
use Prim.Native.String.{String}
use Rattle.words.specs.Spelled.{spelled}
use Rattle.table.specs.Paper.{Row, Table, row_at, Part, part, right_table}
use Rattle.kernel.specs.Rules.{Job, job, Input, after, full, LegalRun, Complete}
use Rattle.kernel.specs.Completion.{completion}

-- a row: its name, T, D and times
abbrev pub row : String → ℕ → ℕ → List ℕ → Row
row name period deadline times = record { name = spelled name; period = period; deadline = deadline; times = times }

-- a row's release in tick u, of a list of the jobs that it releases
abbrev pub listed : List Job → ℕ → Option (List Part)
listed [] u = none
listed (job v l ∷ q) u = if eqb u v then some l else listed q u

-- the run in which each row releases the jobs that are listed for it, and no others
abbrev pub run_of : List (List Job) → ℕ → Input
run_of rows u k = listed (get_or rows k []) u

-- a job of row k, released at s, is complete at instant c, and was not at c - 1
pub record Ends (run : ℕ → Input) (k s c : ℕ) : Type 0 where
  pub before : Complete s (after run (c - 1) k) → ⊥
  pub at : Complete s (after run c k)

-- a table that keeps its rules, and a run of it that keeps the kernel's
pub record Allowed (t : Table) (run : ℕ → Input) : Type 0 where
  pub right : right_table t ≡ true
  pub legal : LegalRun t run

-- both sides of a rule: a run that just keeps it, in which a job of row k, released at s, is complete within R,
-- and one that breaks it by one: it is not allowed, and in it that job is not complete within R
pub record BothSides (t : Table) (kept broken : List (List Job)) (k s R : ℕ) : Type 0 where
  pub allowed : Allowed t (run_of kept)
  pub in_time : Complete s (after (run_of kept) (s + R) k)
  pub barred : LegalRun t (run_of broken) → ⊥
  pub late : Complete s (after (run_of broken) (s + R) k) → ⊥

-- a job of one stretch, released at u
abbrev pub once : ℕ → ℕ → Job
once u c = job u (part 0 c ∷ [])

-- ---- allowed

-- the table of document 01 whose last row is open
abbrev pub open_table : Table
open_table = row "a" 4 4 (1 ∷ []) ∷ row "b" 20 20 (2 ∷ []) ∷ row "c" 20 20 (2 ∷ []) ∷ row "d" 13 13 (2 ∷ 2 ∷ 2 ∷ []) ∷ []

-- rows 0, 1 and 3 released at 0, row 0 every 4, row 2 at 8, full times
abbrev pub third_later : List (List Job)
third_later = (once 0 1 ∷ once 4 1 ∷ once 8 1 ∷ once 12 1 ∷ []) ∷ (once 0 2 ∷ []) ∷ (once 8 2 ∷ []) ∷ (job 0 (part 0 2 ∷ part 2 2 ∷ []) ∷ []) ∷ []

-- the release of all rows together is not the waiting row's worst run: there its first job is complete at 12, here at 14, past its deadline
abbrev pub TogetherIsNotWorst : Type 0
TogetherIsNotWorst = Allowed open_table (run_of third_later) × Ends (run_of third_later) 3 0 14 × Ends (full (row_at open_table)) 3 0 12

-- the completion that the full run gives for it: none in 11 ticks, 12 in 12 and in more
abbrev pub TogetherEndsAt12 : Type 0
TogetherEndsAt12 =
    (completion (row_at open_table) 3 11 ≡ none) × (completion (row_at open_table) 3 12 ≡ some 12) × (completion (row_at open_table) 3 14 ≡ some 12)

-- the table of source 003
abbrev pub paused_table : Table
paused_table = row "a" 10 10 (2 ∷ []) ∷ row "b" 11 11 (1 ∷ 6 ∷ 1 ∷ []) ∷ []

-- both released at 0, row 0 takes 1 of its 2 ticks, row 1 is not suspended at all; at 11 it is for 3 of its 6 ticks
abbrev pub less_taken : List (List Job)
less_taken = (once 0 1 ∷ []) ∷ (job 0 (part 0 1 ∷ part 0 1 ∷ []) ∷ job 11 (part 0 1 ∷ part 3 1 ∷ []) ∷ []) ∷ []

-- a stretch may take less than its C, and a suspension less than its S, or nothing
abbrev pub LessIsAllowed : Type 0
LessIsAllowed = Allowed paused_table (run_of less_taken) × Ends (run_of less_taken) 1 0 3 × Ends (run_of less_taken) 1 11 16

-- a row alone
abbrev pub one_table : Table
one_table = row "a" 4 4 (2 ∷ []) ∷ []

-- released at 3 and at 9, full times
abbrev pub seldom : List (List Job)
seldom = (once 3 2 ∷ once 9 2 ∷ []) ∷ []

-- releases may lie more than T apart, at no multiple of T, and begin after 0
abbrev pub SeldomIsAllowed : Type 0
SeldomIsAllowed = Allowed one_table (run_of seldom) × Ends (run_of seldom) 0 3 5 × Ends (run_of seldom) 0 9 11

-- the table of document 01 whose second row fits with 4, its deadline
abbrev pub full_table : Table
full_table = row "a" 2 2 (1 ∷ []) ∷ row "b" 4 4 (2 ∷ []) ∷ []

-- both rows every T, full times
abbrev pub every_t : List (List Job)
every_t = (once 0 1 ∷ once 2 1 ∷ once 4 1 ∷ once 6 1 ∷ []) ∷ (once 0 2 ∷ once 4 2 ∷ []) ∷ []

-- releases may lie exactly T apart, with full times
abbrev pub ExactlyTIsAllowed : Type 0
ExactlyTIsAllowed = Allowed full_table (run_of every_t) × Ends (run_of every_t) 1 0 4 × Ends (run_of every_t) 1 4 8

-- more work than there are ticks: the second row misses
abbrev pub late_table : Table
late_table = row "a" 2 2 (1 ∷ []) ∷ row "b" 3 3 (2 ∷ []) ∷ []

-- both rows every T, full times
abbrev pub late_jobs : List (List Job)
late_jobs = (once 0 1 ∷ once 2 1 ∷ once 4 1 ∷ once 6 1 ∷ []) ∷ (once 0 2 ∷ once 3 2 ∷ []) ∷ []

-- a row's jobs are served in release order, one after another, also when late: the second, released at 3, waits for the first, complete at 4
abbrev pub LateIsServedInOrder : Type 0
LateIsServedInOrder = Allowed late_table (run_of late_jobs) × Ends (run_of late_jobs) 1 0 4 × Ends (run_of late_jobs) 1 3 8

-- a suspended job above another: document 01 has no such table, since only its last row may be suspended, but the rules are said of any
abbrev pub paused_above : List (List Job)
paused_above = (job 0 (part 0 1 ∷ part 2 1 ∷ []) ∷ []) ∷ (once 0 2 ∷ []) ∷ []

-- a suspended job is no ready work: the lower row runs meanwhile
abbrev pub SuspendedIsNotReady : Type 0
SuspendedIsNotReady = Ends (run_of paused_above) 0 0 4 × Ends (run_of paused_above) 1 0 3

-- ---- allowed, and by one not: a row that fits with R has a job that is not complete within R, so that demand 3 would be false of more runs

-- the row alone fits with 1
abbrev pub tick_table : Table
tick_table = row "a" 1 1 (1 ∷ []) ∷ []

-- released at 0, for its tick
abbrev pub one_tick : List (List Job)
one_tick = (once 0 1 ∷ []) ∷ []

-- a stretch takes 1 tick or more; on paper one of none never ends
abbrev pub LeastStretch : Type 0
LeastStretch = BothSides tick_table one_tick ((once 0 0 ∷ []) ∷ []) 0 0 1

-- a stretch takes at most its C
abbrev pub LongestStretch : Type 0
LongestStretch = BothSides tick_table one_tick ((once 0 2 ∷ []) ∷ []) 0 0 1

-- a job has no more stretches than its row
abbrev pub MostStretches : Type 0
MostStretches = BothSides tick_table one_tick ((job 0 (part 0 1 ∷ part 0 1 ∷ []) ∷ []) ∷ []) 0 0 1

-- the row alone fits with 3
abbrev pub short_table : Table
short_table = row "a" 3 3 (1 ∷ 1 ∷ 1 ∷ []) ∷ []

-- a suspension takes at most its S
abbrev pub LongestSuspension : Type 0
LongestSuspension =
    BothSides short_table ((job 0 (part 0 1 ∷ part 1 1 ∷ []) ∷ []) ∷ []) ((job 0 (part 0 1 ∷ part 2 1 ∷ []) ∷ []) ∷ []) 0 0 3

-- releases lie at least T apart: here two of the first row, T or T - 1, and the second row fits with 4
abbrev pub LeastDistance : Type 0
LeastDistance =
    BothSides full_table ((once 0 1 ∷ once 2 1 ∷ []) ∷ (once 0 2 ∷ []) ∷ []) ((once 0 1 ∷ once 1 1 ∷ once 3 1 ∷ []) ∷ (once 0 2 ∷ []) ∷ []) 1 0 4
