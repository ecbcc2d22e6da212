-- The kernel's rules: document 01, 'The kernel's rules'. Time is whole ticks; tick n lies between the instants n and n + 1.
use Rattle.std.specs.Prelude.{◌≡◌, Bool, true, false, not, ◌&&◌, List, [], ◌∷◌, ◌++◌, ℕ, zero, suc, ◌+◌, ◌%◌, ◌≤◌, ◌<◌, eqb, length, if◌then◌else◌}
use Rattle.std.proofs.Math.Option.{Option, none, some}
use Rattle.table.specs.Paper.{Row, Table, row_at, Part, part, parts}

-- a job: its release, and the stretches that are left of it, each with the suspension before it; in an allowed run never none
pub data Job : Type 0 where
  job : ℕ → List Part → Job

-- a tick of processor time for a stretch that has c ticks left, with l behind it; one of no ticks never ends: the rules allow none
abbrev pub spend : ℕ → List Part → List Part
spend zero l = part zero zero ∷ l
spend (suc zero) l = l
spend (suc (suc c)) l = part zero (suc c) ∷ l

-- one tick of the job that its row serves: a suspension goes on with the processor or without it, a stretch only with it.
-- A suspension starts at the instant its stretch ends, and the next stretch is ready when it ends.
abbrev pub advance : Bool → List Part → List Part
advance b [] = []
advance b (part (suc s) c ∷ l) = part s c ∷ l
advance true (part zero c ∷ l) = spend c l
advance false (part zero c ∷ l) = part zero c ∷ l

-- a job with nothing left is complete, and the next one of its row is served
abbrev pub keep : ℕ → List Part → List Job → List Job
keep r [] q = q
keep r (x ∷ l) q = job r (x ∷ l) ∷ q

-- one tick of a row: its jobs are served in release order, one after another, also when late
abbrev pub serve : Bool → List Job → List Job
serve b [] = []
serve b (job r l ∷ q) = keep r (advance b l) q

-- the row has ready work: the job that it serves is in no suspension
abbrev pub ready : List Job → Bool
ready [] = false
ready (job r [] ∷ q) = false
ready (job r (part zero c ∷ l) ∷ q) = true
ready (job r (part (suc s) c ∷ l) ∷ q) = false

-- a row's release in tick n, or none: a job with its chosen times, ready at the tick of its release
abbrev pub arrive : ℕ → Option (List Part) → List Job → List Job
arrive n none q = q
arrive n (some l) q = q ++ (job n l ∷ [])

-- the machine: of each row, by its number from 0, the jobs that are not complete, in release order
abbrev pub State : Type 0
State = ℕ → List Job

-- the releases of one tick, by the row's number
abbrev pub Input : Type 0
Input = ℕ → Option (List Part)

-- in tick n no row above row k has ready work
abbrev pub free : ℕ → Input → State → ℕ → Bool
free n i s zero = true
free n i s (suc k) = free n i s k && not (ready (arrive n (i k) (s k)))

-- one tick: the highest row with ready work runs for the whole tick
abbrev pub step : ℕ → Input → State → State
step n i s k = serve (free n i s k) (arrive n (i k) (s k))

-- the state after n ticks of a run, which starts with no job
abbrev pub after : (ℕ → Input) → ℕ → State
after run zero k = []
after run (suc n) k = step n (run n) (after run n) k

-- chosen times within a row's: each stretch from 1 to its C, each suspension from 0 to its S
abbrev pub Within : List Part → List Part → Type 0
Within [] [] = Unit {0}
Within [] (x ∷ m) = ⊥
Within (x ∷ l) [] = ⊥
Within (part w c ∷ l) (part s k ∷ m) = (w ≤ s) × (1 ≤ c) × (c ≤ k) × Within l m

-- two releases of a row, at u and later at v, lie at least T apart
abbrev pub Apart : Row → ℕ → ℕ → Type 0
Apart r u v = u + r.period ≤ v

-- the releases of one row: at least T apart, each with times within the row's
pub record Legal (r : Row) (releases : ℕ → Option (List Part)) : Type 0 where
  pub apart : (u v : ℕ) (l m : List Part) → u < v → releases u ≡ some l → releases v ≡ some m → Apart r u v
  pub within : (u : ℕ) (l : List Part) → releases u ≡ some l → Within l (parts r.times)

-- a run that the rules allow, of a table's rows
abbrev pub LegalRun : Table → (ℕ → Input) → Type 0
LegalRun t run = (i : ℕ) → i < length t → Legal (row_at t i) (λ u. run u i)

-- each job of a row that was released at s or before is complete
abbrev pub Complete : ℕ → List Job → Type 0
Complete s [] = Unit {0}
Complete s (job r l ∷ q) = (s < r) × Complete s q

-- a row's releases in the full run: at 0 and every T, with full times
abbrev pub full_release : ℕ → Row → Option (List Part)
full_release u r = if eqb (u % r.period) 0 then some (parts r.times) else none

-- the full run: all rows so released
abbrev pub full : (ℕ → Row) → ℕ → Input
full rows u k = full_release u (rows k)
