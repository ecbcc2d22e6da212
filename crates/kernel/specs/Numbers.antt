-- The runs that the kernel's rules allow, said a second time: by numbers and places, stretch by stretch. proofs/Legal shows that both say the same.
-- Stretches and suspensions of a row are counted from 0; suspension j is the one before stretch j, so that suspension 0 is none.
use Rattle.std.specs.Prelude.{◌≡◌, List, [], ℕ, zero, suc, ◌+◌, ◌*◌, ◌/◌, ◌≤◌, ◌<◌, length, get_or}
use Rattle.std.proofs.Math.Option.{Option, none, some}
use Rattle.table.specs.Paper.{Row, Table, row_at, Part, part}
use Rattle.kernel.specs.Rules.{Job, job, Input, after, full}

-- how many C a row has: its times are C1, S1, C2, S2, C3, ..
abbrev pub stretches : Row → ℕ
stretches r = (length r.times + 1) / 2

-- the C of stretch j: every other time, from the first on
abbrev pub stretch : Row → ℕ → ℕ
stretch r j = get_or r.times (2 * j) 0

-- the S before stretch j: the time before its C; none before the first
abbrev pub suspension : Row → ℕ → ℕ
suspension r zero = 0
suspension r (suc j) = get_or r.times (2 * j + 1) 0

-- the ticks of a stretch
abbrev pub ticks : Part → ℕ
ticks (part s c) = c

-- the ticks of the suspension before it
abbrev pub pause : Part → ℕ
pause (part s c) = s

-- the ticks that a job takes for stretch j
abbrev pub taken : List Part → ℕ → ℕ
taken l j = ticks (get_or l j (part 0 0))

-- the ticks for which it is suspended before stretch j
abbrev pub suspended : List Part → ℕ → ℕ
suspended l j = pause (get_or l j (part 0 0))

-- a job that a row may release: as many stretches as the row has, each from 1 to its C, each suspension at most its S
pub record LegalJob (r : Row) (l : List Part) : Type 0 where
  pub count : length l ≡ stretches r
  pub least : (j : ℕ) → j < stretches r → 1 ≤ taken l j
  pub most : (j : ℕ) → j < stretches r → taken l j ≤ stretch r j
  pub longest : (j : ℕ) → j < stretches r → suspended l j ≤ suspension r j

-- a row's releases: each a job that it may release, and none in the T - 1 ticks after a release
pub record LegalRow (r : Row) (releases : ℕ → Option (List Part)) : Type 0 where
  pub jobs : (u : ℕ) (l : List Part) → releases u ≡ some l → LegalJob r l
  pub apart : (u : ℕ) (l : List Part) → releases u ≡ some l → (d : ℕ) → 0 < d → d < r.period → releases (u + d) ≡ none

-- a run in which every row of the table releases so
abbrev pub LegalNumbers : Table → (ℕ → Input) → Type 0
LegalNumbers t run = (i : ℕ) → i < length t → LegalRow (row_at t i) (λ u. run u i)

-- the instant at which a job was released
abbrev pub released : Job → ℕ
released (job r l) = r

-- of the jobs that are not complete, by their places, none was released at s or before
abbrev pub NoneLeft : ℕ → List Job → Type 0
NoneLeft s q = (j : ℕ) → j < length q → s < released (get_or q j (job 0 []))

-- c is the first instant after a tick of the full run, of n ticks, at which row k has no job left that was released at 0
pub record FirstEnd (rows : ℕ → Row) (k n c : ℕ) : Type 0 where
  pub ticked : 1 ≤ c
  pub inside : c ≤ n
  pub ended : NoneLeft 0 (after (full rows) c k)
  pub before : (u : ℕ) → 1 ≤ u → u < c → NoneLeft 0 (after (full rows) u k) → ⊥
