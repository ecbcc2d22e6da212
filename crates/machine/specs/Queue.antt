-- The queue of the kernel's rules that a row's cell stands for.
use Rattle.std.specs.Prelude.{List, [], ◌∷◌, ℕ, zero, suc, ◌+◌, ◌-◌, ◌/◌, drop}
use Rattle.table.specs.Paper.{Row, Part, part, behind, parts}
use Rattle.machine.specs.declared.Cell.{Cell}
use Rattle.kernel.specs.Rules.{Job, job}

-- what is left of the cell's job at the instant n: its stretch, with what is left of the suspension before it, and the stretches behind it
abbrev pub left_of : Row → ℕ → Cell → List Part
left_of r n c = part (c.ready.0 - n) c.left.0 ∷ behind (drop (c.place + 1) r.times)

-- j jobs with full times, a period apart, the first released at `from`
abbrev pub full_jobs : Row → ℕ → ℕ → List Job
full_jobs r from zero = []
full_jobs r from (suc j) = job from (parts r.times) ∷ full_jobs r (from + r.period) j

-- j jobs: the cell's, and the late ones behind it
abbrev pub jobs_of : Row → ℕ → Cell → ℕ → List Job
jobs_of r n c zero = []
jobs_of r n c (suc j) = job c.release.0 (left_of r n c) ∷ full_jobs r (c.release.0 + r.period) j

-- how many jobs were released before the instant n, from the cell's on: a release every period, so a ceiling
abbrev pub released_of : Row → ℕ → Cell → ℕ
released_of r n c = (n - c.release.0 + (r.period - 1)) / r.period

-- the queue at the instant n
unfoldable pub queue_of : Row → ℕ → Cell → List Job
queue_of r n c = jobs_of r n c (released_of r n c)
