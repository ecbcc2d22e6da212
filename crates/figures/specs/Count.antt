-- What counting a row's releases on goes by.
use Rattle.std.specs.Prelude.{ℕ, ◌-◌}
use Rattle.recurrence.specs.Figures.{ceiling}

-- numbers up to this one keep every sum and product of the figures within 64 bits; a table's limit is at most this
abbrev pub safe_number : ℕ
safe_number = 60000000

-- the releases of a row with that period that come in between the instant `held`, up to which its count holds, and t
unfoldable pub more_of : ℕ → ℕ → ℕ → ℕ
more_of held period t = ceiling (t - held) period
