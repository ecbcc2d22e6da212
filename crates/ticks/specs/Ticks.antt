-- Instants and lengths, and their allowed sums. Each stays within 64 bits: beyond, it is the largest number there.
use Rattle.std.specs.Prelude.{ℕ, ◌+◌, ◌-◌, min}
use Rattle.ticks.specs.declared.Instant.{Instant}
use Rattle.ticks.specs.declared.Length.{Length}

-- the instant n
abbrev pub instant : ℕ → Instant
instant n = record { 0 = n }

-- the length of n ticks
abbrev pub long : ℕ → Length
long n = record { 0 = n }

-- a length's number of ticks
abbrev pub ticks : Length → ℕ
ticks l = l.0

-- the largest number of 64 bits
abbrev pub most : ℕ
most = 18446744073709551615

-- an instant and a length after it
abbrev pub later_by : Instant → Length → Instant
later_by i l = record { 0 = min (i.0 + l.0) most }

-- the length from an earlier instant to a later one; 0 where they are the other way round
abbrev pub between : Instant → Instant → Length
between a b = record { 0 = b.0 - a.0 }

-- two lengths, one after the other
abbrev pub together : Length → Length → Length
together l m = record { 0 = min (l.0 + m.0) most }
