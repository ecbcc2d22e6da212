-- The figures: document 01, 'The figures'. Row k is counted from 0; the rows above it are 0 to k - 1.
use Rattle.std.specs.Prelude.{Bool, true, false, List, [], ◌∷◌, ℕ, zero, suc, ◌+◌, ◌-◌, ◌*◌, ◌/◌, eqb, ltb, length, if◌then◌else◌}
use Rattle.std.proofs.Math.Option.{Option, none, some}
use Rattle.words.specs.Choice.{◌or◌}
use Rattle.table.specs.Paper.{Row, Part, part, parts, work, total}
use Rattle.verdicts.specs.Verdicts.{at_most, single, lesser}
use Rattle.verdicts.specs.declared.Verdict.{Verdict}

-- ceiling (t / n)
unfoldable pub ceiling : ℕ → ℕ → ℕ
ceiling t n = (t + (n - 1)) / n

-- the releases of a row that a window of t ticks counts
unfoldable pub arrivals : Row → ℕ → ℕ
arrivals r t = ceiling t r.period

-- the sum over the rows above row k
abbrev pub demand : (ℕ → Row) → ℕ → ℕ → ℕ
demand rows zero t = 0
demand rows (suc k) t = demand rows k t + arrivals (rows k) t * work (parts (rows k).times)

-- the right side of the recurrence: c, and what the rows above row k ask for
abbrev pub right : (ℕ → Row) → ℕ → ℕ → ℕ → ℕ
right rows k c t = c + demand rows k t

-- work ends at t where f t is t or above d
abbrev pub stops : (ℕ → ℕ) → ℕ → ℕ → Bool
stops f d t = eqb (f t) t or ltb d (f t)

-- the t at which f is worked out, from t on, where `end` says that work ends at t; n is how many more may come
abbrev pub sequence_from : ℕ → (ℕ → ℕ) → ℕ → ℕ → Bool → List ℕ
sequence_from zero f d t end = t ∷ []
sequence_from (suc n) f d t true = t ∷ []
sequence_from (suc n) f d t false = t ∷ sequence_from n f d (f t) (stops f d (f t))

-- the sequence of t, from c on: each is above the one before it and at most d, so d - c more than c are enough
unfoldable pub sequence : (ℕ → ℕ) → ℕ → ℕ → List ℕ
sequence f d c = sequence_from (d - c) f d c (stops f d c)

-- the last of t and those that follow it
abbrev pub last : ℕ → List ℕ → ℕ
last t [] = t
last t (u ∷ l) = last u l

-- what the end of the sequence says: a fixed point is a result, anything else is none
abbrev pub settled : (ℕ → ℕ) → ℕ → Option ℕ
settled f t = if eqb (f t) t then some t else none

-- the result of the recurrence from c on, up to d
abbrev pub result : (ℕ → ℕ) → ℕ → ℕ → Option ℕ
result f d c = settled f (last c (sequence f d c))

-- rounds: how many times the right side was worked out
abbrev pub rounds : (ℕ → ℕ) → ℕ → ℕ → ℕ
rounds f d c = length (sequence f d c)

-- what the row itself asks for: all its C and S
abbrev pub own : Row → ℕ
own r = total (parts r.times)

-- whole: the recurrence with all C and S of the row
abbrev pub whole : (ℕ → Row) → ℕ → Option ℕ
whole rows k = result (right rows k (own (rows k))) (rows k).deadline (own (rows k))

-- a stretch's result with the suspension before it and what the later ones come to; none where one of them passed D
abbrev pub plus : ℕ → Option ℕ → Option ℕ → Option ℕ
plus s none b = none
plus s (some r) none = none
plus s (some r) (some b) = some (s + r + b)

-- the recurrence for each C by itself, and the sum of the results and all S
abbrev pub split_from : (ℕ → Row) → ℕ → List Part → Option ℕ
split_from rows k [] = some 0
split_from rows k (part s c ∷ l) = plus s (result (right rows k c) (rows k).deadline c) (split_from rows k l)

-- split
abbrev pub split : (ℕ → Row) → ℕ → Option ℕ
split rows k = at_most (rows k).deadline (split_from rows k (parts (rows k).times))

-- by the row's stretches: one, or several
abbrev pub judge : List Part → Option ℕ → Option ℕ → Verdict
judge [] w s = single w
judge (x ∷ []) w s = single w
judge (x ∷ y ∷ l) w s = lesser w s

-- the verdict of row k
abbrev pub verdict : (ℕ → Row) → ℕ → Verdict
verdict rows k = judge (parts (rows k).times) (whole rows k) (split rows k)

-- n, unless there is no result
abbrev pub unless_none : Option ℕ → ℕ → ℕ
unless_none none n = 0
unless_none (some r) n = n

-- the rounds of split: a stretch behind one that passed D is not worked out
abbrev pub split_rounds : (ℕ → Row) → ℕ → List Part → ℕ
split_rounds rows k [] = 0
split_rounds rows k (part s c ∷ l) =
    rounds (right rows k c) (rows k).deadline c + unless_none (result (right rows k c) (rows k).deadline c) (split_rounds rows k l)

-- a row with one C has only whole's rounds, the others whole's and split's
abbrev pub with_split : List Part → ℕ → ℕ → ℕ
with_split [] w s = w
with_split (x ∷ []) w s = w
with_split (x ∷ y ∷ l) w s = w + s

-- the rounds of row k, all recurrences added
abbrev pub row_rounds : (ℕ → Row) → ℕ → ℕ
row_rounds rows k =
    with_split (parts (rows k).times) (rounds (right rows k (own (rows k))) (rows k).deadline (own (rows k)))
    (split_rounds rows k (parts (rows k).times))
