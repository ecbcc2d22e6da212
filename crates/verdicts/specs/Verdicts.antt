-- What is said of a row and of a table: document 01, 'The figures'.
use Rattle.std.specs.Prelude.{Result, Ok, Err, Bool, true, false, List, ℕ, leb, Option as RustOption, Some, None, if◌then◌else◌}
use Rattle.std.proofs.Math.Option.{Option, none, some}
use Rattle.words.specs.Lists.{all, any}
use Rattle.refusals.specs.declared.Refusal.{Refusal}
use Rattle.ticks.specs.Ticks.{long}
use Rattle.ticks.specs.declared.Length.{Length}
use Rattle.verdicts.specs.declared.Bound.TheVariants.{Whole, Split}
use Rattle.verdicts.specs.declared.Verdict.{Verdict}
use Rattle.verdicts.specs.declared.Verdict.TheVariants.{Fits, Misses, Open}
use Rattle.verdicts.specs.declared.TableVerdict.{TableVerdict}
use Rattle.verdicts.specs.declared.TableVerdict.TheVariants.{Fits as TableFits, Misses as TableMisses, Open as TableOpen}

-- a figure, where there is one
abbrev pub figure_of : Option ℕ → RustOption Length
figure_of none = None
figure_of (some n) = Some (long n)

-- and back: the number in a figure
abbrev pub number_in : RustOption Length → Option ℕ
number_in None = none
number_in (Some l) = some l.0

-- a bound above D is no figure
abbrev pub at_most : ℕ → Option ℕ → Option ℕ
at_most d none = none
at_most d (some b) = if leb b d then some b else none

-- a row with one C has only whole
abbrev pub single : Option ℕ → Verdict
single none = Misses
single (some w) = Fits Whole (long w)

-- the lesser figure, and whole where they are equal
abbrev pub lesser : Option ℕ → Option ℕ → Verdict
lesser none none = Open
lesser (some w) none = Fits Whole (long w)
lesser none (some s) = Fits Split (long s)
lesser (some w) (some s) = if leb w s then Fits Whole (long w) else Fits Split (long s)

-- the row fits
abbrev pub fits : Verdict → Bool
fits (Fits b r) = true
fits Misses = false
fits Open = false

-- the row misses
abbrev pub misses : Verdict → Bool
misses (Fits b r) = false
misses Misses = true
misses Open = false

-- the table fits if every row does, misses if some row misses, and is open otherwise
abbrev pub overall : List Verdict → TableVerdict
overall vs = if all fits vs then TableFits else if any misses vs then TableMisses else TableOpen

-- the table's verdict with one row more; a refused table stays refused
abbrev pub joined_of : Result TableVerdict Refusal → Verdict → Result TableVerdict Refusal
joined_of (Ok TableFits) (Fits b r) = Ok TableFits
joined_of (Ok TableFits) Misses = Ok TableMisses
joined_of (Ok TableFits) Open = Ok TableOpen
joined_of (Ok TableOpen) (Fits b r) = Ok TableOpen
joined_of (Ok TableOpen) Misses = Ok TableMisses
joined_of (Ok TableOpen) Open = Ok TableOpen
joined_of (Ok TableMisses) v = Ok TableMisses
joined_of (Err x) v = Err x
