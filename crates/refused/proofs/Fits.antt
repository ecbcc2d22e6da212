-- The line of a text's refusal is short: its three numbers have two digits at most.
use mathlib.Core.Path.{ap}
use mathlib.Core.List.{List, [], ◌∷◌}
use Prim.Native.Nat.{ℕ, ◌+◌, ◌*◌, ◌≤◌, ◌<◌}
use native.Mathlib.Omega.{arith}
use lib.ListN.{length}
use Rattle.words.specs.Spelled.{spelled}
use Rattle.decimal.specs.Decimal.{digits}
use Rattle.decimal.proofs.Digits.{length-below}
use Rattle.fields.specs.Fields.{fields_text}
use Rattle.fields.proofs.Lines.{fields-none, fields-length}
use Rattle.refusals.specs.declared.Refusal.{Refusal}
use Rattle.refusals.specs.Refusals.{number_of, line_of, field_of}
use Rattle.text.proofs.Places.{Place}
use Rattle.refused.specs.Refused.{refused_line}
use Rattle.refused.proofs.Lines.{place-there, refused-length}

-- the word, three numbers, and the byte that ends each
abbrev pub longest_refused : ℕ
longest_refused = length (spelled "refused") + 3 * 2 + 4

two_digits : (n : ℕ) → n < 100 → length (digits n) ≤ 2
two_digits n h = length-below 1 n (omega arith)

-- THE LINE OF A TEXT'S REFUSAL IS NO LONGER THAN THAT
pub refused-fits : (x : Refusal) → Place x → length (refused_line x) ≤ longest_refused
refused-fits x p =
    omega (
      arith,
      refused-length x,
      ap (λ (fs : List (List ℕ)). length (fields_text fs)) (place-there x p.number),
      fields-length (digits (line_of x)) (digits (field_of x) ∷ []),
      fields-length (digits (field_of x)) [],
      fields-none,
      two_digits (number_of x) (omega (arith, p.number)),
      two_digits (line_of x) (omega (arith, p.line)),
      two_digits (field_of x) (omega (arith, p.field)),
    )
