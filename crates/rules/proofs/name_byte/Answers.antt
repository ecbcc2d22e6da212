-- `name_byte` meets its contract: a letter, or else a digit, or else a hyphen.
use mathlib.Core.Path.{sym, ◌∙◌}
use mathlib.Core.Bool.{true≢false}
use Rattle.words.proofs.Choice.{or-true, or-false}
use Rattle.rules.proofs.Names.{letter_byte, other_byte}
use Rattle.rules.proofs.name_byte.Goals.{then-is_ascii_lowercase, else-is_ascii_lowercase}
use Rattle.rules.proofs.name_byte.Goals as goal

pub returns-then-is_ascii_digit : goal.returns-then-is_ascii_digit
returns-then-is_ascii_digit c = elim c.if-is_ascii_lowercase.branch [
  | then-is_ascii_lowercase w ↦ c.if-is_ascii_digit.true ∙ sym (letter_byte c.args.b _ c.is_ascii_lowercase.ensures.cases w.if-is_ascii_lowercase.true)
  | else-is_ascii_lowercase w ↦
      c.if-is_ascii_digit.true
      ∙ sym (other_byte c.args.b _ _ c.is_ascii_lowercase.ensures.cases w.is_ascii_digit.ensures.cases w.if-is_ascii_lowercase.false ∙ or-true _ (sym w.value-is ∙ c.if-is_ascii_digit.true))
]

pub returns-else-is_ascii_digit : goal.returns-else-is_ascii_digit
returns-else-is_ascii_digit c = elim c.if-is_ascii_lowercase.branch [
  | then-is_ascii_lowercase w ↦ absurd (true≢false (sym w.if-is_ascii_lowercase.true ∙ sym w.value-is ∙ c.if-is_ascii_digit.false))
  | else-is_ascii_lowercase w ↦
      sym (other_byte c.args.b _ _ c.is_ascii_lowercase.ensures.cases w.is_ascii_digit.ensures.cases w.if-is_ascii_lowercase.false ∙ or-false _ (sym w.value-is ∙ c.if-is_ascii_digit.false))
]
