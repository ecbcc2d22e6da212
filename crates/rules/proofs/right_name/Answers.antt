-- `right_name` meets its contract: where the length is right, the bytes decide.
use mathlib.Core.Path.{sym, ◌∙◌}
use Rattle.words.proofs.Lists.{all-list_all}
use Rattle.table.specs.Paper.{name_byte}
use Rattle.rules.proofs.Names.{name-short, name-long, name-bytes}
use Rattle.rules.proofs.right_name.Goals as goal

pub returns-then-bytes-lt1 : goal.returns-then-bytes-lt1
returns-then-bytes-lt1 c = sym (name-short _ c.if-bytes-lt1.true)

pub returns-then-bytes-gt-NAME : goal.returns-then-bytes-gt-NAME
returns-then-bytes-gt-NAME c = sym (name-long _ c.if-bytes-gt-NAME.true)

pub returns : goal.returns
returns c = c.name_bytes.ensures ∙ all-list_all name_byte _ ∙ sym (name-bytes _ c.if-bytes-lt1.false c.if-bytes-gt-NAME.false)
