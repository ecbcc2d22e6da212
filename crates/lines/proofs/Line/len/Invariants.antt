-- What the loop of `Line::len` keeps: the bytes of the first field and of the fields passed so far.
use mathlib.Core.Path.{◌≡◌}
use Prim.Native.Nat.{◌+◌, ◌*◌, ◌≤◌}
use lib.ListN.{length, take}
use Rattle.words.specs.Lists.{up_to}
use Rattle.fields.specs.Fields.{fields_text}
use Rattle.lines.specs.Lines.{texts}
use Rattle.lines.proofs.Line.len.Given as goal

abbrev pub invariant-loop-field : goal.invariant-loop-field
invariant-loop-field l =
    (l.len ≡ length (up_to 0 l.fn.self.head) + length (fields_text (texts (take l.field-index l.field-items)))) × (l.len ≤ 12 + 21 * l.field-index)
