-- `Line::len` meets its contract: a field has at most 20 bytes, so that no sum leaves 64 bits.
use mathlib.Core.Path.{◌≡◌, ap}
use native.Mathlib.Omega.{arith}
use borrow.Author.Rules.{rules}
use lib.ListN.{length}
use lib.Seq.{take_all}
use Rattle.std.specs.Prelude.{None}
use Rattle.words.specs.Lists.{up_to}
use Rattle.fields.specs.Fields.{fields_text}
use Rattle.fields.proofs.Lines.{fields-none, line-length}
use Rattle.lines.specs.Lines.{texts}
use Rattle.lines.proofs.Laws.{head-length, head-short, length-there, field-none}
use Rattle.lines.proofs.Line.len.Goals as goal
use Rattle.lines.proofs.Line.len.Goals.{in-Some, in_default}

pub loop-field-init : goal.loop-field-init
loop-field-init c =
    let n : length c.args.self.head ≡ 12 = search rules in
    let e = c.used-len.ensures in
    (omega (arith, head-length c.args.self.head c.used-len.result e, fields-none), omega (arith, head-short c.args.self.head c.used-len.result e))

pub loop-field-preserved : goal.loop-field-preserved
loop-field-preserved c =
    let n : length c.args.self.fields ≡ 9 = search rules in
    let fs = c.args.self.fields in
    let i = c.loop-field.field-index in
    elim c.match-field.branch [
      | in-Some w ↦ (omega (arith, length-there fs i None (omega arith) _ w.in-Some.is), omega arith)
      | in_default w ↦ (omega (arith, ap (λ ts. length (fields_text ts)) (field-none fs i None (omega arith) w.in_default.is)), omega arith)
    ]

pub returns : goal.returns
returns c =
    let n : length c.args.self.fields ≡ 9 = search rules in
    let e = ap (λ fs. length (fields_text (texts fs))) (take_all c.loop-field.field-index c.args.self.fields (omega arith)) in
    omega (arith, e, line-length (up_to 0 c.args.self.head) (texts c.args.self.fields))
