-- What the loop of `Line::write` keeps: the bytes before the field that comes next stand at the front.
use Rattle.words.proofs.Put.{Put}
use Rattle.lines.proofs.Laws.{before}
use Rattle.lines.proofs.Line.write.Given as goal

abbrev pub invariant-loop-field : goal.invariant-loop-field
invariant-loop-field l = Put (before l.fn.self l.field-index) l.fn.out l.out l.at
