-- `put_instants` meets its contract: after each turn the numbers so far stand at the front.
use lib.ListN.{take}
use Rattle.words.proofs.Put.{Put}
use Rattle.musselpath.specs.Parts.{numbers_of}
use Rattle.musselpath.proofs.put_instants.Given as goal

abbrev pub invariant-loop-i : goal.invariant-loop-i
invariant-loop-i l = Put (numbers_of (take l.i l.firsts)) l.initial.out l.out l.i
