-- `musselpath_full_run` meets its contract.
use mathlib.Core.Path.{sym, ◌∙◌}
use Rattle.text.specs.Read.{read_text}
use Rattle.musselpath.specs.Boundary.{run_answered, run_left}
use Rattle.musselpath.proofs.Answers.{answered-ran, answered-refused, place-small}
use Rattle.musselpath.proofs.musselpath_full_run.Goals as goal

pub pack-requires : goal.pack-requires
pack-requires c = place-small c.args.text.now c.args.ticks c.args.out.now _ (sym c.in-Err.is ∙ c.run_text.ensures.0)

pub returns-in-Ok : goal.returns-in-Ok
unfolding run_answered run_left
returns-in-Ok c = (answered-ran (read_text c.args.text.now) c.args.ticks c.args.out.now (sym c.in-Ok.is ∙ c.run_text.ensures.0), c.run_text.ensures.1)

pub returns-in-Err : goal.returns-in-Err
unfolding run_answered run_left
returns-in-Err c = (c.pack.ensures ∙ answered-refused (read_text c.args.text.now) c.args.ticks c.args.out.now _ (sym c.in-Err.is ∙ c.run_text.ensures.0), c.run_text.ensures.1)
