-- `run_text` meets its contract.
use mathlib.Core.Path.{refl, sym, ap, ◌∙◌}
use Rattle.std.specs.Prelude.{Err}
use Rattle.std.proofs.lemmas.Result.{err_from_is_err_and}
use Rattle.text.proofs.Back.{reading-accepted, reading-refused}
use Rattle.musselpath.proofs.run_text.Goals as goal

pub run-requires : goal.run-requires
run-requires c = (reading-accepted c.args.text.now _ (sym c.in_ok-table.was ∙ c.read.ensures)).0

pub returns : goal.returns
returns c = rw (reading-accepted c.args.text.now _ (sym c.in_ok-table.was ∙ c.read.ensures)).1 c.run.ensures

pub returns-in_err-table : goal.returns-in_err-table
returns-in_err-table c =
    let p = err_from_is_err_and c.from_residual.result c.from_residual.ensures.1 in
    rw (reading-refused c.args.text.now _ (sym c.in_err-table.was ∙ c.read.ensures)) (p.1 ∙ ap Err p.2, refl)
