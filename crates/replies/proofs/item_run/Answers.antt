-- `item_run` meets its contract.
use mathlib.Core.Path.{refl, ap}
use Rattle.std.specs.Prelude.{Some}
use Rattle.replies.proofs.Laws.{item-short, item-whole}
use Rattle.replies.proofs.item_run.Goals as goal

pub returns-then-item-lt-TICKS : goal.returns-then-item-lt-TICKS
returns-then-item-lt-TICKS c = record { value = rw (item-short c.args.item.now c.if-item-lt-TICKS.true) (refl, refl); front = tt }

pub returns : goal.returns
returns c =
    let t = c.ticks_of-ticks in
    record { value = rw (item-whole c.args.item.now t.result c.if-item-lt-TICKS.false t.ensures) (ap Some c.run_of.ensures.value.0, c.run_of.ensures.value.1); front = c.run_of.ensures.front }
