-- `reply` meets its contract.
use mathlib.Core.Path.{ap}
use Rattle.std.specs.Prelude.{Some}
use Rattle.replies.proofs.reply.Goals as goal

pub returns-in-Report : goal.returns-in-Report
returns-in-Report c = record { value = rw c.in-Report.is (ap Some c.report_of.ensures.value.0, c.report_of.ensures.value.1); front = c.report_of.ensures.front }

pub returns-in-Text : goal.returns-in-Text
returns-in-Text c = record { value = rw c.in-Text.is (ap Some c.text_of.ensures.value.0, c.text_of.ensures.value.1); front = c.text_of.ensures.front }

pub returns-in-Run : goal.returns-in-Run
returns-in-Run c = record { value = rw c.in-Run.is c.item_run.ensures.value; front = c.item_run.ensures.front }
