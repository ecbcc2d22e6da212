-- `Machine::start` meets its contract: each cell is that of its row's first job.
use mathlib.Core.Path.{◌∙◌}
use native.Mathlib.Omega.{arith}
use lib.ListN.{length-set}
use Rattle.ticks.specs.Ticks.{instant}
use Rattle.table.specs.Limits.{most_rows}
use Rattle.table.specs.Value.{no_value}
use Rattle.machine.specs.Tick.{cell_of, no_cell}
use Rattle.words.proofs.Filled.{filled_next}
use Rattle.machine.proofs.Machine.start.Goals as goal

pub loop-i-preserved : goal.loop-i-preserved
loop-i-preserved c = (
  length-set _ _ _ ∙ c.loop-i.invariant.0,
  filled_next (cell_of (instant 0)) no_cell c.args.rows.now most_rows c.loop-i.i no_value c.loop-i.cells _ c.loop-i-test.true (omega arith) c.loop-i.invariant.1 c.new.ensures,
)
