-- `figure_of` meets its contract.
use Rattle.report.proofs.figure_of.Goals as goal

pub returns-in-Fits : goal.returns-in-Fits
returns-in-Fits c = rw c.in-Fits.is
