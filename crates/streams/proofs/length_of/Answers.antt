-- A number of two bytes is its higher byte and its lower byte.
use Rattle.std.proofs.Common.{rules}
use Rattle.streams.proofs.Items.{two-bytes}
use Rattle.streams.proofs.length_of.Goals as goal

pub returns : goal.returns
returns c = two-bytes c.from.result c.args.head (search rules) (search rules) (search rules) (search rules)
