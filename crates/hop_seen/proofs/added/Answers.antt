-- `added` meets its contract: a shifted 1 is bit v. Assumes nothing.
use mathlib.Core.Path.{ap}
use lib.Bits.{bit_or}
use Rattle.hop_seen.specs.Seen.{added}
use Rattle.hop_seen.proofs.Seen.{one_shifted}
use Rattle.hop_seen.proofs.added.Goals as goal

pub returns : goal.returns
unfolding added
returns c = ap (bit_or c.args.set) (one_shifted c.args.v c.requires)
