-- `has` meets its contract: bit v is the lowest one, once the set is shifted. Assumes nothing.
use mathlib.Core.Path.{ap}
use Prim.Native.Nat.{ℕ, ◌/◌, ◌^◌}
use lib.Dec.{eqb}
use Rattle.hop_seen.specs.Seen.{has}
use Rattle.hop_seen.proofs.Seen.{low_bit}
use Rattle.hop_seen.proofs.has.Goals as goal

pub returns : goal.returns
unfolding has
returns c = ap (λ (x : ℕ). eqb x 1) (low_bit (c.args.set / 2 ^ c.args.v))
