-- `both_are` meets its contract: each pair of bytes is tested for it. Assumes nothing.
use mathlib.Core.Bool.{◌&&◌}
use lib.Dec.{eqb}
use borrow.Author.Rules.{rules}
use Rattle.hop_rows.proofs.both_are.Goals as goal

pub returns : goal.returns
returns c = rw (← c.requires) (c.each_pair.ensures (λ y z. eqb y c.args.x && eqb z c.args.x) (λ y z r e. search rules))
