-- `all_below` meets its contract: each byte is tested for it. Assumes nothing.
use lib.Dec.{ltb}
use borrow.Author.Rules.{rules}
use Rattle.hop_rows.specs.Rows.{all_below}
use Rattle.hop_rows.proofs.all_below.Goals as goal

pub returns : goal.returns
unfolding all_below
returns c = c.each.ensures (λ b. ltb b c.args.x) (λ x r e. search rules)
