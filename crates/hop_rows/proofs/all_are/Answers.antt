-- `all_are` meets its contract: each byte is tested for it. Assumes nothing.
use lib.Dec.{eqb}
use borrow.Author.Rules.{rules}
use Rattle.hop_rows.specs.Rows.{all_are}
use Rattle.hop_rows.proofs.all_are.Goals as goal

pub returns : goal.returns
unfolding all_are
returns c = c.each.ensures (λ b. eqb b c.args.x) (λ x r e. search rules)
