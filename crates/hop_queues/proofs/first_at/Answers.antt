-- `first_at` meets its contract. Assumes nothing.
use borrow.Author.Rules.{rules}
use lib.Dec.{eqb}
use Rattle.hop_rule.specs.declared.Table.TheVariants.{Destinations}
use Rattle.hop_cells.specs.Cells.{get3}
use Rattle.hop_cells.proofs.Chains.{found}
use Rattle.hop_queues.specs.Queues.{first_at}
use Rattle.hop_queues.proofs.first_at.Goals as goal

pub returns : goal.returns
unfolding first_at
returns c =
    let a = c.args in
    found _ a.m (λ p. eqb (get3 a.s.n Destinations a.w a.u p a.s.bytes.now) a.v) _ _ c.find.result c.find.ensures.ran (λ x b q k. search rules)
