-- `ends::node_agrees` meets its contract. Assumes nothing.
use mathlib.Core.Bool.{not}
use borrow.Author.Rules.{rules}
use Rattle.hop_rule.specs.Stored.{read_as}
use Rattle.hop_rule.specs.Notice.{one_ended}
use Rattle.hop_cells.proofs.Chains.{all_passed}
use Rattle.hop_judge.proofs.ends.node_agrees.Goals as goal

pub returns : goal.returns
returns c =
    let a = c.args in
    all_passed _ a.u (λ w. not (one_ended (read_as a.s.n a.s.bytes.now) a.u w)) _ _ c.all.result c.all.ensures.ran (λ x b q k. search rules)
