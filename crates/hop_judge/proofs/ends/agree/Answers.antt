-- `ends::agree` meets its contract: every node agrees with those below it, and so all pairs are looked at. Assumes nothing.
use mathlib.Core.Path.{◌∙◌}
use mathlib.Core.Bool.{not}
use borrow.Author.Rules.{rules}
use Rattle.hop_rule.specs.Words.{every}
use Rattle.hop_rule.specs.Stored.{read_as}
use Rattle.hop_rule.specs.Notice.{one_ended}
use Rattle.hop_cells.proofs.Chains.{all_passed}
use Rattle.hop_judge.proofs.Read.{agree_below}
use Rattle.hop_judge.proofs.ends.agree.Goals as goal

pub returns : goal.returns
unfolding read_as
returns c =
    let a = c.args in
    all_passed _ a.s.n (λ u. every u (λ w. not (one_ended (read_as a.s.n a.s.bytes.now) u w))) _ _ c.all.result c.all.ensures.ran (λ x b q k. search rules) ∙ agree_below _
