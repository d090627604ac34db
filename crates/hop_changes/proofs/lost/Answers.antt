-- `lost` meets its contract: all places are counted, at most 1 each. Assumes nothing.
use mathlib.Core.Path.{ap, ◌∙◌}
use native.Mathlib.Omega.{arith}
use borrow.Author.Rules.{rules}
use Rattle.hop_rule.specs.Words.{sum}
use Rattle.hop_cells.proofs.Chains.{summed, sum_fits}
use Rattle.hop_changes.specs.Changes.{lost_at}
use Rattle.hop_changes.proofs.Sums.{lost_all, lost_most}
use Rattle.hop_changes.proofs.lost.Goals as goal

pub sum-requires-clause-fits : goal.sum-requires-clause-fits
unfolding lost_at
sum-requires-clause-fits c =
    let a = c.args in
    sum_fits _ _ (lost_at a.n a.before.now a.after.now) c.map.ensures.source c.map.ensures.closure (λ x r q k. search rules) _
    (omega (arith, lost_most a.n a.before.now a.after.now c.square.result, c.square.ensures.1))

pub returns : goal.returns
unfolding lost_at
returns c =
    let a = c.args in
    let f = lost_at a.n a.before.now a.after.now in
    let e = summed _ _ f c.map.ensures.source c.map.ensures.closure (λ x r q k. search rules) c.sum.ensures.ran in
    (e ∙ ap (λ k. sum k f) c.square.ensures.0 ∙ lost_all _ _ _, omega (arith, e, lost_most a.n a.before.now a.after.now c.square.result, c.square.ensures.1))
