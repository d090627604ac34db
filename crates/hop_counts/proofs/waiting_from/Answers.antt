-- `waiting_from` meets its contract: the lengths of the queues from u are added up. Assumes nothing.
use native.Mathlib.Omega.{arith}
use borrow.Author.Rules.{rules}
use Rattle.hop_rule.specs.declared.Table.TheVariants.{Lengths}
use Rattle.hop_cells.specs.Cells.{get2}
use Rattle.hop_cells.proofs.Chains.{summed_most, sum_fits_most}
use Rattle.hop_counts.specs.Counts.{waiting_from}
use Rattle.hop_counts.proofs.waiting_from.Goals as goal

pub sum-requires-clause-fits : goal.sum-requires-clause-fits
sum-requires-clause-fits c =
    let a = c.args in
    sum_fits_most _ a.s.n (λ x. get2 a.s.n Lengths a.u x a.s.bytes.now) 255 c.map.ensures.source c.map.ensures.closure (λ x r q k. search rules) _ (omega (arith, a.s.room.most))

pub returns : goal.returns
unfolding waiting_from
returns c =
    let a = c.args in
    let e = summed_most _ a.s.n (λ x. get2 a.s.n Lengths a.u x a.s.bytes.now) 255 c.map.ensures.source c.map.ensures.closure (λ x r q k. search rules) c.sum.ensures.ran in
    (e.0, omega (arith, e.1, a.s.room.most))
