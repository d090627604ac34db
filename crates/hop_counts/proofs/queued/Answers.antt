-- `queued` meets its contract: all lengths are added up, in one row. Assumes nothing.
use mathlib.Core.Path.{ap, ◌∙◌}
use Prim.Native.Nat.{ℕ}
use native.Mathlib.Omega.{arith}
use borrow.Author.Rules.{rules}
use Rattle.hop_rule.specs.declared.Table.TheVariants.{Lengths}
use Rattle.hop_rule.specs.Words.{sum}
use Rattle.hop_cells.specs.Cells.{get}
use Rattle.hop_cells.proofs.Chains.{summed_most, sum_fits_most}
use Rattle.hop_counts.proofs.Read.{queued_flat}
use Rattle.hop_counts.proofs.queued.Goals as goal

pub sum-requires-clause-fits : goal.sum-requires-clause-fits
sum-requires-clause-fits c =
    let a = c.args in
    sum_fits_most _ _ (λ (i : ℕ). get a.s.n Lengths i a.s.bytes.now) 255 c.map.ensures.source c.map.ensures.closure (λ x r q k. search rules) _ (omega (arith, c.square.ensures.1))

pub returns : goal.returns
returns c =
    let a = c.args in
    let f = λ (i : ℕ). get a.s.n Lengths i a.s.bytes.now in
    let e = summed_most _ _ f 255 c.map.ensures.source c.map.ensures.closure (λ x r q k. search rules) c.sum.ensures.ran in
    (e.0 ∙ ap (λ k. sum k f) c.square.ensures.0 ∙ queued_flat a.s.n a.s.bytes.now, omega (arith, e.1, c.square.ensures.1))
