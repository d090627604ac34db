-- `reached` meets its contract: those that are reached are counted. Assumes nothing.
use mathlib.Core.Bool.{not, ◌&&◌}
use Prim.Native.Nat.{ℕ}
use native.Mathlib.Omega.{arith}
use lib.Dec.{eqb, ltb}
use borrow.Author.Rules.{rules}
use Rattle.hop_rule.specs.declared.Table.TheVariants.{Distances}
use Rattle.hop_cells.specs.Cells.{get2}
use Rattle.hop_cells.proofs.Chains.{counted, passing_most}
use Rattle.hop_counts.specs.Counts.{reached}
use Rattle.hop_counts.proofs.reached.Goals as goal

pub returns : goal.returns
unfolding reached
returns c =
    let a = c.args in
    let passes = λ (v : ℕ). not (eqb v a.u) && ltb (get2 a.s.n Distances a.u v a.s.bytes.now) a.s.n in
    let e = counted _ a.s.n passes c.filter.ensures.source c.filter.ensures.closure (λ x b q k. search rules) c.count.ensures.ran in
    (e, omega (arith, e, passing_most a.s.n passes))
