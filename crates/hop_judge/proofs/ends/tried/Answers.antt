-- `ends::tried` meets its contract: the pairs of each node are added up, at most 40 each. Assumes nothing.
use Prim.Native.Nat.{ℕ, ◌≤◌}
use native.Mathlib.Nat.{le_trans}
use native.Mathlib.Omega.{arith}
use borrow.Author.Rules.{rules}
use Rattle.hop_rule.specs.Words.{sum}
use Rattle.hop_rule.specs.State.{State}
use Rattle.hop_rule.specs.Stored.{read_as}
use Rattle.hop_rule.specs.Worth as worth
use Rattle.hop_laws.specs.Lines.{tried_of}
use Rattle.hop_laws.proofs.Words.{sum_most}
use Rattle.hop_cells.proofs.Chains.{summed, sum_fits, passing_most}
use Rattle.hop_judge.proofs.ends.tried.Goals as goal

most : (t : State) (n : ℕ) → n ≤ 40 → sum n (λ a. tried_of t a n) ≤ 1600
most t n few = le_trans (sum_most n 40 _ (λ a l. le_trans (passing_most n (worth.tried t a)) few)) (omega (arith, few))

pub sum-requires-clause-fits : goal.sum-requires-clause-fits
sum-requires-clause-fits c =
    let a = c.args in
    sum_fits _ a.s.n (λ b. tried_of (read_as a.s.n a.s.bytes.now) b a.s.n) c.map.ensures.source c.map.ensures.closure (λ x r q k. search rules) _
    (omega (arith, most (read_as a.s.n a.s.bytes.now) a.s.n c.args.s.room.most))

pub returns : goal.returns
unfolding read_as
returns c =
    let a = c.args in
    let e = summed _ a.s.n (λ b. tried_of (read_as a.s.n a.s.bytes.now) b a.s.n) c.map.ensures.source c.map.ensures.closure (λ x r q k. search rules) c.sum.ensures.ran in
    (e, omega (arith, e, most (read_as a.s.n a.s.bytes.now) a.s.n c.args.s.room.most))
