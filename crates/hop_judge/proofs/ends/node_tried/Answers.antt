-- `ends::node_tried` meets its contract: those that are tried are counted. Assumes nothing.
use native.Mathlib.Omega.{arith}
use borrow.Author.Rules.{rules}
use Rattle.hop_rule.specs.Stored.{read_as}
use Rattle.hop_rule.specs.Worth.{tried}
use Rattle.hop_cells.proofs.Chains.{counted, passing_most}
use Rattle.hop_judge.proofs.ends.node_tried.Goals as goal

pub returns : goal.returns
returns c =
    let a = c.args in
    let e = counted _ a.s.n (tried (read_as a.s.n a.s.bytes.now) a.a) c.filter.ensures.source c.filter.ensures.closure (λ x b q k. search rules) c.count.ensures.ran in
    (e, omega (arith, e, passing_most a.s.n (tried (read_as a.s.n a.s.bytes.now) a.a)))
