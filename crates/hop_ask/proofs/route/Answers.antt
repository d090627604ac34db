-- `route` meets its contract: it is refused by its number, or answers the two bytes that it reads. Assumes nothing.
use borrow.Author.Rules.{rules}
use Rattle.hop_rule.specs.Calls.{refusals}
use Rattle.hop_ask.proofs.Asked.{route_asked}
use Rattle.hop_ask.proofs.route.Goals as goal

pub returns : goal.returns
unfolding refusals
returns c =
    route_asked _ _ _ c.judge_pair.ensures (search rules) c.route-way.ensures
