-- `pass` meets its contract: it is refused by its number, or what waited is delivered and the pass's bytes are the outcome's. Assumes nothing.
use borrow.Author.Rules.{rules}
use Rattle.hop_core.proofs.Events.{pass_done}
use Rattle.hop_core.proofs.pass.Goals as goal

pub returns : goal.returns
returns c =
    pass_done _ c.judge_state.ensures (search rules) c.queued-delivered.ensures.0 c.pass.ensures
