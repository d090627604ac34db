-- `queued` meets its contract: a refused answer is 0, as every refusal gives 0. Assumes nothing.
use mathlib.Core.Path.{◌∙◌}
use Rattle.hop_replay.proofs.Applied.{total_is}
use Rattle.hop_replay.proofs.queued.Goals as goal

pub returns : goal.returns
returns c = c.unwrap_or.ensures ∙ total_is c.args.state.now _ c.total_queued.ensures
