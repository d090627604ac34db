-- `pass` meets its contract: what is noted is what the queues held at the start. Assumes nothing.
use mathlib.Core.Path.{◌∙◌}
use Rattle.hop_runs.proofs.Places.{is_pass}
use Rattle.hop_runs.proofs.pass.Goals as goal

pub returns : goal.returns
returns c =
    c.pass_noted.ensures ∙ is_pass _ c.note.new.noted _ c.note.ensures.2
