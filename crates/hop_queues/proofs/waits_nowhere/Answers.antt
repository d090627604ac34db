-- `waits_nowhere` meets its contract: the first m bytes of the row are looked through. Assumes nothing.
use mathlib.Core.Path.{ap, ◌∙◌}
use mathlib.Core.Bool.{not}
use Rattle.hop_rows.proofs.Parts.{row_front}
use Rattle.hop_rows.proofs.Slices.{none_here}
use Rattle.hop_queues.proofs.waits_nowhere.Goals as goal

pub returns : goal.returns
returns c = ap not c.contains.ensures.value ∙ none_here (row_front c.row3.ensures c.requires.3) c.args.v
