-- `nodes::views_sound` meets its contract: u's rows are one run of bytes. Assumes nothing.
use mathlib.Core.Path.{◌∙◌}
use Rattle.hop_rows.proofs.Slices.{below_here}
use Rattle.hop_sound.specs.Check.{views_sound}
use Rattle.hop_sound.proofs.nodes.views_sound.Goals as goal

pub returns : goal.returns
unfolding views_sound
returns c = c.all_below.ensures ∙ below_here c.block.ensures _
