-- `is_sound` meets its contract: every node is asked, and that is 01's sound. Assumes nothing.
use mathlib.Core.Path.{◌∙◌}
use borrow.Author.Rules.{rules}
use Rattle.hop_rows.proofs.Every.{every_all}
use Rattle.hop_sound.specs.Check.{node_sound}
use Rattle.hop_sound.proofs.Sound.{sound_known}
use Rattle.hop_sound.proofs.is_sound.Goals as goal

pub returns : goal.returns
returns c = every_all c.args.s.n (node_sound c.args.s.n c.args.s.bytes.now) _ _ _ c.all.ensures.ran (λ u b q k. search rules) ∙ sound_known _ _
