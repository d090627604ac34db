-- `nodes::pasts_sound` meets its contract: every receiver is asked. Assumes nothing.
use borrow.Author.Rules.{rules}
use Rattle.hop_rows.proofs.Every.{every_all}
use Rattle.hop_sound.specs.Check.{past_sound}
use Rattle.hop_sound.proofs.nodes.pasts_sound.Goals as goal

pub returns : goal.returns
returns c = every_all c.args.s.n (past_sound c.args.s.n c.args.s.bytes.now c.args.w) _ _ _ c.all.ensures.ran (λ u b q k. search rules)
