-- `pairs_sound` meets its contract: every neighbour is asked. Assumes nothing.
use borrow.Author.Rules.{rules}
use Rattle.hop_rows.proofs.Every.{every_all}
use Rattle.hop_sound_pairs.specs.Pairs.{pair_sound}
use Rattle.hop_sound_pairs.proofs.pairs_sound.Goals as goal

pub returns : goal.returns
returns c = every_all c.args.s.n (pair_sound c.args.s.n c.args.s.bytes.now c.args.u) _ _ _ c.all.ensures.ran (λ w b q k. search rules)
