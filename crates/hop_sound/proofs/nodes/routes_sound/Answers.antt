-- `nodes::routes_sound` meets its contract: every destination is asked. Assumes nothing.
use borrow.Author.Rules.{rules}
use Rattle.hop_rows.proofs.Every.{every_all}
use Rattle.hop_sound.specs.Check.{route_sound}
use Rattle.hop_sound.proofs.nodes.routes_sound.Goals as goal

pub returns : goal.returns
returns c = every_all c.args.s.n (route_sound c.args.s.n c.args.s.bytes.now c.args.u) _ _ _ c.all.ensures.ran (λ v b q k. search rules)
