-- `show_path` meets its contract: the path is handed over, or refused where the list has no more places than there are hops. Assumes nothing.
use native.Mathlib.Omega.{arith}
use Rattle.hop_rule.specs.Stored.{read_as}
use Rattle.hop_rule.specs.Why.{along, path, shown}
use Rattle.hop_laws.proofs.Why.{length_along}
use Rattle.hop_why.proofs.Called.{handed_short, path_handed}
use Rattle.hop_why.proofs.show_path.Goals as goal

pub returns-then-list-hops : goal.returns-then-list-hops
unfolding shown
returns-then-list-hops c =
    let x = c.args in
    let t = read_as x.s.n x.s.bytes.now in
    handed_short (path (along t x.u x.v x.hops)) x.list.now (omega (arith, c.if-list-hops.true, length_along t x.u x.v x.hops))

pub returns : goal.returns
returns c =
    let x = c.args in
    let t = read_as x.s.n x.s.bytes.now in
    let long = length_along t x.u x.v x.hops in
    path_handed (along t x.u x.v x.hops) x.list.now (omega (arith, c.if-list-hops.false, long)) (omega (arith, long)) c.path.ensures
