-- `path` meets its contract. The path stays below n, the hop count falls, and the list has room for the rest. Assumes nothing.
use mathlib.Core.Path.{◌∙◌}
use Prim.Native.Nat.{◌<◌}
use native.Mathlib.Omega.{arith}
use lib.ListN.{length-set}
use Rattle.hop_rule.specs.Stored.{read_as}
use Rattle.hop_why.proofs.Paths.{here_below, next_inside}
use Rattle.hop_why.proofs.+path.Goals as goal

pub overflow_cast-list : goal.overflow_cast-list
unfolding read_as
overflow_cast-list t c =
    let x = c.args in
    let (lv, fits, inside) = c.requires in
    record { fits = omega (arith, here_below (read_as x.s.now.n x.s.now.bytes.now) x.u x.v x.hops inside, x.s.now.room.most) }

pub route-requires : goal.route-requires
unfolding read_as
route-requires t c =
    let x = c.args in
    let (lv, fits, inside) = c.requires in
    let lu = here_below (read_as x.s.now.n x.s.now.bytes.now) x.u x.v x.hops inside in
    (omega (arith, lu, lv), omega (arith, lu, lv))

pub path-requires : goal.path-requires
path-requires t c =
    let x = c.args in
    let (lv, fits, inside) = c.requires in
    let more : 0 < x.hops = omega arith in
    let next = (c.from-next.ensures ∙ c.route.ensures.downstream) in (
      omega (arith, c.decreases, more),
      (lv, omega (arith, length-set x.list.now x.at x.u, fits, more), rw next (next_inside (read_as x.s.now.n x.s.now.bytes.now) x.u x.v x.hops more inside)),
    )
