-- `show_set` meets its contract: the set is handed over, or refused where the list is shorter than it. Assumes nothing.
use mathlib.Core.Path.{ap, ◌∙◌}
use native.Mathlib.Omega.{arith}
use lib.Seq.{sets}
use Rattle.hop_rule.specs.Stored.{read_as}
use Rattle.hop_rule.specs.Why.{joined_to, set, shown}
use Rattle.hop_laws.proofs.Why.{length_joined_to}
use Rattle.hop_why.proofs.Called.{handed_short, set_handed}
use Rattle.hop_why.proofs.show_set.Goals as goal

pub returns-then-list-joined : goal.returns-then-list-joined
unfolding shown
returns-then-list-joined c =
    let x = c.args in
    handed_short (set (joined_to (read_as x.s.n x.s.bytes.now) x.u)) x.list.now (omega (arith, c.if-list-joined.true, c.joined_to-joined.ensures.1))

pub overflow_cast-result : goal.overflow_cast-result
unfolding read_as
overflow_cast-result c =
    let x = c.args in
    let most = length_joined_to (read_as x.s.n x.s.bytes.now) x.u in
    record { fits = omega (arith, c.args.s.room.most, most, c.joined_to-joined.ensures.1) }

pub returns : goal.returns
returns c =
    let x = c.args in
    let joined = c.joined_to-joined.ensures in
    let l = joined_to (read_as x.s.n x.s.bytes.now) x.u in
    set_handed l x.list.now (omega (arith, c.if-list-joined.false, joined.1)) joined.1 (c.put_set.ensures ∙ ap (sets x.list.now 0) joined.0)
