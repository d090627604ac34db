-- `waits_at` meets its contract: v waits at place v, or nowhere, or the places are searched. Assumes nothing.
use mathlib.Core.Path.{sym, ◌∙◌}
use native.Mathlib.Omega.{arith}
use Rattle.hop_queues.proofs.Waiting.{searched, found_nowhere}
use Rattle.hop_queues.proofs.waits_at.Goals as goal
use Rattle.hop_queues.proofs.waits_at.Goals.{then-v-m+else-get3-v, else-v-m}

pub returns-then-waits_nowhere : goal.returns-then-waits_nowhere
returns-then-waits_nowhere c =
    let at = c.args in
    searched at.s.n at.s.bytes.now at.w at.u at.v at.m (λ l e. elim c.if-v-m.branch [ then-v-m+else-get3-v w ↦ w.if-get3-v.false (w.get3.ensures.0 ∙ e) | else-v-m w ↦ absurd (omega (arith, w.if-v-m.false)) ]) ∙ found_nowhere _ _ _ _ _ _ (sym c.waits_nowhere.ensures ∙ c.if-waits_nowhere.true)

pub returns : goal.returns
returns c =
    let at = c.args in
    rw (searched at.s.n at.s.bytes.now at.w at.u at.v at.m (λ l e. elim c.if-v-m.branch [ then-v-m+else-get3-v w ↦ w.if-get3-v.false (w.get3.ensures.0 ∙ e) | else-v-m w ↦ absurd (omega (arith, w.if-v-m.false)) ])) c.first_at.ensures
