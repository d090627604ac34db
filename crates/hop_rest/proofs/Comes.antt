-- Coming to rest: the chapters put together, from every sound state. Assumes nothing.
use mathlib.Core.Path.{subst}
use Prim.Native.Nat.{ℕ, ◌*◌, ◌-◌, ◌≤◌}
use native.Mathlib.Omega.{arith}
use Rattle.hop_rule.specs.Rule.{waiting_for, made}
use Rattle.hop_rest.specs.Orders.{deliveries}
use Rattle.hop_rest.specs.Rest.{EverySoundStateRests}
use Rattle.hop_laws.proofs.Ceiling.{waiting_for_most}
use Rattle.hop_rest.proofs.Right.{over_self}
use Rattle.hop_rest.proofs.Runs.{deliveries_over}
use Rattle.hop_rest.proofs.Downstreams.{rest_settled}
use Rattle.hop_rest.proofs.Ascending.{ascending_pass, ascending_deliveries}
use Rattle.hop_rest.proofs.Settling.{passes_settle, rest_total, over_total, passes_over}
use Rattle.hop_rest.proofs.Run.{made_most, made_rest, delivered_most}

-- n³(n − 1) is n times n²(n − 1).
cubed : {d : ℕ} (n m : ℕ) → d ≤ n * (n * n * m) → d ≤ n * n * n * m
cubed n m l = omega arith

pub comes_to_rest : EverySoundStateRests
comes_to_rest s o = record {
  rests = λ ps h l. (passes_settle s o ps h).rest l;
  settles = λ agree ps h l. let e = passes_settle s o ps h in rest_settled s _ e.over (e.rest l) agree;
  deliveries_most = λ ps h. cubed s.n (s.n - 1) (passes_settle s o ps h).few;
  waiting_most = λ qs l. over_total (deliveries_over s s qs (over_self o) l);
  waiting_for_most = λ qs l u lu.
      let h = deliveries_over s s qs (over_self o) l in
      subst (λ (m : ℕ). waiting_for (deliveries s qs) u ≤ m * (m - 1)) h.nodes (waiting_for_most _ h.sound u (omega arith));
  pass_ascends = (ascending_pass s, ascending_deliveries s);
  made_most = made_most s o;
  delivered_most = λ k. cubed s.n (s.n - 1) (delivered_most s o k);
  run_rests = λ k l. rest_total _ (made_rest s o k l);
  run_settles = λ agree k l. rest_settled s _ (passes_over s o (made s k) (made_most s o k)) (made_rest s o k l) agree;
}
