-- The downstreams of a sound state at rest over links whose two ends agree, once its distances are known to be hop counts: so it has settled. Assumes nothing.
use mathlib.Core.Path.{◌≡◌, refl, sym, ap, subst, ◌∙◌}
use mathlib.Core.Logic.{◌≢◌}
use Prim.Native.Nat.{ℕ, suc, ◌<◌}
use native.Mathlib.Omega.{arith}
use Rattle.hop_rule.specs.State.{State}
use Rattle.hop_rule.specs.Sound.{Sends}
use Rattle.hop_rule.specs.Notice.{EndsAgree}
use Rattle.hop_laws.specs.Current.{Current}
use Rattle.hop_laws.proofs.Rule.{Gives, sound_current, current_own, current_none, current_gives}
use Rattle.hop_rest.specs.Walks.{Walk, here, HopCount, joined, apart, Nearer}
use Rattle.hop_rest.specs.Rest.{AtRest, Settled}
use Rattle.hop_rest.specs.Delivered.{Over}
use Rattle.hop_rest.proofs.Walks.{hop_count_same}
use Rattle.hop_rest.proofs.Right.{distance_own}
use Rattle.hop_rest.proofs.Rest.{rest_view, rest_hop_count}

module _ (g s : State) (o : Over g s) (rest : AtRest s) (agree : EndsAgree g) where
  current : (u v : ℕ) → u < g.n → v < g.n → Current s u v
  current u v lu lv = sound_current o.sound u v (omega arith) (omega arith)

  downstream_none : (u v : ℕ) → u < g.n → v < g.n → ((d : ℕ) → Walk g u v d → ⊥) → s.downstream u v ≡ 255
  downstream_none u v lu lv f = go (rest_hop_count g s o rest agree u v lu lv)
    where
      go : HopCount g u v (s.distance u v) → s.downstream u v ≡ 255
      go (joined l p h) = absurd (f (s.distance u v) p)
      go (apart e h) = current_none (current u v lu lv) (λ i. f 0 (subst (λ (x : ℕ). Walk g u x 0) i here)) (e ∙ sym o.nodes)

  downstream_next : (u v d : ℕ) → u < g.n → v < g.n → suc d < g.n → HopCount g u v (suc d) → Nearer g u v d (s.downstream u v)
  downstream_next u v d lu lv l h = record {
    below = below;
    linked = linked;
    nearer = subst (HopCount g x v) near (rest_hop_count g s o rest agree x v below lv);
    lowest = λ w lw q k.
        let e : s.distance w v ≡ d = hop_count_same (rest_hop_count g s o rest agree w v lw lv) k in
        c.lowest w (omega arith) (o.links u w lu lw ∙ q.0) (ap suc (rest_view g s o rest u w v lu lw lv (q.1, q.0) ∙ e) ∙ sym far);
  }
    where
      far : s.distance u v ≡ suc d
      far = hop_count_same (rest_hop_count g s o rest agree u v lu lv) h

      away : u ≢ v
      away e = omega (arith, far, distance_own g s o u v lu lv e)

      x : ℕ
      x = s.downstream u v

      c : Gives s u v (s.distance u v) x
      c = current_gives (current u v lu lv) away (omega (arith, far))

      below : x < g.n
      below = omega (arith, c.below)

      linked : Sends g u x
      linked = let e : g.link u x ≡ 1 = sym (o.links u x lu below) ∙ c.linked in (e, agree x u below lu ∙ e)

      near : s.distance x v ≡ d
      near = omega (arith, rest_view g s o rest u x v lu below lv (linked.1, linked.0), c.gives, far)

  pub rest_settled : Settled g s
  rest_settled = record {
    nodes = o.nodes;
    empty = rest;
    distances = rest_hop_count g s o rest agree;
    own = λ u lu. current_own (current u u lu lu) refl;
    none = downstream_none;
    next = downstream_next;
  }
