-- R-4's answer: on an accepted buffer the call reads both numbers of the state, and in a sound state distance and downstream are what recompute gives from the same views; at rest it has settled. Assumes nothing.
use mathlib.Core.Path.{◌≡◌, refl, sym, subst, ◌∙◌}
use mathlib.Core.Logic.{◌↔◌, ◌≢◌}
use mathlib.Core.List.{List, []}
use Prim.Native.Nat.{ℕ, ◌≤◌, ◌<◌}
use native.Mathlib.Decide.{ℕ_discrete, dec_lt}
use native.Mathlib.Omega.{arith}
use Rattle.hop_rule.specs.State.{State}
use Rattle.hop_rule.specs.Route as question
use Rattle.hop_rule.specs.Sound.{Sound}
use Rattle.hop_rule.specs.Stored.{nodes, read_as, read}
use Rattle.hop_rule.specs.Calls.{route}
use Rattle.hop_laws.specs.Fine.{Fine}
use Rattle.hop_laws.specs.Current.{Current}
use Rattle.hop_laws.proofs.Rule.{distance_of_own, distance_of_most, sound_current, current_own, current_none, current_gives}
use Rattle.hop_laws.proofs.Calls.{outcome_refused, outcome_number}
use Rattle.hop_laws.proofs.Accepted.{accepted_fine, fine_total, fine_route}
use Rattle.hop_rest.specs.Route.{Onward, RouteTells, EveryRouteTells, RestingRoutesRight, RefusedRouteIs0}
use Rattle.hop_rest.proofs.Right.{over_self}
use Rattle.hop_rest.proofs.Downstreams.{rest_settled}
use Rattle.hop_rest.proofs.Settling.{total_rest}

-- ---- what a sound state has for a destination

module _ (s : State) (o : Sound s) (few : s.n ≤ 40) (u v : ℕ) (lu : u < s.n) (lv : v < s.n) where
  current : Current s u v
  current = sound_current o u v lu lv

  own : u ≡ v → question.route s u v ≡ record { distance = 0; downstream = u }
  own e = rw (current.distance ∙ distance_of_own s u v e, current_own current e)

  most : s.distance u v ≤ s.n
  most = omega (arith, current.distance, distance_of_most s u v)

  next : u ≢ v → s.distance u v < s.n → Onward s u v (s.downstream u v)
  next f l =
      let g = current_gives current f l in
      record { below = g.below; other = λ e. omega (arith, subst (λ x. s.link u x ≡ 1) e g.linked, o.diagonal u lu); linked = g.linked; said = g.gives }

  lowest : u ≢ v → s.distance u v < s.n → (x : ℕ) → Onward s u v x → s.downstream u v ≤ x
  lowest f l x h = (current_gives current f l).lowest x h.below h.linked h.said

  some : u ≢ v → 0 < s.distance u v
  some f = elim (dec_lt (s.distance u v) s.n) [ yes l ↦ omega (arith, (next f l).said) | no k ↦ omega arith ]

  none : (s.distance u v ≡ s.n) ↔ (s.downstream u v ≡ 255)
  none = (so (ℕ_discrete u v), only (ℕ_discrete u v))
    where
      so : Dec (u ≡ v) → s.distance u v ≡ s.n → s.downstream u v ≡ 255
      so (yes e) h = absurd (omega (arith, current.distance, distance_of_own s u v e))
      so (no f) h = current_none current f h

      only : Dec (u ≡ v) → s.downstream u v ≡ 255 → s.distance u v ≡ s.n
      only (yes e) h = absurd (omega (arith, current_own current e))
      only (no f) h = elim (dec_lt (s.distance u v) s.n) [ yes l ↦ absurd (omega (arith, (next f l).below)) | no k ↦ omega (arith, most) ]

-- ---- the call

module _ (s : List ℕ) (fine : Fine s) (u v : ℕ) (lu : u < nodes s) (lv : v < nodes s) where
  tells : RouteTells s u v
  unfolding read_as
  tells =
      let reads = fine_route s fine u v lu lv in
      let sound = fine.sound.state in
      record {
        done = rw reads refl;
        both = rw reads refl;
        own = λ e. rw reads (own (read s) sound fine.most u v lu lv e);
        some = λ f. rw reads (some (read s) sound fine.most u v lu lv f);
        most = rw reads (most (read s) sound fine.most u v lu lv);
        none = rw reads (none (read s) sound fine.most u v lu lv);
        next = rw reads (next (read s) sound fine.most u v lu lv);
        lowest = rw reads (lowest (read s) sound fine.most u v lu lv);
      }

pub route_tells : EveryRouteTells
route_tells s accepted u v lu lv = tells s (accepted_fine s accepted) u v lu lv

pub resting_routes_right : RestingRoutesRight
unfolding read_as
resting_routes_right s accepted none agree =
    let fine = accepted_fine s accepted in
    let h = rest_settled (read s) (read s) (over_self fine.sound.state) (total_rest (read s) (sym (fine_total s fine) ∙ none)) agree in
    record {
      rested = record { accepted = accepted; same_nodes = refl; nothing_queued = none };
      distances = λ u v lu lv. rw (fine_route s fine u v lu lv) (h.distances u v lu lv);
      own = λ u lu. rw (fine_route s fine u u lu lu) (h.own u lu);
      none = λ u v lu lv p. rw (fine_route s fine u v lu lv) (h.none u v lu lv p);
      next = λ u v d lu lv l p. rw (fine_route s fine u v lu lv) (h.next u v d lu lv l p);
    }

pub refused_route_is_0 : RefusedRouteIs0
refused_route_is_0 s u v f = rw (outcome_refused (route u v) s [] (λ z. f (outcome_number (route u v) s [] ∙ z))) refl
