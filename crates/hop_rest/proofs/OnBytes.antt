-- Coming to rest on bytes: a state that has settled is stored, and the calls read it back; a run leaves such a state. Assumes nothing.
use mathlib.Core.Path.{◌≡◌, sym, ap, subst, ◌∙◌}
use mathlib.Core.List.{List, []}
use Prim.Native.Nat.{ℕ, ◌≤◌, ◌<◌}
use native.Mathlib.Omega.{arith}
use lib.ListN.{drop}
use Rattle.hop_rule.specs.State.{State}
use Rattle.hop_rule.specs.Rule.{passes, made}
use Rattle.hop_rule.specs.Stored.{size, nodes, read_as, read}
use Rattle.hop_rule.specs.Sound.{Sound}
use Rattle.hop_rule.specs.Route.{Way, route}
use Rattle.hop_rule.specs.Calls.{check, run, refusals, answer_at, restored, done, outcome}
use Rattle.hop_laws.specs.Same.{Same}
use Rattle.hop_laws.specs.Fine.{Fine}
use Rattle.hop_laws.proofs.Stored.{nodes_stored}
use Rattle.hop_laws.proofs.Read.{read_stored}
use Rattle.hop_laws.proofs.Calls.{outcome_done}
use Rattle.hop_laws.proofs.Accepted.{accepted_fine, fine_accepts, fine_accepted, fine_total, fine_route, stored_fine}
use Rattle.hop_rest.specs.Walks.{HopCount, Nearer}
use Rattle.hop_rest.specs.Rest.{AtRest, Settled}
use Rattle.hop_rest.specs.OnBytes.{asked_route, RestedBytes, SettledBytes, RunSettles}
use Rattle.hop_rest.specs.Delivered.{Over}
use Rattle.hop_rest.proofs.Settling.{rest_total, total_rest, passes_over}
use Rattle.hop_rest.proofs.Run.{made_most}
use Rattle.hop_rest.proofs.Comes.{comes_to_rest}

-- ---- a state over the links of a buffer, stored there

module _ (s : List ℕ) (f : Fine s) (t : State) (o : Over (read s) t) where
  over_nodes : t.n ≡ nodes s
  unfolding read_as
  over_nodes = o.nodes

  pub over_head : nodes (restored t s) ≡ nodes s
  over_head = nodes_stored t (drop (size t.n) s) ∙ over_nodes

  pub over_read : Same (read (restored t s)) t
  over_read = read_stored o.sound (drop (size t.n) s)

  pub over_fine : Fine (restored t s)
  over_fine = stored_fine t o.sound (drop (size t.n) s) (omega (arith, over_nodes, f.least)) (omega (arith, over_nodes, f.most))

  -- What is asked for there is the state's own.
  asked_there : (u v : ℕ) → u < nodes s → v < nodes s → asked_route u v (restored t s) ≡ route t u v
  unfolding read_as
  asked_there u v lu lv =
      let (iu, iv) : (u < nodes (restored t s)) × (v < nodes (restored t s)) = (rw over_head lu, rw over_head lv) in
      rw (fine_route _ over_fine u v iu iv, over_read.distance u v iu iv, over_read.downstream u v iu iv)

  -- So a state at rest is a buffer at rest, and one that has settled a buffer that has.
  pub rested_bytes : AtRest t → RestedBytes s (restored t s)
  unfolding read_as
  rested_bytes h = record {
    accepted = fine_accepted _ over_fine;
    same_nodes = over_head;
    nothing_queued = fine_total _ over_fine ∙ rest_total _ (λ w u lw lu. over_read.queue w u lw lu ∙ h w u (omega (arith, over_head, over_nodes)) (omega (arith, over_head, over_nodes)));
  }

  pub settled_bytes : Settled (read s) t → SettledBytes s (restored t s)
  unfolding read_as
  settled_bytes h = record {
    rested = rested_bytes h.empty;
    distances = λ u v lu lv. subst (HopCount (read s) u v) (sym (ap (λ (w : Way). w.distance) (asked_there u v lu lv))) (h.distances u v lu lv);
    own = λ u lu. ap (λ (w : Way). w.downstream) (asked_there u u lu lu) ∙ h.own u lu;
    none = λ u v lu lv p. ap (λ (w : Way). w.downstream) (asked_there u v lu lv) ∙ h.none u v lu lv p;
    next = λ u v d lu lv ld p. subst (Nearer (read s) u v d) (sym (ap (λ (w : Way). w.downstream) (asked_there u v lu lv))) (h.next u v d lu lv ld p);
  }

-- ---- the run

module _ (s : List ℕ) (accepted : (outcome check s []).number ≡ 0) (k : ℕ) (enough : nodes s ≤ k) where
  fine : Fine s
  fine = accepted_fine s accepted

  sound : Sound (read s)
  sound = fine.sound.state

  ran : outcome (run k) s [] ≡ done (run k) s []
  unfolding refusals
  ran = outcome_done (run k) s [] (fine_accepts s fine)

  pub run_settles : RunSettles s k
  unfolding done read_as
  run_settles =
      let rests = comes_to_rest (read s) sound in
      let left = passes (read s) (made (read s) k) in
      let over = passes_over (read s) sound (made (read s) k) (made_most (read s) sound k) in
      record {
        done = ap (λ o. o.number) ran;
        passes_most = rw (ap (answer_at 0) ran) (rests.made_most k);
        deliveries_most = rw (ap (answer_at 1) ran) (rests.delivered_most k);
        rested = rw (ap (λ o. o.bytes) ran) (rested_bytes s fine left over (total_rest left (rests.run_rests k enough)));
        settled = λ agree. rw (ap (λ o. o.bytes) ran) (settled_bytes s fine left over (rests.run_settles agree k enough));
      }
