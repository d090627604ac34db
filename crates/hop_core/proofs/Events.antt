-- Each event's call, where it goes on: the bytes that its step leaves are those of the call's outcome, by the bridge. Assumes nothing.
use Rattle.std.specs.Prelude.{Result, Ok, Err}
use mathlib.Core.Path.{◌≡◌, ap, ◌∙◌}
use mathlib.Core.List.{List, []}
use Prim.Native.Nat.{ℕ}
use Rattle.hop_rule.specs.declared.Refused.{Refused}
use Rattle.hop_rule.specs.Stored.{nodes}
use Rattle.hop_rule.specs.Calls.{Call, make, up, down, notice, deliver, pass, run, judge, refusals, on_state, done, outcome}
use Rattle.hop_laws.specs.Fine.{Fine}
use Rattle.hop_steps.specs.Steps as step
use Rattle.hop_counts.specs.Counts as counts
use Rattle.hop_runs.specs.declared.Ran.{Ran}
use Rattle.hop_runs.specs.Runs as runs
use Rattle.hop_bridge.proofs.Top.{make_stored, deliver_stored, link_up_stored, link_down_stored, notice_stored, pass_stored, queued_read, run_stored, ran_read}
use Rattle.hop_judge.specs.Verdict.{Judges}
use Rattle.hop_judge.proofs.Judging.{gone, call_refused, call_done}
use Rattle.hop_judge.proofs.Known.{room_made, claim_known, fine_known, ends_known}
use Rattle.hop_core.specs.Answers.{told, passed, ran}

pub make_done : (s : List ℕ) (n : ℕ) {j : Result ℕ Refused} → Judges (judge (refusals (make n) s [])) n j → {m : ℕ} → j ≡ Ok m → {t : List ℕ} → t ≡ step.make n s → told (Ok tt) t ≡ outcome (make n) s []
unfolding done
make_done s n e g h = let room = room_made s n e g in ap (told (Ok tt)) (h ∙ make_stored n s room.most room.fits) ∙ call_done (make n) s [] n e g

-- ---- the events between two nodes

module _ (s : List ℕ) (a b : ℕ) {j : Result ℕ Refused} {n : ℕ} (g : j ≡ Ok n) {t : List ℕ} where
  -- Common to the four: where the step leaves what the call does, the number is 0.
  step_done : (k : Call) (next : ℕ → List ℕ) → Judges (judge (refusals k s [])) (nodes s) j → told (Ok tt) (next (nodes s)) ≡ done k s [] → t ≡ next n → told (Ok tt) t ≡ outcome k s []
  step_done k next e left h = ap (told (Ok tt)) (h ∙ ap next (gone _ _ e g).1) ∙ left ∙ call_done k s [] (nodes s) e g

  pub up_done : Judges (judge (refusals (up a b) s [])) (nodes s) j → t ≡ step.link_up n a b s → told (Ok tt) t ≡ outcome (up a b) s []
  unfolding refusals done
  up_done e =
      let (fine, la, lb) = ends_known s a b _ e g in
      step_done (up a b) (λ m. step.link_up m a b s) e (ap (told (Ok tt)) (link_up_stored s fine a b la lb))

  pub down_done : Judges (judge (refusals (down a b) s [])) (nodes s) j → t ≡ step.link_down n a b s → told (Ok tt) t ≡ outcome (down a b) s []
  unfolding refusals done
  down_done e =
      let (fine, la, lb) = ends_known s a b _ e g in
      step_done (down a b) (λ m. step.link_down m a b s) e (ap (told (Ok tt)) (link_down_stored s fine a b la lb))

  pub notice_done : Judges (judge (refusals (notice a b) s [])) (nodes s) j → t ≡ step.notice n a b s → told (Ok tt) t ≡ outcome (notice a b) s []
  unfolding refusals done
  notice_done e =
      let (fine, la, lb) = ends_known s a b _ e g in
      step_done (notice a b) (λ m. step.notice m a b s) e (ap (told (Ok tt)) (notice_stored s fine a b la lb))

  pub deliver_done : Judges (judge (refusals (deliver a b) s [])) (nodes s) j → t ≡ step.deliver n a b s → told (Ok tt) t ≡ outcome (deliver a b) s []
  unfolding refusals done
  deliver_done e =
      let (fine, la, lb) = ends_known s a b _ e g in
      step_done (deliver a b) (λ m. step.deliver m a b s) e (ap (told (Ok tt)) (deliver_stored s fine a b la lb))

-- ---- pass and run

-- A pass that is refused answers the refusal's number, and nothing else.
pub pass_refused : (s : List ℕ) {j : Result ℕ Refused} → Judges (judge (on_state s [])) (nodes s) j → {r : Refused} → j ≡ Err r → passed (Err r) s ≡ outcome pass s []
unfolding refusals
pass_refused s e f = call_refused pass s [] (nodes s) e f

module _ (s : List ℕ) {j : Result ℕ Refused} (e : Judges (judge (on_state s [])) (nodes s) j) {n : ℕ} (g : j ≡ Ok n) where
  claim : n ≡ nodes s
  claim = claim_known s [] e g

  fine : Fine s
  fine = fine_known s [] e g

  pub pass_done : {d : ℕ} {t : List ℕ} → d ≡ counts.queued n s → t ≡ runs.pass n s → passed (Ok d) t ≡ outcome pass s []
  unfolding refusals done
  pass_done q h =
      let waited = q ∙ ap (λ m. counts.queued m s) claim ∙ queued_read s fine in
      let left = h ∙ ap (λ m. runs.pass m s) claim ∙ pass_stored s fine in
      rw (waited, left) (call_done pass s [] _ e g)

  pub run_done : (k : ℕ) {r : Ran} {t : List ℕ} → r ≡ runs.ran n k s → t ≡ runs.run n k s → ran (Ok r) t ≡ outcome (run k) s []
  unfolding refusals done
  run_done k q h =
      let did = q ∙ ap (λ m. runs.ran m k s) claim ∙ ran_read s fine k in
      let left = h ∙ ap (λ m. runs.run m k s) claim ∙ run_stored s fine k in
      rw (did, left) (call_done (run k) s [] _ e g)
