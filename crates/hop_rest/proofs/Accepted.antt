-- What a call leaves of an accepted buffer is accepted: refused, or asked, it is as it was; changed, a sound state of 1 to 40 nodes is stored there. Assumes nothing.
use mathlib.Core.Path.{◌≡◌, refl, sym, ◌∙◌}
use mathlib.Core.List.{List}
use Prim.Native.Nat.{ℕ}
use native.Mathlib.Decide.{ℕ_discrete}
use native.Mathlib.Omega.{arith}
use Rattle.hop_rule.specs.State.{State}
use Rattle.hop_rule.specs.Rule.{fresh, link_up, made}
use Rattle.hop_rule.specs.Stored.{nodes, read_as, read}
use Rattle.hop_rule.specs.Sound.{Sound}
use Rattle.hop_rule.specs.Calls.{Call, make, check, up, down, notice, deliver, pass, run, route, queue_length, total_queued, status, write_event, bad_count, judge, refusals, restored, done, outcome}
use Rattle.hop_laws.specs.Fine.{Fine}
use Rattle.hop_laws.proofs.Fresh.{fresh_sound}
use Rattle.hop_laws.proofs.Calls.{judge_none, good_count, outcome_done, outcome_refused, outcome_number}
use Rattle.hop_laws.proofs.Accepted.{accepted_fine, ends_known, up_known, fine_accepted, stored_fine}
use Rattle.hop_rest.specs.Accepted.{AcceptedStays, MadeAccepted}
use Rattle.hop_rest.proofs.Frame.{deliver_n}
use Rattle.hop_rest.proofs.Kept.{deliver_keeps_sound, notice_n, notice_keeps_sound, down_n, down_keeps_sound, up_keeps_sound, pass_keeps_sound, passes_keeps_sound}

made_fine : (n : ℕ) (s out : List ℕ) → judge (refusals (make n) s out) ≡ 0 → Fine (done (make n) s out).bytes
unfolding refusals done fresh
made_fine n s out z = let (some, most) = good_count n (judge_none (bad_count n) _ (omega arith) z).0 in stored_fine (fresh n) (fresh_sound n) _ some most

module _ (s : List ℕ) (f : Fine s) where
  sound : Sound (read s)
  sound = f.sound.state

  -- A sound state of as many nodes, stored there.
  next_fine : {t : State} → Sound t → t.n ≡ nodes s → Fine (restored t s)
  next_fine {t} o e = stored_fine t o _ (omega (arith, f.least)) (omega (arith, f.most))

  done_fine : (c : Call) (out : List ℕ) → judge (refusals c s out) ≡ 0 → Fine (done c s out).bytes
  unfolding refusals done read_as link_up
  done_fine (make n) out z = made_fine n s out z
  done_fine (up a b) out z =
      let (la, lb, apart, last) = ends_known s a b _ z in
      let (first, second) = up_known s a b last in
      next_fine (up_keeps_sound (read s) a b sound la lb apart first second) refl
  done_fine (down a b) out z = let (la, lb, apart, last) = ends_known s a b _ z in next_fine (down_keeps_sound (read s) a b sound la lb) (down_n (read s) a b)
  done_fine (notice a b) out z = let (la, lb, apart, last) = ends_known s a b _ z in next_fine (notice_keeps_sound (read s) a b sound la) (notice_n (read s) a b)
  done_fine (deliver w u) out z = let (lw, lu, apart, last) = ends_known s w u _ z in next_fine (deliver_keeps_sound (read s) w u sound lw lu) (deliver_n (read s) w u)
  done_fine pass out z = let (o, e) = pass_keeps_sound (read s) sound in next_fine o e
  done_fine (run k) out z = let (o, e) = passes_keeps_sound (read s) (made (read s) k) sound in next_fine o e
  done_fine check out z = f
  done_fine (route u v) out z = f
  done_fine (queue_length w u) out z = f
  done_fine total_queued out z = f
  done_fine (status u) out z = f
  done_fine (write_event e) out z = f

  outcome_fine : (c : Call) (out : List ℕ) → Fine (outcome c s out).bytes
  outcome_fine c out = go (ℕ_discrete (judge (refusals c s out)) 0)
    where
      go : Dec (judge (refusals c s out) ≡ 0) → Fine (outcome c s out).bytes
      go (yes z) = rw (outcome_done c s out z) (done_fine c out z)
      go (no k) = rw (outcome_refused c s out k) f

pub accepted_stays : AcceptedStays
accepted_stays c s out z = fine_accepted _ (outcome_fine s (accepted_fine s z) c out)

pub made_accepted : MadeAccepted
made_accepted n s out z =
    let none = sym (outcome_number (make n) s out) ∙ z in
    rw (outcome_done (make n) s out none) (fine_accepted _ (made_fine n s out none))
