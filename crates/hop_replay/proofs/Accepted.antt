-- Check accepts every state of the program, as every call leaves an accepted buffer accepted. So refusal 3 is never printed, and in a buffer of 8 bytes or more the total and the routes that are printed are the rule's. Assumes nothing.
use Rattle.std.specs.Prelude.{Some, None, Ok, Err}
use mathlib.Core.Path.{◌≡◌, refl, sym, ◌∙◌}
use mathlib.Core.Logic.{◌≢◌}
use mathlib.Core.List.{List, []}
use Prim.Native.Nat.{ℕ, zero, suc, ◌*◌, ◌≤◌, ◌<◌}
use native.Mathlib.Nat.{mul-le-mul}
use native.Mathlib.Omega.{arith}
use lib.ListN.{length}
use borrow.Author.Tests.{ltb-false, le-ltb}
use Rattle.hop_rule.specs.declared.Event.{Event}
use Rattle.hop_rule.specs.declared.Event.TheVariants.{Make, Up, Down, Deliver, Pass, Notice}
use Rattle.hop_rule.specs.Rule.{total}
use Rattle.hop_rule.specs.Stored.{size, nodes, read}
use Rattle.hop_rule.specs.Records.{Reading, read_event}
use Rattle.hop_rule.specs.Calls.{make, bad_count, short, judge, refusals, outcome}
use Rattle.hop_laws.specs.Fine.{Fine}
use Rattle.hop_laws.proofs.Calls.{judge_none, good_count, outcome_number, state_fine}
use Rattle.hop_laws.proofs.Accepted.{accepted_fine, fine_total}
use Rattle.hop_rest.specs.Accepted.{Accepted}
use Rattle.hop_rest.proofs.Accepted.{accepted_stays, made_accepted}
use Rattle.hop_replay.specs.Replay.{call_of, queued, events, routes, played}
use Rattle.hop_replay.proofs.Checked.{routes_none}
use Rattle.hop_replay.proofs.Left.{events_found, events_end, events_refused}

-- ---- a script

events_accepted : (k : ℕ) (script : List ℕ) (p ordinal : ℕ) (s : List ℕ) → Accepted s → Accepted (events k script p ordinal s).bytes
unfolding events
events_accepted zero script p ordinal s z = z
events_accepted (suc k) script p ordinal s z = go (read_event script p) refl (λ q t. events_accepted k script q (suc ordinal) t)
  where
    go : (r : Reading) → read_event script p ≡ r → ((q : ℕ) (t : List ℕ) → Accepted t → Accepted (events k script q (suc ordinal) t).bytes) → Accepted (events (suc k) script p ordinal s).bytes
    go (Ok (Some (e, q))) h rest = rw (events_found k script p ordinal s h) (rest q _ (accepted_stays (call_of e) s [] z))
    go (Ok None) h rest = rw (events_end k script p ordinal s h) z
    go (Err r) h rest = rw (events_refused k script p ordinal s h) z

pub played_accepted : (script buffer : List ℕ) → 8 ≤ length buffer → Accepted (played script buffer).bytes
unfolding played refusals size judge
played_accepted script buffer room = events_accepted _ _ 0 1 _ (made_accepted 1 buffer [] (outcome_number (make 1) buffer [] ∙ rw (le-ltb (length buffer) 8 room)))

-- ---- what is printed of an accepted buffer

-- Its routes are `routes_some` of Checked.
pub queued_total : (s : List ℕ) → Accepted s → queued s ≡ total (read s)
unfolding queued
queued_total s z = fine_total s (accepted_fine s z)

-- ---- a buffer that is too short

size_least : (n : ℕ) → 1 ≤ n → 8 ≤ size n
unfolding size
size_least n l =
    let square : 1 ≤ n * n = mul-le-mul l l in
    let cube : 1 ≤ n * n * n = mul-le-mul square l in
    omega arith

module _ (s : List ℕ) (few : length s < 8) where
  not_fine : Fine s → ⊥
  not_fine fine = omega (arith, fine.room, size_least (nodes s) fine.least)

  -- Every event is refused, and there are no routes to print.
  pub short_refused : (e : Event) → (outcome (call_of e) s []).number ≢ 0
  unfolding call_of refusals
  short_refused e z = go e (sym (outcome_number (call_of e) s []) ∙ z)
    where
      go : (e : Event) → judge (refusals (call_of e) s []) ≡ 0 → ⊥
      go (Make n) j =
          let (count, j₁) = judge_none (bad_count n) _ (omega arith) j in
          let (room, last) = judge_none (short s (size n)) [] (omega arith) j₁ in
          omega (arith, ltb-false (length s) (size n) room, size_least n (good_count n count).0)
      go (Up a b) j = not_fine (state_fine s _ j).0
      go (Down a b) j = not_fine (state_fine s _ j).0
      go (Deliver w u) j = not_fine (state_fine s _ j).0
      go Pass j = not_fine (state_fine s _ j).0
      go (Notice a b) j = not_fine (state_fine s _ j).0

  pub short_routes : routes s ≡ []
  short_routes = routes_none s (λ z. not_fine (accepted_fine s z))
