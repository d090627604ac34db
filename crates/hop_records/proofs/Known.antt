-- The record of the event that a kind and two numbers say; and an event's own kind and numbers say the event. Assumes nothing.
use mathlib.Core.Path.{◌≡◌, refl, ap, ◌∙◌}
use mathlib.Core.Logic.{◌≢◌}
use mathlib.Core.Bool.{true}
use mathlib.Core.List.{List, [], ◌∷◌}
use Prim.Native.Nat.{ℕ, ◌≤◌}
use native.Mathlib.Omega.{arith}
use Rattle.std.proofs.lemmas.Bool.Decides.{nat_tests}
use Rattle.hop_rule.specs.declared.Event.{Event}
use Rattle.hop_rule.specs.declared.Event.TheVariants.{Make, Up, Down, Deliver, Pass, Notice}
use Rattle.hop_rule.specs.Records.{record_of, kind_of, body_of, event_record, known, event_of}
use Rattle.hop_rule.specs.Calls.{write_event, outcome}
use Rattle.hop_laws.proofs.Records.{known_kind}
use Rattle.hop_records.specs.declared.Numbers.{Numbers}
use Rattle.hop_records.specs.Writing.{tried, numbers_of, wrote_event}
use Rattle.hop_records.proofs.Stores.{tried_outcome}

known_pair : (kind : ℕ) → 16 ≤ kind → kind ≤ 20 → kind ≢ 19 → known kind ≡ true
unfolding known
known_pair kind low high pass = grind (arith, nat_tests)

module _ (first second : ℕ) (out : List ℕ) where
  pub make_written : tried (record_of 15 (first ∷ [])) out ≡ wrote_event 15 first second out
  unfolding wrote_event known event_of event_record kind_of body_of
  make_written = tried_outcome (Make first) out

  pub pass_written : tried (record_of 19 []) out ≡ wrote_event 19 first second out
  unfolding wrote_event known event_of event_record kind_of body_of
  pass_written = tried_outcome Pass out

  pub pair_written : (kind : ℕ) → 16 ≤ kind → kind ≤ 20 → kind ≢ 19 → tried (record_of kind (first ∷ second ∷ [])) out ≡ wrote_event kind first second out
  unfolding wrote_event known event_of event_record kind_of body_of
  pair_written kind low high pass =
      let (e, same) = known_kind kind (known_pair kind low high pass) in
      rw (← same) (of e (omega arith) (omega arith))
    where
      of : (e : Event) → kind_of e ≢ 15 → kind_of e ≢ 19 → tried (record_of (kind_of e) (first ∷ second ∷ [])) out ≡ wrote_event (kind_of e) first second out
      of (Make n) m p = absurd (m refl)
      of (Up a b) m p = tried_outcome (Up first second) out
      of (Down a b) m p = tried_outcome (Down first second) out
      of (Deliver w u) m p = tried_outcome (Deliver first second) out
      of Pass m p = absurd (p refl)
      of (Notice a b) m p = tried_outcome (Notice first second) out

pub own_written : (e : Event) (out : List ℕ) {p : Numbers} → p ≡ numbers_of e → wrote_event p.kind p.first p.second out ≡ outcome (write_event e) [] out
unfolding wrote_event known event_of kind_of body_of
own_written e out h = ap (λ (p : Numbers). wrote_event p.kind p.first p.second out) h ∙ elim e as (λ k. wrote_event (numbers_of k).kind (numbers_of k).first (numbers_of k).second out ≡ outcome (write_event k) [] out) [ Make n ↦ refl | Up a b ↦ refl | Down a b ↦ refl | Deliver w u ↦ refl | Pass ↦ refl | Notice a b ↦ refl ]
