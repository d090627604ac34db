-- The text has at most 92,072 bytes: a header of 23, 4,097 event lines of 17, and 1,600 `d` lines of 14. Assumes nothing.
use Rattle.std.specs.Prelude.{Some, None, Ok, Err}
use mathlib.Core.Path.{◌≡◌, refl}
use mathlib.Core.Logic.{◌⊎◌, inl, inr}
use mathlib.Core.Bool.{Bool, true, false, cond}
use mathlib.Core.List.{List, [], ◌∷◌}
use Prim.Native.Nat.{ℕ, zero, suc, ◌+◌, ◌*◌, ◌-◌, ◌≤◌, ◌<◌}
use native.Mathlib.Nat.{le_refl, suc-mul}
use native.Mathlib.Decide.{ℕ_discrete, dec_lt}
use native.Mathlib.Omega.{arith}
use lib.ListN.{length, take, length-append, length-take}
use Rattle.hop_rule.specs.declared.Event.{Event}
use Rattle.hop_rule.specs.declared.Event.TheVariants.{Make, Up, Down, Deliver, Pass, Notice}
use Rattle.hop_rule.specs.Refused.{number}
use Rattle.hop_rule.specs.Words.{joined}
use Rattle.hop_rule.specs.State.{State}
use Rattle.hop_rule.specs.Stored.{read_as, read}
use Rattle.hop_rule.specs.Sound.{Sound}
use Rattle.hop_rule.specs.Records.{Reading, read_event}
use Rattle.hop_rule.specs.Calls.{Refusal, make, check, total_queued, judge, refusals, answer_at, outcome}
use Rattle.hop_laws.specs.Current.{Current}
use Rattle.hop_laws.proofs.Refused.{number_within}
use Rattle.hop_laws.proofs.Rule.{distance_of_most, sound_current, current_own, current_none, current_gives}
use Rattle.hop_laws.proofs.Ceiling.{total_fits}
use Rattle.hop_laws.proofs.Calls.{outcome_number, answer_done, state_fine}
use Rattle.hop_laws.proofs.Accepted.{accepted_fine, fine_total}
use Rattle.hop_laws.proofs.Records.{kind_small, found_place}
use Rattle.hop_text.specs.Text.{header}
use Rattle.hop_text.specs.Writing.{Ends}
use Rattle.hop_text.proofs.Short.{event_short, route_short}
use Rattle.hop_replay.specs.Replay.{call_of, queued, applied_line, events, route_at, routes_from, route_lines, routes, played, replayed}
use Rattle.hop_replay.proofs.Checked.{routes_some, routes_none}
use Rattle.hop_replay.proofs.Left.{events_found, events_end, events_refused}

-- ---- the numbers of an event line

-- Each refusal's number is at most m, and so is the one that is given.
abbrev AtMost : ℕ → List Refusal → Type 0
AtMost m [] = Unit {0}
AtMost m (r ∷ rs) = (r.number ≤ m) × AtMost m rs

judge_most : (m : ℕ) (rs : List Refusal) → AtMost m rs → judge rs ≤ m
unfolding judge
judge_most m [] h = omega arith
judge_most m (r ∷ rs) h = go r.applies (judge_most m rs h.1)
  where
    go : (b : Bool) {x : ℕ} → x ≤ m → cond b r.number x ≤ m
    go true l = h.0
    go false l = l

number_small : (e : Event) (s : List ℕ) → (outcome (call_of e) s []).number < 100
unfolding refusals call_of
number_small e s =
    let most : judge (refusals (call_of e) s []) ≤ 13 = judge_most 13 _ (elim e as (λ k. AtMost 13 (refusals (call_of k) s [])) [
      | Make n ↦ omega arith
      | Up a b ↦ omega arith
      | Down a b ↦ omega arith
      | Deliver w u ↦ omega arith
      | Pass ↦ omega arith
      | Notice a b ↦ omega arith
    ]) in
    omega (arith, outcome_number (call_of e) s [])

-- An answer past 0 is that of a total which was not refused.
queued_small : (s : List ℕ) → queued s < 100000
unfolding queued refusals read_as
queued_small s = go (dec_lt 0 (answer_at 0 (outcome total_queued s [])))
  where
    go : Dec (0 < answer_at 0 (outcome total_queued s [])) → answer_at 0 (outcome total_queued s []) < 100000
    go (yes l) = let fine = (state_fine s [] (answer_done total_queued s [] 0 l)).0 in omega (arith, fine_total s fine, total_fits (read s) fine.sound.state fine.most)
    go (no f) = omega arith

-- ---- the event lines

applied_short : (ordinal : ℕ) (e : Event) (s : List ℕ) → ordinal < 10000 → length (applied_line ordinal e s) ≤ 17
unfolding applied_line
applied_short ordinal e s l = event_short ordinal _ _ _ l (kind_small e) (number_small e s) (queued_small _)

-- Four bytes of the script for each line, but for the last.
events_short : (k : ℕ) (script : List ℕ) (p ordinal : ℕ) (s : List ℕ) → length script ≤ 16384 → p ≤ length script → 4 * ordinal ≤ p + 4
    → 4 * length (events k script p ordinal s).text ≤ 17 * (length script - p + 4)
unfolding events
events_short zero script p ordinal s small within counted = omega arith
events_short (suc k) script p ordinal s small within counted = go (read_event script p) refl (λ q t. events_short k script q (suc ordinal) t small)
  where
    go : (r : Reading) → read_event script p ≡ r
        → ((q : ℕ) (t : List ℕ) → q ≤ length script → 4 * suc ordinal ≤ q + 4 → 4 * length (events k script q (suc ordinal) t).text ≤ 17 * (length script - q + 4))
        → 4 * length (events (suc k) script p ordinal s).text ≤ 17 * (length script - p + 4)
    go (Ok (Some (e, q))) h rest =
        let (after, inside) = found_place script p h in
        let t = (outcome (call_of e) s []).bytes in
        rw (events_found k script p ordinal s h)
        (omega (arith, length-append (applied_line ordinal e s) (events k script q (suc ordinal) t).text, applied_short ordinal e s (omega arith), rest q t inside (omega arith)))
    go (Ok None) h rest = rw (events_end k script p ordinal s h) (omega arith)
    go (Err r) h rest = rw (events_refused k script p ordinal s h) (omega (arith, event_short ordinal 0 (number r) (queued s) (omega arith) (omega arith) (omega (arith, number_within r)) (queued_small s)))

-- ---- the `d` lines

joined_short : (k m : ℕ) (f : ℕ → List ℕ) → ((i : ℕ) → i < k → length (f i) ≤ m) → length (joined k f) ≤ k * m
unfolding joined
joined_short zero m f h = omega arith
joined_short (suc k) m f h = omega (arith, length-append (joined k f) (f k), joined_short k m f (λ i l. h i (omega arith)), h k (le_refl _), suc-mul k m)

downstream_small : (s : State) (u v : ℕ) → Sound s → s.n ≤ 40 → u < s.n → v < s.n → (s.downstream u v < 100) ⊎ (s.downstream u v ≡ 255)
downstream_small s u v sound most l m = go (ℕ_discrete u v)
  where
    c : Current s u v
    c = sound_current sound u v l m

    go : Dec (u ≡ v) → (s.downstream u v < 100) ⊎ (s.downstream u v ≡ 255)
    go (yes e) = inl (omega (arith, current_own c e))
    go (no f) = far (dec_lt (s.distance u v) s.n)
      where
        far : Dec (s.distance u v < s.n) → (s.downstream u v < 100) ⊎ (s.downstream u v ≡ 255)
        far (yes h) = inl (omega (arith, (current_gives c f h).below))
        far (no h) = inr (current_none c f (omega (arith, c.distance, distance_of_most s u v)))

lines_short : (s : State) → Sound s → s.n ≤ 40 → length (route_lines s) ≤ 22400
unfolding route_lines routes_from route_at
lines_short s sound most = omega (arith, joined_short s.n 560 (routes_from s) (λ u l. omega (arith, joined_short s.n 14 (route_at s u) (λ v m. line u v l m))))
  where
    line : (u v : ℕ) → u < s.n → v < s.n → length (route_at s u v) ≤ 14
    line u v l m =
        let far : s.distance u v ≤ s.n = omega (arith, sound.distances u v l m, distance_of_most s u v) in
        route_short u v _ _ (omega arith) (omega arith) (omega arith) (downstream_small s u v sound most l m)

routes_short : (s : List ℕ) → length (routes s) ≤ 22400
unfolding read_as
routes_short s = go (ℕ_discrete (outcome check s []).number 0)
  where
    go : Dec ((outcome check s []).number ≡ 0) → length (routes s) ≤ 22400
    go (yes z) = let fine = accepted_fine s z in rw (routes_some s z) (lines_short (read s) fine.sound.state fine.most)
    go (no f) = rw (routes_none s f) (omega arith)

-- ---- the text

pub replayed_short : (script buffer : List ℕ) → length (replayed script buffer).text ≤ 92072
unfolding replayed played header
replayed_short script buffer =
    let input = take 16384 script in
    let s = (outcome (make 1) buffer []).bytes in
    let r = events (suc (length input)) input 0 1 s in
    omega (
      arith,
      length-append r.text (routes r.bytes),
      length-take 16384 script,
      events_short (suc (length input)) input 0 1 s (omega (arith, length-take 16384 script)) (omega arith) (omega arith),
      routes_short r.bytes,
    )

-- So every place in it is far below 2³².
pub replayed_ends : (script buffer : List ℕ) → Ends (replayed script buffer).text 0
replayed_ends script buffer = record { below = omega (arith, replayed_short script buffer) }

-- With these the check finds that the page has an end, and how long the text is.
pub ruleset replaying = (replayed_short, replayed_ends)
