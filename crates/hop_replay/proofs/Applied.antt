-- What the public calls answer, as the numbers that are printed. Assumes nothing.
use Rattle.std.specs.Prelude.{Result, Ok, Err}
use Rattle.std.specs.Result.{result_unwrap_or}
use mathlib.Core.Path.{◌≡◌, refl, ap}
use mathlib.Core.List.{List, []}
use Prim.Native.Nat.{ℕ}
use lib.ListN.{take, length-append}
use Rattle.hop_text.proofs.Writing.{sets_append}
use Rattle.hop_rule.specs.declared.Event.{Event}
use Rattle.hop_rule.specs.declared.Refused.{Refused}
use Rattle.hop_rule.specs.Calls.{Call, make, total_queued, Outcome, answer_at, outcome}
use Rattle.hop_ask.specs.Answers.{asked}
use Rattle.hop_records.specs.declared.Numbers.{Numbers}
use Rattle.hop_records.specs.Writing.{numbers_of}
use Rattle.hop_text.specs.Text.{event_line}
use Rattle.hop_replay.specs.Replay.{call_of, queued, applied_line, events_of, played}

-- An event is applied by its call.
pub applied : (e : Event) (s : List ℕ) {c : Call} {o : Outcome} → call_of e ≡ c → o ≡ outcome c s [] → (o.number ≡ (outcome (call_of e) s []).number) × (o.bytes ≡ (outcome (call_of e) s []).bytes)
applied e s h k = rw (h, ← k) (refl, refl)

-- Its line is made of these four numbers.
pub applied_line_is : (ordinal : ℕ) (e : Event) (s : List ℕ) {p : Numbers} {code waits : ℕ} {t : List ℕ}
    → (code ≡ (outcome (call_of e) s []).number) × (t ≡ (outcome (call_of e) s []).bytes)
    → p ≡ numbers_of e
    → waits ≡ queued t
    → event_line ordinal p.kind code waits ≡ applied_line ordinal e s
unfolding applied_line
applied_line_is ordinal e s h k w = rw (ap (λ (p : Numbers). p.kind) k, w, h.0, h.1)

-- The events that are played, from the part of the script that is read and the bytes that making the state left.
pub played_is : (script buffer : List ℕ) {input s : List ℕ} → input ≡ take 16384 script → s ≡ (outcome (make 1) buffer []).bytes
    → events_of input s ≡ played script buffer
unfolding played
played_is script buffer h k = rw (h, k)

-- With these the check finds that header, events and routes are the whole text.
pub ruleset playing = (played_is, sets_append, length-append)

-- The total queued, 0 where asking for it is refused.
pub total_is : (s : List ℕ) (a : Result ℕ Refused) → asked a s [] ≡ outcome total_queued s [] → result_unwrap_or a 0 ≡ queued s
unfolding queued
total_is s (Ok x) h = ap (answer_at 0) h
total_is s (Err r) h = ap (answer_at 0) h
