-- What makes the definitions of hop_rule trustworthy, on one page: each statement below is proved in the file that it cites. Assumes nothing.
use mathlib.Core.Path.{◌≡◌}
use mathlib.Core.Logic.{◌≢◌, ◌↔◌}
use mathlib.Core.Bool.{true}
use Rattle.std.specs.Prelude.{Some, Ok}
use mathlib.Core.List.{List, [], ◌∷◌, ◌++◌, map}
use Prim.Native.Nat.{ℕ, ◌+◌, ◌*◌, ◌-◌, ◌≤◌, ◌<◌}
use lib.ListN.{length, get_or, take, drop}
use Rattle.hop_rule.specs.declared.Event.{Event}
use Rattle.hop_rule.specs.State.{State}
use Rattle.hop_rule.specs.Rule.{total, waiting_for, waiting_from, fresh}
use Rattle.hop_rule.specs.Stored.{size, stored, nodes, read}
use Rattle.hop_rule.specs.Sound.{Sound, SoundBytes, is_sound, is_sound_bytes}
use Rattle.hop_rule.specs.Records.{body_of, event_record, status_record, read_event}
use Rattle.hop_rule.specs.Calls.{Call, Refusal, judge, on_state, refusals, refused, done, outcome}
use Rattle.hop_laws.specs.Same.{Same}
use Rattle.hop_laws.specs.Holds.{Holds}
use Rattle.hop_laws.specs.Fine.{Fine}
use Rattle.hop_laws.proofs.Sound as tests
use Rattle.hop_laws.proofs.Same as same
use Rattle.hop_laws.proofs.Stored as bytes
use Rattle.hop_laws.proofs.Read as reading
use Rattle.hop_laws.proofs.Tails as tails
use Rattle.hop_laws.proofs.Fresh as start
use Rattle.hop_laws.proofs.Records as records
use Rattle.hop_laws.proofs.Ceiling as ceiling
use Rattle.hop_laws.proofs.Fits as fits
use Rattle.hop_laws.proofs.Calls as calls

-- ---- sound

-- The test of a state answers true exactly where every clause of sound holds.
pub test_of_state : (s : State) → (is_sound s ≡ true) ↔ Sound s
test_of_state s = ((tests.sound_tells s).shows, (tests.sound_tells s).if_so)

-- So does the test of bytes: refusal 3 applies exactly where the bytes are not sound.
pub test_of_bytes : (s : List ℕ) → (is_sound_bytes s ≡ true) ↔ SoundBytes s
test_of_bytes s = ((tests.sound_bytes_tells s).shows, (tests.sound_bytes_tells s).if_so)

-- A fresh state is sound, whatever its n.
pub fresh_sound : (n : ℕ) → Sound (fresh n)
fresh_sound n = start.fresh_sound n

-- ---- the stored form

-- Its length depends on n alone, and is 8, 41, 118, 61,966 and 198,401 bytes for n = 1, 2, 3, 27 and 40.
pub length_stored : (t : State) → length (stored t) ≡ size t.n
length_stored t = bytes.length_stored t

pub size_numbers : map size (1 ∷ 2 ∷ 3 ∷ 27 ∷ 40 ∷ []) ≡ 8 ∷ 41 ∷ 118 ∷ 61966 ∷ 198401 ∷ []
size_numbers = bytes.size_numbers

-- The bytes of a stored state claim its n and hold its cells, each at the place that reading looks at; and bytes that claim a state's n and hold its cells are its stored form. So no byte of it is left open.
pub stored_holds : (t : State) (r : List ℕ) → (nodes (stored t ++ r) ≡ t.n) × Holds (stored t ++ r) t
stored_holds t r = (bytes.nodes_stored t r, bytes.stored_holds t r)

pub held_stored : (s : List ℕ) (t : State) → size t.n ≤ length s → nodes s ≡ t.n → Holds s t → s ≡ stored t ++ drop (size t.n) s
held_stored s t room e h = bytes.held_stored room e h

-- Reading undoes storing, up to cells that no node below n has; and what is stored of a sound state is sound.
pub read_stored : (t : State) → Sound t → (r : List ℕ) → Same (read (stored t ++ r)) t
read_stored t sound r = reading.read_stored sound r

pub stored_sound : (t : State) → Sound t → (r : List ℕ) → SoundBytes (stored t ++ r)
stored_sound t sound r = reading.stored_sound sound r

-- Storing undoes reading, byte for byte, where the bytes are sound.
pub stored_read : (s : List ℕ) → size (nodes s) ≤ length s → SoundBytes s → stored (read s) ++ drop (size (nodes s)) s ≡ s
stored_read s room sound = reading.stored_read s room sound

-- Bytes r behind a form f are not read: f alone is sound exactly where f with r behind it is, and then both are read as one state. (That no call looks at them is in hop_rest.)
pub tail_sound : (f r : List ℕ) → size (nodes f) ≤ length f → is_sound_bytes (f ++ r) ≡ is_sound_bytes f
tail_sound f r room = tails.test_same f r room

pub tail_read : (f r : List ℕ) → size (nodes f) ≤ length f → SoundBytes f → Same (read f) (read (f ++ r))
tail_read f r room sound = tails.read_same f r room sound

-- Two states that agree below n are sound together and have the same bytes.
pub sound_same : (s t : State) → Same s t → Sound s → Sound t
sound_same s t e = same.sound_same e

pub stored_same : (s t : State) → Same s t → stored s ≡ stored t
stored_same s t e = same.stored_same e

-- ---- records

-- Reading an event's record, wherever it stands, finds the event and the place behind it.
pub read_written : (e : Event) (before after : List ℕ) → read_event (before ++ (event_record e ++ after)) (length before) ≡ Ok (Some (e, length before + length (event_record e)))
read_written e before after = records.read_written e before after

-- What reading finds in bytes is the record of the event that it names: an event has one record only.
pub written_read : (s : List ℕ) (p : ℕ) (e : Event) (q : ℕ) → read_event s p ≡ Ok (Some (e, q)) → ((i : ℕ) → i < length s → get_or s i 0 < 256) → take (q - p) (drop p s) ≡ event_record e
written_read s p e q found all-bytes = records.written_read s p found all-bytes

-- A record that is found has four bytes at least, and ends within the bytes.
pub found_place : (s : List ℕ) (p : ℕ) (e : Event) (q : ℕ) → read_event s p ≡ Ok (Some (e, q)) → (p + 4 ≤ q) × (q ≤ length s)
found_place s p e q found = records.found_place s p found

-- An event whose numbers are below 65,536 is written in bytes; and such are the numbers of an event that is read from bytes.
pub event_bytes : (e : Event) → ((i : ℕ) → get_or (body_of e) i 0 < 65536) → (i : ℕ) → get_or (event_record e) i 0 < 256
event_bytes e h = fits.event_bytes e h

pub found_numbers : (s : List ℕ) (p : ℕ) (e : Event) (q : ℕ) → read_event s p ≡ Ok (Some (e, q)) → ((i : ℕ) → i < length s → get_or s i 0 < 256) → (i : ℕ) → get_or (body_of e) i 0 < 65536
found_numbers s p e q found all-bytes = records.found_numbers s p found all-bytes

-- A status record has 14 bytes, and in a sound state each of them is one: no field is reduced.
pub length_status : (s : State) (u : ℕ) → length (status_record s u) ≡ 14
length_status s u = records.length_status s u

pub status_bytes : (s : State) → Sound s → s.n ≤ 40 → (u : ℕ) → u < s.n → (i : ℕ) → get_or (status_record s u) i 0 < 256
status_bytes s sound most u l = fits.status_bytes s sound most u l

-- ---- the ceiling

-- In a sound state at most n(n − 1) entries wait for a node or from it, and at most n²(n − 1) in all; for 40 nodes that is 62,400, which fits 16 bits.
pub total_most : (s : State) → Sound s → total s ≤ s.n * s.n * (s.n - 1)
total_most s sound = ceiling.total_most s sound

pub waiting_for_most : (s : State) → Sound s → (u : ℕ) → u < s.n → waiting_for s u ≤ s.n * (s.n - 1)
waiting_for_most s sound u l = ceiling.waiting_for_most s sound u l

pub waiting_from_most : (s : State) → Sound s → (u : ℕ) → u < s.n → waiting_from s u ≤ s.n * (s.n - 1)
waiting_from_most s sound u l = ceiling.waiting_from_most s sound u l

pub total_fits : (s : State) → Sound s → s.n ≤ 40 → total s < 65536
total_fits s sound most = ceiling.total_fits s sound most

-- ---- calls

-- Where no refusal applies a call does what it says, and otherwise it gives the number of the first that applies, zero in every other answer, and every byte as it was.
pub outcome_done : (c : Call) (s out : List ℕ) → judge (refusals c s out) ≡ 0 → outcome c s out ≡ done c s out
outcome_done c s out z = calls.outcome_done c s out z

pub outcome_refused : (c : Call) (s out : List ℕ) → judge (refusals c s out) ≢ 0 → outcome c s out ≡ refused (judge (refusals c s out)) s out
outcome_refused c s out f = calls.outcome_refused c s out f

-- A call on a state that is not refused was given a buffer with room for a sound state of 1 to 40 nodes.
pub state_fine : (s : List ℕ) (more : List Refusal) → judge (on_state s more) ≡ 0 → Fine s × (judge more ≡ 0)
state_fine s more z = calls.state_fine s more z

-- The state's own refusals come before those of the call's arguments.
pub state_refused : (s : List ℕ) (more : List Refusal) → judge (on_state s []) ≢ 0 → judge (on_state s more) ≡ judge (on_state s [])
state_refused s more f = calls.state_refused s more f

pub state_passed : (s : List ℕ) (more : List Refusal) → judge (on_state s []) ≡ 0 → judge (on_state s more) ≡ judge more
state_passed s more z = calls.state_passed s more z
