-- 01, 'The program': from a script of records to the text that is printed. Uses hop_text's Text for the lines, and hop_rule's Route, Records and Calls.
use Rattle.std.specs.Prelude.{Some, None, Ok, Err, List, [], ◌++◌, ℕ, zero, suc, eqb, length, take, replicate, if◌then◌else◌}
use Rattle.hop_rule.specs.declared.Event.{Event}
use Rattle.hop_rule.specs.declared.Event.TheVariants.{Make, Up, Down, Deliver, Pass, Notice}
use Rattle.hop_rule.specs.Refused.{number}
use Rattle.hop_rule.specs.Words.{joined}
use Rattle.hop_rule.specs.State.{State}
use Rattle.hop_rule.specs.Route.{route}
use Rattle.hop_rule.specs.Stored.{read}
use Rattle.hop_rule.specs.Records.{kind_of, read_event}
use Rattle.hop_rule.specs.Calls.{Call, make, check, up, down, notice, deliver, pass, total_queued, answer_at, outcome}
use Rattle.hop_text.specs.Text.{header, event_line, route_line}

-- The call that an event asks for.
unfoldable pub call_of : Event → Call
call_of (Make n) = make n
call_of (Up a b) = up a b
call_of (Down a b) = down a b
call_of (Deliver w u) = deliver w u
call_of Pass = pass
call_of (Notice a b) = notice a b

-- The total queued, as asking for it answers.
unfoldable pub queued : List ℕ → ℕ
queued s = answer_at 0 (outcome total_queued s [])

-- The line of an event that is applied to the bytes s: its refusal number, and the total queued after it.
unfoldable pub applied_line : ℕ → Event → List ℕ → List ℕ
applied_line ordinal e s = let o = outcome (call_of e) s [] in event_line ordinal (kind_of e) o.number (queued o.bytes)

-- The text that is printed, and the state's bytes.
pub record Replayed : Type 0 where
  pub text : List ℕ
  pub bytes : List ℕ

-- Up to k records from place p on, the first of them with this ordinal. A refused event is printed and the next is applied; a record that is refused with 9, 10 or 11 is printed, with kind 0, and ends the reading; the plain end prints no line.
unfoldable pub events : ℕ → List ℕ → ℕ → ℕ → List ℕ → Replayed
events zero script p ordinal s = record { text = []; bytes = s }
events (suc k) script p ordinal s =
    elim (read_event script p) [
      | Ok (Some (e, next)) ↦
          let rest = events k script next (suc ordinal) (outcome (call_of e) s []).bytes in
          record { text = applied_line ordinal e s ++ rest.text; bytes = rest.bytes }
      | Ok None ↦ record { text = []; bytes = s }
      | Err r ↦ record { text = event_line ordinal 0 (number r) (queued s); bytes = s }
    ]

-- Every pair, ascending: the line of one pair, those of one node, and those of every node.
unfoldable pub route_at : State → ℕ → ℕ → List ℕ
route_at s u v = let way = route s u v in route_line u v way.distance way.downstream

unfoldable pub routes_from : State → ℕ → List ℕ
routes_from s u = joined s.n (route_at s u)

unfoldable pub route_lines : State → List ℕ
route_lines s = joined s.n (routes_from s)

-- The state that the bytes hold; where they hold none, which only a buffer of fewer than 8 bytes does, there is nothing to print.
unfoldable pub routes : List ℕ → List ℕ
routes s = if eqb (outcome check s []).number 0 then route_lines (read s) else []

-- A whole script, over the bytes s: as many records as bytes are enough.
abbrev pub events_of : List ℕ → List ℕ → Replayed
events_of script s = events (suc (length script)) script 0 1 s

-- The events, over a fresh state of n = 1 in a lent buffer; at most the first 16,384 bytes of the script are read.
-- In a buffer that is too short for n = 1 making it is refused, and so is every event then, by the calls' own rules.
unfoldable pub played : List ℕ → List ℕ → Replayed
played script buffer = events_of (take 16384 script) (outcome (make 1) buffer []).bytes

unfoldable pub replayed : List ℕ → List ℕ → Replayed
replayed script buffer = let r = played script buffer in record { text = header ++ (r.text ++ routes r.bytes); bytes = r.bytes }

-- The program: a buffer of 61,966 bytes.
unfoldable pub program : List ℕ → List ℕ
program input = (replayed input (replicate 61966 0)).text
