-- What is left to do of a script: the loop over records writes a line for each, and what it has still to write falls by that line. Assumes nothing.
use Rattle.std.specs.Prelude.{Option, Some, None, Ok, Err}
use mathlib.Core.Path.{◌≡◌, refl, sym, ap, ◌∙◌}
use mathlib.Core.List.{List, [], ◌++◌, append_assoc}
use Prim.Native.Nat.{ℕ, suc, ◌+◌, ◌-◌, ◌≤◌}
use native.Mathlib.Numerals.{add-one}
use native.Mathlib.Omega.{arith}
use lib.ListN.{length}
use Rattle.hop_rule.specs.declared.Event.{Event}
use Rattle.hop_rule.specs.declared.Refused.{Refused}
use Rattle.hop_rule.specs.Refused.{number}
use Rattle.hop_rule.specs.Records.{Reading, read_event, place_after}
use Rattle.hop_rule.specs.Calls.{outcome}
use Rattle.hop_reader.specs.declared.Step.{Step}
use Rattle.hop_reader.specs.Stepping.{step_at}
use Rattle.hop_laws.proofs.Records.{found_place}
use Rattle.hop_text.specs.Text.{event_line}
use Rattle.hop_text.specs.declared.Page.{Page}
use Rattle.hop_text.specs.Writing.{Ends, Puts}
use Rattle.hop_text.proofs.Writing.{puts_nothing, puts_both, ends_first, ends_rest}
use Rattle.hop_replay.specs.Replay.{Replayed, call_of, queued, applied_line, events, events_of}

-- What was read, by its parts.
pub reading_is : {r : Reading} {x y : Option (Event × ℕ)} → r ≡ Ok x → x ≡ y → r ≡ Ok y
reading_is h k = h ∙ ap Ok k

-- ---- one more record

module _ (k : ℕ) (script : List ℕ) (p ordinal : ℕ) (s : List ℕ) where
  pub events_found : {e : Event} {q : ℕ} → read_event script p ≡ Ok (Some (e, q))
      → events (suc k) script p ordinal s
      ≡ (let rest = events k script q (suc ordinal) (outcome (call_of e) s []).bytes in record { text = applied_line ordinal e s ++ rest.text; bytes = rest.bytes })
  unfolding events
  events_found h = rw (h, events)

  pub events_end : read_event script p ≡ Ok None → events (suc k) script p ordinal s ≡ record { text = []; bytes = s }
  unfolding events
  events_end h = rw (h, events)

  pub events_refused : {r : Refused} → read_event script p ≡ Err r → events (suc k) script p ordinal s ≡ record { text = event_line ordinal 0 (number r) (queued s); bytes = s }
  unfolding events
  events_refused h = rw (h, events)

-- ---- what is left

-- Of the whole the text so far is on the page, and the rest is left.
pub record Left (whole : Replayed) (before : Page) (rest : Replayed) (here : Page) : Type 0 where
  pub so_far : List ℕ
  pub text : whole.text ≡ so_far ++ rest.text
  pub bytes : whole.bytes ≡ rest.bytes
  pub put : Puts so_far before here

pub left_whole : (r : Replayed) (page : Page) → Left r page r page
left_whole r page = record { so_far = []; text = refl; bytes = refl; put = puts_nothing page }

module _ {whole : Replayed} {before : Page} {rest : Replayed} {here : Page} where
  pub left_ends : Ends whole.text before.at → Left whole before rest here → Ends rest.text here.at
  left_ends e l = ends_rest l.put (rw l.text at e)

  -- Where the rest is a line and what follows it, the line is written and that is left.
  pub left_line : {line : List ℕ} {more : Replayed} {there : Page} → Left whole before rest here → rest ≡ record { text = line ++ more.text; bytes = more.bytes }
      → Puts line here there → Left whole before more there
  left_line {line} {more} l e w = record {
    so_far = l.so_far ++ line;
    text = l.text ∙ ap (λ (r : Replayed). l.so_far ++ r.text) e ∙ sym (append_assoc l.so_far line more.text);
    bytes = l.bytes ∙ ap (λ (r : Replayed). r.bytes) e;
    put = puts_both l.put w;
  }

  -- Where the rest is a text alone, it is written and all is done.
  pub left_done : {text s : List ℕ} {there : Page} → Left whole before rest here → rest ≡ record { text = text; bytes = s }
      → Puts text here there → Puts whole.text before there × (s ≡ whole.bytes)
  left_done l e w = (
    rw (l.text, ap (λ (r : Replayed). r.text) e) (puts_both l.put w),
    ap (λ (r : Replayed). r.bytes) (sym e) ∙ sym l.bytes,
  )

-- ---- the loop

-- Where the loop stands: at place p, with the ordinal of the next record, over the bytes s. It may read one record and so many more.
pub record Midway (script s₀ : List ℕ) (before : Page) (s : List ℕ) (here : Page) (p ordinal : ℕ) : Type 0 where
  pub more : ℕ
  pub enough : length script ≤ p + more
  pub within : p ≤ length script
  pub counted : ordinal ≤ p + 1
  pub left : Left (events_of script s₀) before (events (suc more) script p ordinal s) here

pub midway_start : (script s : List ℕ) (page : Page) → Midway script s page s page 0 1
midway_start script s page = record { more = length script; enough = omega arith; within = omega arith; counted = omega arith; left = left_whole _ page }

module _ {script s₀ : List ℕ} {before : Page} {s : List ℕ} {here : Page} {p ordinal : ℕ} (m : Midway script s₀ before s here p ordinal) where
  -- What the reader's step says of the record here.
  module _ {step : Step} (h : step ≡ step_at script p) where
    step_read : {r : Reading} → step.reading ≡ r → read_event script p ≡ r
    step_read k = ap (λ (t : Step). t.reading) (sym h) ∙ k

    -- A record that is found: its line has an end, and behind it the loop stands at the next place.
    module _ {e : Event} {q : ℕ} (found : step.reading ≡ Ok (Some (e, q))) where
      pub found_ends : Ends (events_of script s₀).text before.at → Ends (applied_line ordinal e s) here.at
      found_ends ends = ends_first _ (rw (events_found m.more script p ordinal s (step_read found)) at (left_ends ends m.left))

      step_next : step.next ≡ q
      unfolding place_after
      step_next = rw (h, step_read found)

      pub found_on : (p + 4 ≤ step.next) × (step.next ≤ length script)
      found_on = rw step_next (found_place script p (step_read found))

      pub found_next : {t : List ℕ} {there : Page} → Puts (applied_line ordinal e s) here there → t ≡ (outcome (call_of e) s []).bytes
          → Midway script s₀ before t there step.next (ordinal + 1)
      found_next w b =
          let (after, within) = found_on in
          let fewer : suc (m.more - 1) ≡ m.more = omega (arith, m.enough) in
          record {
            more = m.more - 1;
            enough = omega (arith, m.enough);
            within = within;
            counted = omega (arith, m.counted);
            left = rw (step_next, fewer, b, add-one ordinal) (left_line m.left (events_found m.more script p ordinal s (step_read found)) w);
          }

    -- The plain end: nothing is left.
    pub end_done : step.reading ≡ Ok None → Puts (events_of script s₀).text before here × (s ≡ (events_of script s₀).bytes)
    end_done end = left_done m.left (events_end m.more script p ordinal s (step_read end)) (puts_nothing here)

    -- A record that is refused: one line is left.
    module _ {r : Refused} (refused : step.reading ≡ Err r) where
      pub refused_ends : Ends (events_of script s₀).text before.at → Ends (event_line ordinal 0 (number r) (queued s)) here.at
      refused_ends ends = rw (events_refused m.more script p ordinal s (step_read refused)) at (left_ends ends m.left)

      pub refused_done : {there : Page} → Puts (event_line ordinal 0 (number r) (queued s)) here there
          → Puts (events_of script s₀).text before there × (s ≡ (events_of script s₀).bytes)
      refused_done w = left_done m.left (events_refused m.more script p ordinal s (step_read refused)) w
