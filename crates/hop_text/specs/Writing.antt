-- Writing text into a lent buffer from a place on: what every writer here promises. Uses nothing of this crate but its page.
use Rattle.std.specs.Prelude.{◌≡◌, List, ℕ, ◌+◌, ◌^◌, ◌<◌, length}
use Rattle.std.proofs.lemmas.List.Edits.{sets}
use Rattle.hop_text.specs.declared.Page.{Page}

-- From `before` to `after` the text was written at place `at`, and `next` is the place behind it. Bytes past the buffer's end are not written (`sets` leaves them out), and the next place is as if they were.
pub record Wrote (text before : List ℕ) (at : ℕ) (after : List ℕ) (next : ℕ) : Type 0 where
  pub bytes : after ≡ sets before at text
  pub place : next ≡ at + length text

-- The text ends at a place below 2³², so that no sum of places wraps.
pub record Ends (text : List ℕ) (at : ℕ) : Type 0 where
  pub below : at + length text < 2 ^ 32

-- The text is written on a page, which stays a page of the same buffer.
pub record Puts (text : List ℕ) (before after : Page) : Type 0 where
  pub same_buffer : after.out.ghost_name ≡ before.out.ghost_name
  pub wrote : Wrote text before.out.now before.at after.out.now after.at
