-- The two ends of a link: no answer and no byte depends on which of them is named first, nor, once both have noticed, on which one noticed first; link down of a link with both ends up is 01's; and what the one end that is up has on it stays until its own notice. Uses Accepted, hop_rule's Notice and Calls and hop_laws' AtOnce.
use Rattle.std.specs.Prelude.{◌≡◌, ◌⊎◌, List, [], ℕ, ◌<◌}
use Rattle.hop_rule.specs.Stored.{nodes, read}
use Rattle.hop_rule.specs.Sound.{Linked, Sends}
use Rattle.hop_rule.specs.Notice.{EndsAgree}
use Rattle.hop_rule.specs.Calls.{Call, make, check, up, down, notice, deliver, pass, run, route, queue_length, total_queued, status, write_event, restored, outcome}
use Rattle.hop_laws.specs.AtOnce.{link_down01}
use Rattle.hop_rest.specs.Accepted.{Accepted}

-- ---- which end is named first

-- Of all bytes and all arguments, also where the call is refused:
pub record EndsAlike (s out : List ℕ) (a b : ℕ) : Type 0 where
  pub up_either : outcome (up a b) s out ≡ outcome (up b a) s out
  pub down_either : outcome (down a b) s out ≡ outcome (down b a) s out

abbrev pub EitherEndFirst : Type 0
EitherEndFirst = (s out : List ℕ) (a b : ℕ) → EndsAlike s out a b

-- ---- which end notices first

-- Where both ends of a link are up,
pub record NoticesMeet (s : List ℕ) (a b : ℕ) : Type 0 where
  -- link down is done, and so are a's notice and then b's: in answers and bytes it is the same;
  pub done : (outcome (down a b) s []).number ≡ 0
  pub first : (outcome (notice a b) s []).number ≡ 0
  pub both : outcome (notice b a) (outcome (notice a b) s []).bytes [] ≡ outcome (down a b) s []
  -- and where no link has just one end up it leaves what 01's does.
  pub at_once : EndsAgree (read s) → (outcome (down a b) s []).bytes ≡ restored (link_down01 (read s) a b) s

abbrev pub NoticesMeetAtDown : Type 0
NoticesMeetAtDown = (s : List ℕ) → Accepted s → (a b : ℕ) → a < nodes s → b < nodes s → Sends (read s) a b → NoticesMeet s a b

-- Where a's end alone is up, link down is a's notice, also where both are refused.
abbrev pub DownGivesMissing : Type 0
DownGivesMissing = (s out : List ℕ) (a b : ℕ) → Linked (read s) a b → (Linked (read s) b a → ⊥) → outcome (down a b) s out ≡ outcome (notice a b) s out

-- ---- until the other end's own notice

-- The calls that take a's end of its link to b down: its own notice, link down, and making a state anew.
abbrev pub TakesDown : Call → ℕ → ℕ → Type 0
TakesDown (make n) a b = Unit {0}
TakesDown check a b = ⊥
TakesDown (up x y) a b = ⊥
TakesDown (down x y) a b = ((x ≡ a) × (y ≡ b)) ⊎ ((x ≡ b) × (y ≡ a))
TakesDown (notice x y) a b = (x ≡ a) × (y ≡ b)
TakesDown (deliver w u) a b = ⊥
TakesDown pass a b = ⊥
TakesDown (run k) a b = ⊥
TakesDown (route u v) a b = ⊥
TakesDown (queue_length w u) a b = ⊥
TakesDown total_queued a b = ⊥
TakesDown (status u) a b = ⊥
TakesDown (write_event e) a b = ⊥

-- In t a's end is still the one that is up, with the views that it has in s.
pub record StaysAlone (s t : List ℕ) (a b : ℕ) : Type 0 where
  pub nodes_stay : nodes t ≡ nodes s
  pub up_stays : Linked (read t) a b
  pub down_stays : Linked (read t) b a → ⊥
  pub views_stay : (v : ℕ) → v < nodes s → (read t).view a b v ≡ (read s).view a b v

-- Where a's end alone is up, every other call leaves it so, done or refused.
abbrev pub StaysUntilNotice : Type 0
StaysUntilNotice = (c : Call) (s out : List ℕ) → Accepted s → (a b : ℕ) → a < nodes s → b < nodes s → Linked (read s) a b → (Linked (read s) b a → ⊥) → (TakesDown c a b → ⊥) → StaysAlone s (outcome c s out).bytes a b
