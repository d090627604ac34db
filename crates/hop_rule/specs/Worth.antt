-- 02, R-1, 'What is each link worth?': a trial for every pair of nodes, a line of seven signed numbers about each, and the call. Uses Words, State, Rule, Notice, Route, Stored, Records and Calls.
use Rattle.std.specs.Prelude.{Bool, not, ◌&&◌, List, [], ◌∷◌, ◌++◌, ℕ, eqb, ltb, ℤ, pos, ◌-ℤ◌, length, take, if◌then◌else◌}
use Rattle.hop_rule.specs.Words.{sum, joined}
use Rattle.hop_rule.specs.State.{State}
use Rattle.hop_rule.specs.Rule.{up, link_up, passes, made, delivered}
use Rattle.hop_rule.specs.Notice.{one_ended, link_down}
use Rattle.hop_rule.specs.Route.{route, routed}
use Rattle.hop_rule.specs.Stored.{size, nodes, read}
use Rattle.hop_rule.specs.Records.{written}
use Rattle.hop_rule.specs.Calls.{Refusal, judge, on_state, not_at_rest, short}

-- ---- the trial of a pair a, b

-- An up link is taken down, a down link is put up,
unfoldable pub turned : State → ℕ → ℕ → State
turned s a b = if up s a b then link_down s a b else link_up s a b

-- and the trial is run to rest: as many passes as a run makes with the largest allowance, which is enough for every n here.
unfoldable pub trial_passes : State → ℕ → ℕ → ℕ
trial_passes s a b = made (turned s a b) 255

unfoldable pub trial : State → ℕ → ℕ → State
trial s a b = passes (turned s a b) (trial_passes s a b)

-- ---- two tables of distances over n nodes, before and after

-- The table that a state gives: of every route that is asked for, its distance.
abbrev pub table_of : State → ℕ → ℕ → ℕ
table_of s u v = (route s u v).distance

-- A sum over ordered pairs; a node with itself is one of them.
abbrev pub over : ℕ → (ℕ → ℕ → ℕ) → ℕ
over n f = sum n (λ u. sum n (f u))

-- Ordered pairs that lost their route, and those that gained one: going back they would lose it.
unfoldable pub lost : ℕ → (ℕ → ℕ → ℕ) → (ℕ → ℕ → ℕ) → ℕ
lost n before after = over n (λ u v. if routed n (before u v) && not (routed n (after u v)) then 1 else 0)

abbrev pub gained : ℕ → (ℕ → ℕ → ℕ) → (ℕ → ℕ → ℕ) → ℕ
gained n before after = lost n after before

-- The hops of the table d, summed over ordered pairs with a route in d and in e.
unfoldable pub hops : ℕ → (ℕ → ℕ → ℕ) → (ℕ → ℕ → ℕ) → ℕ
hops n d e = over n (λ u v. if routed n (d u v) && routed n (e u v) then d u v else 0)

-- The change in hops, after minus before, over ordered pairs with a route both times. It is below zero when routes got shorter.
unfoldable pub change : ℕ → (ℕ → ℕ → ℕ) → (ℕ → ℕ → ℕ) → ℤ
change n before after = pos (hops n after before) -ℤ pos (hops n before after)

-- ---- the lines

-- One line: the pair, passes, deliveries, ordered pairs that lost their route, ordered pairs that gained one, and the change in hops.
pub record Line : Type 0 where
  pub low : ℕ
  pub high : ℕ
  pub passes : ℕ
  pub deliveries : ℕ
  pub lost : ℕ
  pub gained : ℕ
  pub change : ℤ

unfoldable pub line : State → ℕ → ℕ → Line
line s a b =
    let before = table_of s in
    let after = table_of (trial s a b) in
    record {
      low = a;
      high = b;
      passes = trial_passes s a b;
      deliveries = delivered (turned s a b) (trial_passes s a b);
      lost = lost s.n before after;
      gained = gained s.n before after;
      change = change s.n before after;
    }

-- One line per pair a < b, ascending; by R-5 a pair whose link has just one end up is left out.
abbrev pub tried : State → ℕ → ℕ → Bool
tried s a b = ltb a b && not (one_ended s a b)

unfoldable pub lines : State → List Line
lines s = joined s.n (λ a. joined s.n (λ b. if tried s a b then line s a b ∷ [] else []))

-- As seven signed numbers each.
abbrev pub seven : Line → List ℤ
seven l = pos l.low ∷ pos l.high ∷ pos l.passes ∷ pos l.deliveries ∷ pos l.lost ∷ pos l.gained ∷ l.change ∷ []

unfoldable pub numbers : List Line → List ℤ
numbers [] = []
numbers (l ∷ ls) = seven l ++ numbers ls

-- ---- the call, on a buffer s that holds the state, a second buffer and a list

-- 12, the state is not at rest, judged before 2 for a trial buffer or a list that is too short.
unfoldable pub worth_refusals : List ℕ → List ℕ → List ℤ → List Refusal
worth_refusals s buffer list = on_state s (not_at_rest s ∷ short buffer (size (nodes s)) ∷ short list (length (numbers (lines (read s)))) ∷ [])

-- What it gives: its number, the number of lines (nothing where it is refused), and the trial buffer and the list as it leaves them. The state's own bytes stay as they are.
pub record Valued : Type 0 where
  pub number : ℕ
  pub answers : List ℕ
  pub trial : List ℕ
  pub list : List ℤ

-- The trial buffer ends with a copy of the state, and the list begins with the lines; what stands behind them stays.
unfoldable pub worth_done : List ℕ → List ℕ → List ℤ → Valued
worth_done s buffer list = record {
  number = 0;
  answers = length (lines (read s)) ∷ [];
  trial = written (take (size (nodes s)) s) buffer;
  list = written (numbers (lines (read s))) list;
}

unfoldable pub worth : List ℕ → List ℕ → List ℤ → Valued
worth s buffer list =
    let r = judge (worth_refusals s buffer list) in
    let done = worth_done s buffer list in
    if eqb r 0 then done else record { number = r; answers = []; trial = buffer; list = list }
