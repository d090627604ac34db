-- Why a planner may believe R-1's lines: of every state that is sound and at rest, what holds of each line whatever links elsewhere have just one end up, and what holds where there is none: its numbers are then about true hop counts before and after. And which pairs have a line. Uses Walks, Rest, Accepted, hop_rule's Notice and Worth, and hop_laws' Lines.
use Rattle.std.specs.Prelude.{◌≡◌, ◌⊎◌, ◌≢◌, Bool, true, not, ◌&&◌, List, ◌∷◌, ◌++◌, ℕ, ◌+◌, ◌*◌, ◌-◌, ◌≤◌, ◌<◌, ℤ, pos, nat_abs, length, take, drop, ◌≤ℤ◌, ◌<ℤ◌, if◌then◌else◌}
use Rattle.hop_rule.specs.State.{State}
use Rattle.hop_rule.specs.Sound.{Sound}
use Rattle.hop_rule.specs.Notice.{EndsAgree}
use Rattle.hop_rule.specs.Stored.{size, nodes, read}
use Rattle.hop_rule.specs.Worth.{turned, trial, table_of, over, change, Line, line, tried, lines, seven, worth}
use Rattle.hop_laws.specs.Lines.{tried_of, tried_below}
use Rattle.hop_rest.specs.Walks.{Walk, HopCount}
use Rattle.hop_rest.specs.Rest.{AtRest, Settled}
use Rattle.hop_rest.specs.Accepted.{Accepted}

-- ---- one line, whatever other links have just one end up

pub record LineRuns (s : State) (a b : ℕ) : Type 0 where
  -- The trial has the nodes and the links of s, but for the pair's link, which is turned at both ends;
  pub same_nodes : (turned s a b).n ≡ s.n
  pub first_end : (turned s a b).link a b ≡ 1 - s.link a b
  pub second_end : (turned s a b).link b a ≡ 1 - s.link b a
  pub other_links : (x y : ℕ) → ((x ≡ a) × (y ≡ b) → ⊥) → ((x ≡ b) × (y ≡ a) → ⊥) → (turned s a b).link x y ≡ s.link x y
  -- its run ends at rest, and an end whose other end is down still trusts what it did.
  pub rests : AtRest (trial s a b)
  pub trusted : (x y v : ℕ) → x < s.n → y < s.n → v < s.n → s.link x y ≡ 1 → s.link y x ≢ 1 → (trial s a b).view x y v ≡ s.view x y v
  -- Taking a link away gains nothing and makes no route shorter, and the change is not below zero;
  pub away_gained : s.link a b ≡ 1 → (line s a b).gained ≡ 0
  pub away_no_shorter : s.link a b ≡ 1 → (u v : ℕ) → u < s.n → v < s.n → table_of s u v ≤ table_of (trial s a b) u v
  pub away_change : s.link a b ≡ 1 → pos 0 ≤ℤ (line s a b).change
  -- adding one loses nothing and makes no route longer, and the change is not above zero.
  pub added_lost : s.link a b ≢ 1 → (line s a b).lost ≡ 0
  pub added_no_longer : s.link a b ≢ 1 → (u v : ℕ) → u < s.n → v < s.n → table_of (trial s a b) u v ≤ table_of s u v
  pub added_change : s.link a b ≢ 1 → (line s a b).change ≤ℤ pos 0
  -- Bounds: n passes, n³(n − 1) deliveries, n² pairs each that lose and gain a route, and a change of n³ either way.
  pub passes_most : (line s a b).passes ≤ s.n
  pub deliveries_most : (line s a b).deliveries ≤ s.n * s.n * s.n * (s.n - 1)
  pub lost_most : (line s a b).lost ≤ s.n * s.n
  pub gained_most : (line s a b).gained ≤ s.n * s.n
  pub change_most : nat_abs (line s a b).change ≤ s.n * s.n * s.n

-- Of every pair that is tried. 255 passes are enough for every n up to 255.
abbrev pub EveryLineRuns : Type 0
EveryLineRuns = (s : State) → Sound s → AtRest s → s.n ≤ 255 → (a b : ℕ) → tried s a b ≡ true → b < s.n → LineRuns s a b

-- Every number of a line fits 32 bits: with 40 nodes or fewer none is further from zero than this, also where s itself is not at rest.
pub record LineFits (l : Line) : Type 0 where
  pub low_most : l.low ≤ 39
  pub high_most : l.high ≤ 39
  pub passes_most : l.passes ≤ 40
  pub deliveries_most : l.deliveries ≤ 2496000
  pub lost_most : l.lost ≤ 1600
  pub gained_most : l.gained ≤ 1600
  pub change_most : nat_abs l.change ≤ 64000

abbrev pub EveryLineFits : Type 0
EveryLineFits = (s : State) → Sound s → s.n ≤ 40 → (a b : ℕ) → tried s a b ≡ true → b < s.n → LineFits (line s a b)

-- ---- one line, where no link has just one end up

-- d is a table of the true hop counts over the links of s.
abbrev pub HopCounts : State → (ℕ → ℕ → ℕ) → Type 0
HopCounts s d = (u v : ℕ) → u < s.n → v < s.n → HopCount s u v (d u v)

-- j says of every two nodes whether a walk over up links of s joins them.
pub record Joins (s : State) (j : ℕ → ℕ → Bool) : Type 0 where
  pub so : (u v d : ℕ) → u < s.n → v < s.n → Walk s u v d → j u v ≡ true
  pub only : (u v : ℕ) → u < s.n → v < s.n → j u v ≡ true → (d : ℕ) × Walk s u v d

-- How many ordered pairs are joined before and not after.
abbrev pub parted : ℕ → (ℕ → ℕ → Bool) → (ℕ → ℕ → Bool) → ℕ
parted n before after = over n (λ u v. if before u v && not (after u v) then 1 else 0)

-- Every pair with a route in s and in t has the same distance in both.
abbrev pub KeepDistance : State → State → Type 0
KeepDistance s t = (u v : ℕ) → u < s.n → v < s.n → table_of s u v < s.n → table_of t u v < s.n → table_of s u v ≡ table_of t u v

pub record LineTells (s : State) (a b : ℕ) : Type 0 where
  -- The trial has no such link either, and its run has settled.
  pub ends_agree : EndsAgree (turned s a b)
  pub settled : Settled (turned s a b) (trial s a b)
  -- The table before is of true hop counts, as the one after is;
  pub before_true : HopCounts s (table_of s)
  -- so lost is the number of ordered pairs joined before and not after, gained the reverse,
  pub lost_true : (before after : ℕ → ℕ → Bool) → Joins s before → Joins (turned s a b) after → (line s a b).lost ≡ parted s.n before after
  pub gained_true : (before after : ℕ → ℕ → Bool) → Joins s before → Joins (turned s a b) after → (line s a b).gained ≡ parted s.n after before
  -- and the change is that of the true hop counts, whoever counts them.
  pub change_true : (before after : ℕ → ℕ → ℕ) → HopCounts s before → HopCounts (turned s a b) after → (line s a b).change ≡ change s.n before after
  -- No line says nothing, so that each shows whether the link was up.
  pub away_shows : s.link a b ≡ 1 → (0 < (line s a b).lost) ⊎ (pos 0 <ℤ (line s a b).change)
  pub added_shows : s.link a b ≢ 1 → (0 < (line s a b).gained) ⊎ ((line s a b).change <ℤ pos 0)
  -- A link holds pairs together or shortens routes, and never both:
  pub lost_alone : (line s a b).lost ≢ 0 → (line s a b).change ≡ pos 0
  pub gained_alone : (line s a b).gained ≢ 0 → (line s a b).change ≡ pos 0
  -- where pairs lose or gain their route, all pairs with a route both times keep their distance.
  pub lost_keeps : (line s a b).lost ≢ 0 → KeepDistance s (trial s a b)
  pub gained_keeps : (line s a b).gained ≢ 0 → KeepDistance s (trial s a b)
  -- Where pairs lose their route the link is the only way between its ends; where none do, there is a way round.
  pub away_only_way : s.link a b ≡ 1 → (line s a b).lost ≢ 0 → (d : ℕ) → Walk (turned s a b) a b d → ⊥
  pub away_way_round : s.link a b ≡ 1 → (line s a b).lost ≡ 0 → (d : ℕ) × Walk (turned s a b) a b d
  -- Where pairs gain a route no way led between its ends; where none do, one did.
  pub added_apart : s.link a b ≢ 1 → (line s a b).gained ≢ 0 → (d : ℕ) → Walk s a b d → ⊥
  pub added_joined : s.link a b ≢ 1 → (line s a b).gained ≡ 0 → (d : ℕ) × Walk s a b d

-- With demand 3's premise, of every pair: it is tried then.
abbrev pub EveryLineTells : Type 0
EveryLineTells = (s : State) → Sound s → AtRest s → EndsAgree s → s.n ≤ 255 → (a b : ℕ) → a < b → b < s.n → LineTells s a b

-- ---- all lines

-- How many pairs that are tried stand before a, b: those of the nodes below a, and of a with nodes below b.
abbrev pub place_of : State → ℕ → ℕ → ℕ
place_of s a b = tried_below s a + tried_of s a b

-- The line of a, b stands among the lines of s behind as many as there are such pairs before it.
pub record Stands (s : State) (a b : ℕ) : Type 0 where
  pub before : List Line
  pub after : List Line
  pub whole : lines s ≡ before ++ (line s a b ∷ after)
  pub place : length before ≡ place_of s a b

pub record AllLines (s : State) : Type 0 where
  -- There are as many lines as pairs that are tried, at most n(n − 1)/2, and just so many where no link has just one end up:
  pub count : length (lines s) ≡ tried_below s s.n
  pub most : length (lines s) * 2 ≤ s.n * (s.n - 1)
  pub all : EndsAgree s → length (lines s) * 2 ≡ s.n * (s.n - 1)
  -- each such pair has its line in its place,
  pub stands : (a b : ℕ) → tried s a b ≡ true → b < s.n → Stands s a b
  -- and no other has one: whatever line stands somewhere is that of a pair that is tried.
  pub only : (before after : List Line) (l : Line) → lines s ≡ before ++ (l ∷ after) → (tried s l.low l.high ≡ true) × (l.high < s.n) × (l ≡ line s l.low l.high)

abbrev pub EveryPairHasItsLine : Type 0
EveryPairHasItsLine = (s : State) → AllLines s

-- ---- the call

-- Where it is done,
pub record WorthTells (s trial : List ℕ) (list : List ℤ) : Type 0 where
  -- every line runs and fits, and tells where no link has just one end up;
  pub runs : (a b : ℕ) → tried (read s) a b ≡ true → b < nodes s → LineRuns (read s) a b × LineFits (line (read s) a b)
  pub tells : EndsAgree (read s) → (a b : ℕ) → a < b → b < nodes s → LineTells (read s) a b
  -- its seven numbers stand in the list behind seven for each pair that is tried before it;
  pub stands : (a b : ℕ) → tried (read s) a b ≡ true → b < nodes s → take 7 (drop (7 * place_of (read s) a b) (worth s trial list).list) ≡ seven (line (read s) a b)
  -- what stands in the trial buffer is accepted by check.
  pub copy : Accepted (worth s trial list).trial

abbrev pub EveryWorthTells : Type 0
EveryWorthTells = (s trial : List ℕ) (list : List ℤ) → (worth s trial list).number ≡ 0 → WorthTells s trial list

-- No byte behind the state's form is looked at.
abbrev pub WorthTailUnread : Type 0
WorthTailUnread = (f r trial : List ℕ) (list : List ℤ) → size (nodes f) ≤ length f → worth (f ++ r) trial list ≡ worth f trial list
