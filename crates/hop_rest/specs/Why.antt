-- Why the night desk may believe R-3's reasons: of every state that is sound and at rest and has no link with just one end up, a path is a shortest one, and a set holds what is joined to the node and nothing else; and what the links alone show to whoever checks a reason. An up link is one with both ends up. Uses Walks, Rest and hop_rule's Sound, Notice and Why.
use Rattle.std.specs.Prelude.{◌≡◌, ◌⊎◌, List, [], ◌∷◌, ◌++◌, ℕ, suc, ◌≤◌, ◌<◌, length, take}
use Rattle.hop_rule.specs.State.{State}
use Rattle.hop_rule.specs.Route.{route}
use Rattle.hop_rule.specs.Sound.{Sends, Sound}
use Rattle.hop_rule.specs.Notice.{EndsAgree}
use Rattle.hop_rule.specs.Stored.{size, nodes, read}
use Rattle.hop_rule.specs.Calls.{judge}
use Rattle.hop_rule.specs.Why.{Reason, path, set, reason, shown, before_list, Explained, why}
use Rattle.hop_rest.specs.Walks.{Walk}
use Rattle.hop_rest.specs.Rest.{AtRest}

-- ---- a path

-- l goes from u to v, and each node of it is joined to the next by an up link.
pub data Chain (s : State) : ℕ → ℕ → List ℕ → Type 0 where
  ends : {v : ℕ} → Chain s v v (v ∷ [])
  goes : {u w v : ℕ} {l : List ℕ} → u < s.n → w < s.n → Sends s u w → Chain s w v l → Chain s u v (u ∷ l)

-- Each node's own distance to v is the number of nodes behind it: one less at each step, and 0 at v.
abbrev pub Falls : State → ℕ → List ℕ → Type 0
Falls s v [] = Unit {0}
Falls s v (x ∷ l) = ((route s x v).distance ≡ length l) × Falls s v l

-- So its length is the distance and one; and no walk over up links is shorter.
pub record IsPath (s : State) (u v : ℕ) (l : List ℕ) : Type 0 where
  pub chain : Chain s u v l
  pub falls : Falls s v l
  pub long : length l ≡ suc (route s u v).distance
  pub shortest : (d : ℕ) → Walk s u v d → length l ≤ suc d

-- ---- a set

-- x stands in l.
abbrev pub In : ℕ → List ℕ → Type 0
In x [] = ⊥
In x (y ∷ l) = (x ≡ y) ⊎ In x l

-- Each number is below all that stand behind it.
abbrev pub Ascends : List ℕ → Type 0
Ascends [] = Unit {0}
Ascends (y ∷ l) = ((x : ℕ) → In x l → y < x) × Ascends l

-- No up link leaves l.
abbrev pub Closed : State → List ℕ → Type 0
Closed s l = (x y : ℕ) → In x l → y < s.n → Sends s x y → In y l

-- It ascends and holds exactly the nodes that a walk joins to u, u among them and v not, so fewer than n; and no up link leaves it.
pub record IsSet (s : State) (u v : ℕ) (l : List ℕ) : Type 0 where
  pub ascends : Ascends l
  pub below : (x : ℕ) → In x l → x < s.n
  pub reached : (x : ℕ) → In x l → (d : ℕ) × Walk s u x d
  pub holds : (x d : ℕ) → Walk s u x d → In x l
  pub itself : In u l
  pub outside : In v l → ⊥
  pub fewer : length l < s.n
  pub closed : Closed s l

-- ---- the reason

abbrev pub Shows : State → ℕ → ℕ → Reason → Type 0
Shows s u v (path l) = IsPath s u v l
Shows s u v (set l) = IsSet s u v l

pub record Explains (s : State) (u v : ℕ) : Type 0 where
  pub shows : Shows s u v (reason s u v)
  -- A path shows that a walk leads there, and a set that none does; and where one leads it is a path, where none does a set;
  pub routed : (d : ℕ) → Walk s u v d → (l : List ℕ) × (reason s u v ≡ path l)
  pub parted : ((d : ℕ) → Walk s u v d → ⊥) → (l : List ℕ) × (reason s u v ≡ set l)
  -- and n bytes hold it.
  pub most : length (shown (reason s u v)) ≤ s.n

-- With demand 3's premise.
abbrev pub EveryReasonShows : Type 0
EveryReasonShows = (s : State) → Sound s → AtRest s → EndsAgree s → (u v : ℕ) → u < s.n → v < s.n → Explains s u v

-- Where it is a set, it is one the other way round too, and the two have no node in common.
abbrev pub SidesApart : Type 0
SidesApart =
    (s : State) → Sound s → AtRest s → EndsAgree s → (u v : ℕ) → u < s.n → v < s.n
    → (l : List ℕ) → reason s u v ≡ set l
    → (m : List ℕ) × (reason s v u ≡ set m) × ((x : ℕ) → In x l → In x m → ⊥)

-- ---- what the links alone show, of any state, sound or not

-- d nodes and one that lead from u to v are a walk of d hops;
abbrev pub PathsAreWalks : Type 0
PathsAreWalks = (s : State) (u v d : ℕ) (l : List ℕ) → Chain s u v l → length l ≡ suc d → Walk s u v d

-- and no walk leads out of a set that no up link leaves.
abbrev pub ClosedSetsPart : Type 0
ClosedSetsPart = (s : State) (l : List ℕ) → Closed s l → (u v : ℕ) → In u l → (In v l → ⊥) → (d : ℕ) → Walk s u v d → ⊥

-- ---- the call

-- Its answers are a kind and k, and the first k bytes of the list are as P says.
abbrev pub Given : Explained → ℕ → (List ℕ → Type 0) → Type 0
Given e kind P = (k : ℕ) × (e.answers ≡ kind ∷ k ∷ []) × (length (take k e.list) ≡ k) × P (take k e.list)

-- Where it is done no link has just one end up, its reason explains, and what it hands over is a path, with 1, or a set, with 2.
pub record WhyTells (u v : ℕ) (s list : List ℕ) : Type 0 where
  pub ends_agree : EndsAgree (read s)
  pub explains : Explains (read s) u v
  pub given : Given (why u v s list) 1 (IsPath (read s) u v) ⊎ Given (why u v s list) 2 (IsSet (read s) u v)

abbrev pub EveryWhyTells : Type 0
EveryWhyTells = (u v : ℕ) (s list : List ℕ) → (why u v s list).number ≡ 0 → WhyTells u v s list

-- A list of n bytes is never too short: the refusals before that one decide.
abbrev pub ListOfNFits : Type 0
ListOfNFits = (u v : ℕ) (s list : List ℕ) → nodes s ≤ length list → (why u v s list).number ≡ judge (before_list u v s)

-- No byte behind the state's form is looked at.
abbrev pub WhyTailUnread : Type 0
WhyTailUnread = (u v : ℕ) (f r list : List ℕ) → size (nodes f) ≤ length f → why u v (f ++ r) list ≡ why u v f list
