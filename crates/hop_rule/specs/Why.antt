-- 02, R-3, 'Tell the night desk why': the reason why a node reaches a destination in so many hops or not at all, as bytes, and the call. Uses Words, State, Route, Stored, Records and Calls.
use Rattle.std.specs.Prelude.{List, [], ◌∷◌, ◌++◌, ℕ, zero, suc, eqb, length, if◌then◌else◌}
use Rattle.hop_rule.specs.Words.{those}
use Rattle.hop_rule.specs.State.{State}
use Rattle.hop_rule.specs.Route.{route, routed}
use Rattle.hop_rule.specs.Stored.{read}
use Rattle.hop_rule.specs.Records.{written}
use Rattle.hop_rule.specs.Calls.{Refusal, judge, on_state, no_node, not_at_rest, some_one_ended, short}

-- ---- the reason

-- The path along the downstreams from u to v, whose remaining hop count falls by one at each step.
unfoldable pub along : State → ℕ → ℕ → ℕ → List ℕ
along s u v zero = u ∷ []
along s u v (suc hops) = u ∷ along s (route s u v).downstream v hops

-- The set of instances joined to u, u included, ascending.
unfoldable pub joined_to : State → ℕ → List ℕ
joined_to s u = those s.n (λ v. routed s.n (route s u v).distance)

-- Where there is a route it is the path, and where there is none the set.
pub data Reason : Type 0 where
  path : List ℕ → Reason
  set : List ℕ → Reason

unfoldable pub reason : State → ℕ → ℕ → Reason
reason s u v = let hops = (route s u v).distance in if routed s.n hops then path (along s u v hops) else set (joined_to s u)

-- Which of them it is, as a number: 1 a path, 2 a set. And its list.
unfoldable pub kind : Reason → ℕ
kind (path l) = 1
kind (set l) = 2

unfoldable pub shown : Reason → List ℕ
shown (path l) = l
shown (set l) = l

-- ---- the call, on a buffer s that holds the state and a list

-- 4 for either number, 12 as in R-1, and by R-5 13 if any link has just one end up,
abbrev pub before_list : ℕ → ℕ → List ℕ → List Refusal
before_list u v s = on_state s (no_node s u ∷ no_node s v ∷ not_at_rest s ∷ some_one_ended s ∷ [])

-- then 2 if the list does not fit.
unfoldable pub why_refusals : ℕ → ℕ → List ℕ → List ℕ → List Refusal
why_refusals u v s list = before_list u v s ++ (short list (length (shown (reason (read s) u v))) ∷ [])

-- What it gives: its number, which reason it is and how many bytes it has (nothing where it is refused), and the list as it leaves it. The state's own bytes stay as they are.
pub record Explained : Type 0 where
  pub number : ℕ
  pub answers : List ℕ
  pub list : List ℕ

-- The list begins with the reason; what stands behind it stays.
unfoldable pub why_done : ℕ → ℕ → List ℕ → List ℕ → Explained
why_done u v s list =
    let given = reason (read s) u v in
    record { number = 0; answers = kind given ∷ length (shown given) ∷ []; list = written (shown given) list }

unfoldable pub why : ℕ → ℕ → List ℕ → List ℕ → Explained
why u v s list =
    let r = judge (why_refusals u v s list) in
    let done = why_done u v s list in
    if eqb r 0 then done else record { number = r; answers = []; list = list }
