-- What the path writer counts on, and what the last step of the call does with a reason. A buyer needs none of it.
use Rattle.std.specs.Prelude.{◌≡◌, List, [], ◌∷◌, ℕ, zero, suc, ◌<◌, ltb, length, Result, if◌then◌else◌}
use Rattle.hop_rule.specs.declared.Refused.{Refused}
use Rattle.hop_rule.specs.State.{State}
use Rattle.hop_rule.specs.Records.{written}
use Rattle.hop_rule.specs.Why.{Reason, kind, shown, Explained}
use Rattle.hop_why.specs.declared.Reason as written_reason
use Rattle.hop_why.specs.Answers.{explained}

-- Each node of the path from u towards v, so many hops on, is below n.
unfoldable pub Stays : State → ℕ → ℕ → ℕ → Type 0
Stays s u v zero = u < s.n
Stays s u v (suc hops) = (u < s.n) × Stays s (s.downstream u v) v hops

-- A reason is written to a list that holds it, and otherwise refused with 2.
unfoldable pub handed : Reason → List ℕ → Explained
handed r list =
    let done : Explained = record { number = 0; answers = kind r ∷ length (shown r) ∷ []; list = written (shown r) list } in
    if ltb (length list) (length (shown r)) then record { number = 2; answers = []; list = list } else done

abbrev pub Hands : Reason → List ℕ → Result written_reason.Reason Refused → List ℕ → Type 0
Hands r list a left = explained a left ≡ handed r list
