-- What it says that a buffer's state was checked: its routes are printed. Assumes nothing.
use Rattle.std.specs.Prelude.{Result, Ok, Err}
use mathlib.Core.Path.{◌≡◌, sym, ap, ◌∙◌}
use mathlib.Core.Logic.{◌≢◌}
use mathlib.Core.List.{List, []}
use Prim.Native.Nat.{ℕ}
use borrow.Author.Tests.{eq-eqb, ne_eqb}
use Rattle.hop_rule.specs.declared.Refused.{Refused}
use Rattle.hop_rule.specs.Stored.{nodes, read_as, read}
use Rattle.hop_rule.specs.Calls.{check, judge, refusals, on_state, outcome}
use Rattle.hop_laws.proofs.Calls.{outcome_number}
use Rattle.hop_cells.specs.Cells.{Room}
use Rattle.hop_judge.specs.Verdict.{Judges}
use Rattle.hop_judge.proofs.Known.{room_known}
use Rattle.hop_text.proofs.Writing.{puts_nothing}
use Rattle.hop_judge.proofs.Judging.{gone, stopped}
use Rattle.hop_replay.specs.Replay.{route_lines, routes}

module _ (s : List ℕ) where
  pub routes_some : (outcome check s []).number ≡ 0 → routes s ≡ route_lines (read s)
  unfolding routes
  routes_some z = rw (eq-eqb _ _ z)

  pub routes_none : (outcome check s []).number ≢ 0 → routes s ≡ []
  unfolding routes
  routes_none f = rw (ne_eqb _ _ f)

  -- The same by what the code judged.
  module _ {j : Result ℕ Refused} (e : Judges (judge (on_state s [])) (nodes s) j) where
    pub routes_go : {n : ℕ} → j ≡ Ok n → routes s ≡ route_lines (read_as n s)
    unfolding refusals
    routes_go g =
        let (none, claim) = gone _ _ e g in
        routes_some (outcome_number check s [] ∙ none) ∙ ap (λ m. route_lines (read_as m s)) (sym claim)

    -- Its cells can be read.
    pub room_now : {n : ℕ} → j ≡ Ok n → Room n s
    room_now g = room_known s [] e g

    pub routes_refused : {r : Refused} → j ≡ Err r → routes s ≡ []
    unfolding refusals
    routes_refused f = let (same, some) = stopped _ _ e f in routes_none (λ z. some (sym (outcome_number check s []) ∙ z))

-- With these the check finds that the routes are printed, or that there are none.
pub ruleset printing = (routes_go, routes_refused, puts_nothing)
