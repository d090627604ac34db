-- Laws of R-3's reasons and of its call: which reason is given, how long it is, and that the call is done or refused. Assumes nothing.
use mathlib.Core.Path.{◌≡◌, refl, ap}
use mathlib.Core.Logic.{◌≢◌}
use mathlib.Core.List.{List, []}
use Prim.Native.Nat.{ℕ, zero, suc, ◌≤◌, ◌<◌}
use native.Mathlib.Omega.{arith}
use lib.ListN.{length}
use Rattle.hop_rule.specs.State.{State}
use Rattle.hop_rule.specs.Route.{routed}
use Rattle.hop_rule.specs.Calls.{judge}
use Rattle.hop_rule.specs.Why.{along, joined_to, path, set, reason, why_refusals, Explained, why_done, why}
use Rattle.hop_laws.proofs.Tests.{tells_eq, tells_lt, choose_so, choose_else}
use Rattle.hop_laws.proofs.Words.{those_most}
use Rattle.hop_laws.proofs.Calls.{judged_number}

-- ---- the reason

module _ (s : State) where
  pub length_along : (u v h : ℕ) → length (along s u v h) ≡ suc h
  unfolding along
  length_along u v zero = refl
  length_along u v (suc h) = ap suc (length_along (s.downstream u v) v h)

  pub length_joined_to : (u : ℕ) → length (joined_to s u) ≤ s.n
  unfolding joined_to
  length_joined_to u = those_most (λ v. routed s.n (s.distance u v)) s.n

  pub reason_path : (u v : ℕ) → s.distance u v < s.n → reason s u v ≡ path (along s u v (s.distance u v))
  unfolding reason
  reason_path u v l = choose_so (tells_lt (s.distance u v) s.n) _ _ l

  pub reason_set : (u v : ℕ) → s.n ≤ s.distance u v → reason s u v ≡ set (joined_to s u)
  unfolding reason
  reason_set u v l = choose_else (tells_lt (s.distance u v) s.n) _ _ (λ k. omega arith)

-- ---- the call, done or refused

module _ (u v : ℕ) (s list : List ℕ) where
  pub why_is_done : judge (why_refusals u v s list) ≡ 0 → why u v s list ≡ why_done u v s list
  unfolding why
  why_is_done z = choose_so (tells_eq (judge (why_refusals u v s list)) 0) _ _ z

  pub why_refused : judge (why_refusals u v s list) ≢ 0 → why u v s list ≡ record { number = judge (why_refusals u v s list); answers = []; list = list }
  unfolding why
  why_refused f = choose_else (tells_eq (judge (why_refusals u v s list)) 0) _ _ f

  pub why_number : (why u v s list).number ≡ judge (why_refusals u v s list)
  unfolding why why_done
  why_number = judged_number (why_refusals u v s list) (λ (e : Explained). e.number) _ _ refl refl
