-- Laws of R-5: the tests of its page tell what they say; which cells a notice changes; and link down by the end that is named first. Assumes nothing.
use mathlib.Core.Path.{◌≡◌, refl, sym, ◌∙◌}
use mathlib.Core.Logic.{◌≢◌}
use mathlib.Core.Bool.{cond, ◌&&◌}
use mathlib.Core.List.{[]}
use Prim.Native.Nat.{ℕ, ◌<◌}
use native.Mathlib.Decide.{ℕ_discrete}
use lib.Dec.{eqb}
use Rattle.hop_rule.specs.State.{State}
use Rattle.hop_rule.specs.Sound.{Linked, Sends}
use Rattle.hop_rule.specs.Notice.{one_ended, EndsAgree, ends_agree, lose, notice, missing, link_down}
use Rattle.hop_laws.proofs.Tests.{Tells, tells_as, tells_eq, tells_lt, tells_not, tells_pair, choose_so, choose_else}
use Rattle.hop_laws.proofs.Sound.{tells_up, tells_pairs}
use Rattle.hop_laws.proofs.Rule.{Both, both}

-- ---- links with one end up

pub tells_one_ended : (s : State) (a b : ℕ) → Tells (one_ended s a b) (s.link a b ≢ s.link b a)
tells_one_ended s a b = tells_not (tells_eq (s.link a b) (s.link b a))

pub agree_tells : (s : State) → Tells (ends_agree s) (EndsAgree s)
unfolding ends_agree
agree_tells s = tells_pairs s.n (λ a b. tells_as (λ f. equal f (ℕ_discrete (s.link a b) (s.link b a))) (λ e f. f e) (tells_not (tells_one_ended s a b)))
  where
    equal : {x y : ℕ} → (x ≢ y → ⊥) → Dec (x ≡ y) → x ≡ y
    equal f (yes e) = e
    equal f (no g) = absurd (f g)

-- Where it has neither both ends up nor one, both are down.
pub both_down : (s : State) (a b : ℕ) → (Sends s a b → ⊥) → (s.link a b ≢ s.link b a → ⊥) → (Linked s a b → ⊥) × (Linked s b a → ⊥)
both_down s a b f g = (λ e. g (λ i. f (e, sym i ∙ e)), λ e. g (λ i. f (i ∙ e, e)))

-- ---- what a notice by a of its link to b takes away

-- What is set at a's end is new there, and old elsewhere.
pub record One {A : Type 0} (a b x y : ℕ) (cell new old : A) : Type 0 where
  pub at : x ≡ a → y ≡ b → cell ≡ new
  pub other : (x ≡ a → y ≢ b) → cell ≡ old

one : {A : Type 0} (a b x y : ℕ) (new old : A) → One a b x y (cond (eqb x a && eqb y b) new old) new old
one a b x y new old = record {
  at = λ i j. choose_so (tells_pair a b x y) _ _ (i, j);
  other = λ f. choose_else (tells_pair a b x y) _ _ (λ p. f p.0 p.1);
}

module _ (s : State) (a b x y : ℕ) where
  pub lose_link : One a b x y ((lose s a b).link x y) 0 (s.link x y)
  unfolding lose
  lose_link = one a b x y 0 (s.link x y)

  pub lose_view : (v : ℕ) → One a b x y ((lose s a b).view x y v) s.n (s.view x y v)
  unfolding lose
  lose_view v = one a b x y s.n (s.view x y v)

  pub lose_queue : Both a b x y ((lose s a b).queue x y) [] (s.queue x y)
  unfolding lose
  lose_queue = both a b x y [] [] [] (s.queue x y) (λ i. refl) (λ i. refl)

-- ---- link down

module _ (s : State) (a b : ℕ) where
  pub missing_given : Linked s a b → missing s a b ≡ notice s a b
  unfolding missing
  missing_given e = choose_so (tells_up s a b) _ _ e

  pub missing_none : (Linked s a b → ⊥) → missing s a b ≡ s
  unfolding missing
  missing_none f = choose_else (tells_up s a b) _ _ f

  pub down_ascending : a < b → link_down s a b ≡ missing (missing s a b) b a
  unfolding link_down
  down_ascending l = choose_so (tells_lt a b) _ _ l

  pub down_descending : (a < b → ⊥) → link_down s a b ≡ missing (missing s b a) a b
  unfolding link_down
  down_descending f = choose_else (tells_lt a b) _ _ f
