-- A loop that writes the places 0, 1, .. m − 1 of a row: filling it, and moving it up. Assumes nothing.
use mathlib.Core.Path.{◌≡◌, refl, sym, ap, ◌∙◌}
use mathlib.Core.Logic.{◌⊎◌, inl, inr}
use mathlib.Core.Bool.{cond, ◌||◌}
use mathlib.Core.List.{List}
use Prim.Native.Nat.{ℕ, zero, suc, ◌+◌, ◌≤◌, ◌<◌}
use native.Mathlib.Nat.{le_refl, add-zero}
use native.Mathlib.Decide.{ℕ_discrete, dec_lt}
use native.Mathlib.Omega.{arith}
use lib.Dec.{eqb, ltb}
use borrow.Author.Tests.{eqb-true}
use Rattle.hop_rule.specs.declared.Table.{Table}
use Rattle.hop_rule.specs.Words.{loop}
use Rattle.hop_laws.specs.Holds.{Deep}
use Rattle.hop_laws.proofs.Tests.{tells_eq, tells_lt, tells_or, tells_as, tells_same, choose_so, choose_else}
use Rattle.hop_cells.specs.Cells.{get3, put3, fill}
use Rattle.hop_queues.specs.Queues.{shift, clear, move_up}
use Rattle.hop_bridge.specs.Carries.{Flats, Deeps, Filled}
use Rattle.hop_bridge.proofs.Choice.{cond_either}
use Rattle.hop_bridge.proofs.Filled.{row_set, place_set, filled_put3, row_as, row_get}

-- What holds at the start and is carried from each turn to the next holds at the end.
pub loop_reaches : {A : Type 0} (P : ℕ → A → Type 0) (m : ℕ) (f : ℕ → A → A) (a : A) → P 0 a → ((i : ℕ) (x : A) → i < m → P i x → P (suc i) (f i x)) → P m (loop m f a)
unfolding loop
loop_reaches P zero f a p h = p
loop_reaches P (suc m) f a p h = h m (loop m f a) (le_refl _) (loop_reaches P m f a p (λ i x l. h i x (omega arith)))

-- One more number is below.
ltb_more : (a k : ℕ) → (ltb a k || eqb a k) ≡ ltb a (suc k)
ltb_more a k = tells_same (tells_or (tells_lt a k) (tells_eq a k)) (tells_as apart joined (tells_lt a (suc k)))
  where
    apart : a < suc k → (a < k) ⊎ (a ≡ k)
    apart l = go (ℕ_discrete a k)
      where
        go : Dec (a ≡ k) → (a < k) ⊎ (a ≡ k)
        go (yes e) = inr e
        go (no f) = inl (omega arith)

    joined : (a < k) ⊎ (a ≡ k) → a < suc k
    joined (inl l) = omega arith
    joined (inr e) = omega arith

-- The places below m are h's, and the others f's.
abbrev pub upto : {A : Type 0} → ℕ → (ℕ → A) → (ℕ → A) → ℕ → A
upto m h f c = cond (ltb c m) (h c) (f c)

module _ {A : Type 0} (h f : ℕ → A) where
  pub upto_none : (c : ℕ) → upto 0 h f c ≡ f c
  upto_none c = choose_else (tells_lt c 0) (h c) (f c) (λ l. omega arith)

  pub upto_more : (p c : ℕ) → cond (eqb c p) (h p) (upto p h f c) ≡ upto (suc p) h f c
  upto_more p c = cond_either (ltb c p) (eqb c p) (h c) (h c) (h p) (f c) (λ i. refl) (λ i. ap h (sym (eqb-true c p i))) ∙ ap (λ b. cond b (h c) (f c)) (ltb_more c p)

  pub upto_all : (m c : ℕ) → c < m → upto m h f c ≡ h c
  upto_all m c l = choose_so (tells_lt c m) (h c) (f c) l

-- g is f without its first j places: m stay, and behind them there is nothing.
pub record Moved (j m : ℕ) (f g : ℕ → ℕ) : Type 0 where
  pub moved : (p : ℕ) → p < m → f (p + j) ≡ g p
  pub ended : (p : ℕ) → m ≤ p → g p ≡ 0
  pub free : (p : ℕ) → m + j ≤ p → f p ≡ 0

module _ {n : ℕ} {r s : List ℕ} {F : Flats} (D : Deeps) (k : Table) (u w : ℕ) (f : ℕ → ℕ) (given : Filled n r s F (row_set D k u w f)) (d : Deep k) (lu : u < n) (lw : w < n) where
  row_loop : (m : ℕ) (h : ℕ → ℕ) (turn : ℕ → List ℕ → List ℕ) → m ≤ n
      → ((p : ℕ) (t : List ℕ) → p < m → Filled n r t F (row_set D k u w (upto p h f)) → turn p t ≡ put3 n k u w p (h p) t)
      → Filled n r (loop m turn s) F (row_set D k u w (upto m h f))
  row_loop m h turn l e =
      loop_reaches (λ p t. Filled n r t F (row_set D k u w (upto p h f))) m turn s
      (row_as D k u w f (upto 0 h f) given (λ c lc. sym (upto_none h f c)))
      (λ p t lp g. rw (e p t lp g) (row_as D k u w (place_set p (h p) (upto p h f)) (upto (suc p) h f) (filled_put3 D k u w (upto p h f) g d lu lw p (h p) (omega arith)) (λ c lc. upto_more h f p c)))

  pub fill_row : (x : ℕ) → Filled n r (fill n k u w x s) F (row_set D k u w (λ c. x))
  unfolding fill
  fill_row x = row_as D k u w (upto n (λ c. x) f) (λ c. x) (row_loop n (λ c. x) (λ c. put3 n k u w c x) (le_refl n) (λ p t l g. refl)) (λ c lc. upto_all (λ c. x) f n c lc)

  pub move_up_row : (j m : ℕ) (g : ℕ → ℕ) → m + j ≤ n → Moved j m f g → Filled n r (move_up n k u w j m s) F (row_set D k u w g)
  unfolding move_up shift clear
  move_up_row j m g l v =
      row_as D k u w (upto (m + j) g f) g
      (loop_reaches (λ i t. Filled n r t F (row_set D k u w (upto (m + i) g f))) j (λ p. put3 n k u w (m + p) 0) _ (rw (add-zero m) shifted)
      (λ i t li h. row_as D k u w (place_set (m + i) 0 (upto (m + i) g f)) (upto (m + suc i) g f) (filled_put3 D k u w (upto (m + i) g f) h d lu lw (m + i) 0 (omega arith)) (λ c lc. freed i c)))
      (λ c lc. all c (dec_lt c (m + j)))
    where
      next : (p : ℕ) (t : List ℕ) → p < m → Filled n r t F (row_set D k u w (upto p g f)) → get3 n k u w (p + j) t ≡ g p
      next p t lp h = row_get D k u w (upto p g f) h d lu lw (p + j) (omega arith) ∙ choose_else (tells_lt (p + j) p) (g (p + j)) (f (p + j)) (λ x. omega arith) ∙ v.moved p lp

      shifted : Filled n r (loop m (shift n k u w j) s) F (row_set D k u w (upto m g f))
      shifted = row_loop m g (shift n k u w j) (omega arith) (λ p t lp h. ap (λ x. put3 n k u w p x t) (next p t lp h))

      freed : (i c : ℕ) → place_set (m + i) 0 (upto (m + i) g f) c ≡ upto (m + suc i) g f c
      freed i c =
          ap (λ x. cond (eqb c (m + i)) x (upto (m + i) g f c)) (sym (v.ended (m + i) (omega arith)))
          ∙ upto_more g f (m + i) c
          ∙ (let e : suc (m + i) ≡ m + suc i = omega arith in ap (λ x. upto x g f c) e)

      all : (c : ℕ) → Dec (c < m + j) → upto (m + j) g f c ≡ g c
      all c (yes b) = upto_all g f (m + j) c b
      all c (no b) = choose_else (tells_lt c (m + j)) (g c) (f c) b ∙ v.free c (omega arith) ∙ sym (v.ended c (omega arith))
