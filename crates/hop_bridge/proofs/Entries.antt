-- A queue seen place by place, and a tidy queue: sending sets the place at which the destination waits, or joins the tail, where a tidy queue has room. Assumes nothing.
use mathlib.Core.Path.{◌≡◌, refl, sym, ap, subst, ◌∙◌}
use mathlib.Core.Logic.{inl, inr}
use mathlib.Core.Bool.{cond}
use mathlib.Core.List.{List, [], ◌∷◌, ◌++◌}
use Prim.Native.Nat.{ℕ, zero, suc, ◌+◌, ◌≤◌, ◌<◌}
use native.Mathlib.Decide.{ℕ_discrete}
use native.Mathlib.Omega.{arith}
use lib.Dec.{eqb, eqb-suc-zero, eqb-zero-suc, eqb-suc-suc}
use lib.ListN.{length, get_or, set, drop, length-drop, get_or-eq_default}
use lib.Seq.{get_or-set_same, get_or-set_other, get_or-drop}
use Rattle.hop_rule.specs.State.{Entry}
use Rattle.hop_rule.specs.Rule.{send}
use Rattle.hop_rule.specs.Stored.{destination_at, value_at}
use Rattle.hop_rule.specs.Sound.{Waits, Differ}
use Rattle.hop_laws.specs.Holds.{blank}
use Rattle.hop_laws.proofs.Tests.{tells_eq, choose_so, choose_else}
use Rattle.hop_laws.proofs.Queues.{send_differ, send_each, differ_most}
use Rattle.hop_laws.proofs.Read.{destination_at_get_or, value_at_get_or}
use Rattle.hop_bridge.specs.Carries.{Tidy}
use Rattle.hop_bridge.proofs.Choice.{cond_on}
use Rattle.hop_bridge.proofs.Rows.{Moved}

-- ---- places

-- What stands at a place waits, and what waits stands at a place.
place_waits : (q : List Entry) (p : ℕ) → p < length q → Waits (get_or q p blank).destination q
place_waits [] p l = absurd (omega arith)
place_waits (f ∷ q) zero l = inl refl
place_waits (f ∷ q) (suc p) l = inr (place_waits q p (omega arith))

pub waits_place : (v : ℕ) (q : List Entry) → Waits v q → (p : ℕ) × (p < length q) × ((get_or q p blank).destination ≡ v)
waits_place v [] m = absurd m
waits_place v (f ∷ q) (inl e) = (0, omega arith, sym e)
waits_place v (f ∷ q) (inr m) = let at = waits_place v q m in (suc at.0, omega (arith, at.1), at.2)

-- ---- sending

module _ (e : Entry) where
  pub send_set : (q : List Entry) (p : ℕ) → Differ q → p < length q → (get_or q p blank).destination ≡ e.destination → send e q ≡ set q p e
  unfolding send
  send_set [] p d l i = absurd (omega arith)
  send_set (f ∷ q) zero d l i = choose_so (tells_eq e.destination f.destination) _ _ (sym i)
  send_set (f ∷ q) (suc p) d l i =
      choose_else (tells_eq e.destination f.destination) _ _ (λ j. d.0 (subst (λ v. Waits v q) (i ∙ j) (place_waits q p (omega arith))))
      ∙ ap (λ k. f ∷ k) (send_set q p d.1 (omega arith) i)

  pub send_joins : (q : List Entry) → (Waits e.destination q → ⊥) → send e q ≡ q ++ e ∷ []
  unfolding send
  send_joins [] n = refl
  send_joins (f ∷ q) n = choose_else (tells_eq e.destination f.destination) _ _ (λ j. n (inl j)) ∙ ap (λ k. f ∷ k) (send_joins q (λ m. n (inr m)))

pub get_d_set : (q : List Entry) (p c : ℕ) (e : Entry) → p < length q → get_or (set q p e) c blank ≡ cond (eqb c p) e (get_or q c blank)
get_d_set q p c e l = go (ℕ_discrete c p)
  where
    go : Dec (c ≡ p) → get_or (set q p e) c blank ≡ cond (eqb c p) e (get_or q c blank)
    go (yes i) = rw i (get_or-set_same q p e blank l) ∙ sym (choose_so (tells_eq c p) e _ i)
    go (no i) = get_or-set_other q p c e blank i ∙ sym (choose_else (tells_eq c p) e _ i)

pub get_or_join : (q : List Entry) (c : ℕ) (e : Entry) → get_or (q ++ e ∷ []) c blank ≡ cond (eqb c (length q)) e (get_or q c blank)
get_or_join [] zero e = refl
get_or_join [] (suc c) e = rw (eqb-suc-zero c)
get_or_join (f ∷ q) zero e = rw (eqb-zero-suc (length q))
get_or_join (f ∷ q) (suc c) e = rw (eqb-suc-suc c (length q)) (get_or_join q c e)

-- An entry that is set at a place is set there in both rows.
module _ (q q' : List Entry) (p c : ℕ) (e : Entry) (is : get_or q' c blank ≡ cond (eqb c p) e (get_or q c blank)) where
  pub destination_at_set : cond (eqb c p) e.destination (destination_at q c) ≡ destination_at q' c
  destination_at_set = rw (destination_at_get_or q c, destination_at_get_or q' c, is) (cond_on (λ f. f.destination) (eqb c p) e.destination e (get_or q c blank) refl)

  pub value_at_set : cond (eqb c p) e.value (value_at q c) ≡ value_at q' c
  value_at_set = rw (value_at_get_or q c, value_at_get_or q' c, is) (cond_on (λ f. f.value) (eqb c p) e.value e (get_or q c blank) refl)

-- The rows of a queue without its first j entries, of which m stay.
row_moved : (at : List Entry → ℕ → ℕ) (part : Entry → ℕ) → ((q : List Entry) (p : ℕ) → at q p ≡ part (get_or q p blank)) → part blank ≡ 0
    → (q : List Entry) (j m : ℕ) → length q ≡ m + j → Moved j m (at q) (at (drop j q))
row_moved at part is none q j m e = record {
  moved = λ p l. is q (p + j) ∙ ap (λ i. part (get_or q i blank)) (let c : p + j ≡ j + p = omega arith in c) ∙ ap part (sym (get_or-drop j q p blank)) ∙ sym (is (drop j q) p);
  ended = λ p l. past (drop j q) p (omega (arith, length-drop j q));
  free = λ p l. past q p (omega arith);
}
  where
    past : (q : List Entry) (p : ℕ) → length q ≤ p → at q p ≡ 0
    past q p l = is q p ∙ ap part (get_or-eq_default q blank l) ∙ none

pub destinations_moved : (q : List Entry) (j m : ℕ) → length q ≡ m + j → Moved j m (destination_at q) (destination_at (drop j q))
destinations_moved = row_moved destination_at (λ e. e.destination) destination_at_get_or refl

pub values_moved : (q : List Entry) (j m : ℕ) → length q ≡ m + j → Moved j m (value_at q) (value_at (drop j q))
values_moved = row_moved value_at (λ e. e.value) value_at_get_or refl

-- ---- a tidy queue

pub tidy_drop : {n : ℕ} (j : ℕ) (q : List Entry) → Tidy n q → Tidy n (drop j q)
tidy_drop zero q y = y
tidy_drop (suc j) [] y = y
tidy_drop (suc j) (e ∷ q) y = tidy_drop j q (record { differ = y.differ.1; below = y.below.1 })

module _ {n : ℕ} {q : List Entry} (y : Tidy n q) where
  pub tidy_short : length q ≤ n
  tidy_short = differ_most n q y.differ y.below

  -- There is room for a destination that does not wait.
  pub tidy_room : (e : Entry) → e.destination < n → (Waits e.destination q → ⊥) → length q < n
  tidy_room e l f = differ_most n (e ∷ q) (f, y.differ) (l, y.below)

  pub tidy_send : (e : Entry) → e.destination < n → Tidy n (send e q)
  tidy_send e l = record { differ = send_differ e q y.differ; below = send_each e (λ f. f.destination < n) (λ f. f.destination < n) q l (λ f i p. p) y.differ y.below }
