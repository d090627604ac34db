-- What a chain over the numbers 0, 1, .. n − 1 comes to, in the words of the definitions. Assumes nothing.
use Rattle.std.specs.Prelude.{if◌then◌else◌}
use mathlib.Core.Path.{◌≡◌, refl, sym, ap, ap₂, ◌∙◌}
use mathlib.Core.Bool.{Bool, true, false, cond, ◌&&◌}
use mathlib.Core.List.{List, [], ◌∷◌, ◌++◌, map, map-id}
use Prim.Native.Nat.{ℕ, zero, suc, ◌+◌, ◌*◌, ◌<◌, ◌≤◌}
use native.Mathlib.Numerals.{add-one}
use native.Mathlib.Omega.{arith}
use denote.Param.Members.{Mut}
use denote.Ref.{Bor}
use lib.ListN.{length, length-append}
use Rattle.std.specs.declared.option.Option.{Option}
use Rattle.std.specs.declared.option.Option.TheVariants.{None, Some}
use Rattle.std.specs.declared.iter.Filter.{Filter}
use Rattle.std.specs.declared.iter.Map.{Map}
use Rattle.std.specs.declared.ops.Range.{Range}
use Rattle.std.specs.Prelude.{min}
use Rattle.std.specs.Bool.{⊤}
use Rattle.std.specs.Fn.{Called, CalledAt}
use Rattle.std.specs.Iterator.{Drains, YieldsThen}
use Rattle.std.specs.Iterator.Adapters.{map_source, map_callee, filter_source, filter_callee, filter_steps}
use Rattle.std.specs.Iterator.Runs.{EachRunFrom}
use Rattle.std.specs.List.{list_all, filter, fold, FoldsTo, range_with_len, sum_by}
use Rattle.std.specs.Option.{MatchOption}
use Rattle.std.proofs.Math.Nat.{min-eq_left, min-le_right}
use Rattle.std.proofs.iter.Yields.{nat_range_steps}
use Rattle.std.proofs.lemmas.Iterator.{first_from_Range, YieldsList, YieldsList-from_range, YieldsList-from_map, maps}
use Rattle.std.proofs.lemmas.Iterator.Consumers.{YieldsList-from_filter, sum_by_from_yields_List, fits_by_from_yields_list, count_from_yields_List}
use Rattle.std.proofs.lemmas.Iterator.Search.{all_from_yields_List}
use Rattle.std.proofs.lemmas.List.Folds.{list_all-append}
use Rattle.std.proofs.lemmas.List.FromFn.{map-range_with_len_more, sum_by-map-range_with_len_more, filter_of_map_range_with_len_more}
use Rattle.hop_rule.specs.Words.{sum, every, first}
use Rattle.hop_laws.proofs.Words.{sum_none, sum_more, sum_most, first_is, first_none}

-- The library's sum of a list, over a range.
ranged : (n : ℕ) (f : ℕ → ℕ) → sum_by f (range_with_len 0 n) ≡ sum n f
ranged zero f = sym (sum_none f)
ranged (suc n) f =
    ap (sum_by f) (sym (map-id (range_with_len 0 (suc n))) ∙ ap (λ k. map (λ x. x) (range_with_len 0 k)) (sym (add-one n)))
    ∙ sum_by-map-range_with_len_more f (λ x. x) 0 n n (omega arith)
    ∙ ap (λ xs. sum_by f xs + f n) (map-id (range_with_len 0 n))
    ∙ ap (λ k. k + f n) (ranged n f)
    ∙ sym (sum_more n f)

-- How many of a range pass a test.
passing : (n : ℕ) (p : ℕ → Bool) → length (filter p (range_with_len 0 n)) ≡ sum n (λ i. if p i then 1 else 0)
passing zero p = sym (sum_none _)
passing (suc n) p =
    ap (λ xs. length (filter p xs)) (sym (map-id (range_with_len 0 (suc n))) ∙ ap (λ k. map (λ x. x) (range_with_len 0 k)) (sym (add-one n)))
    ∙ ap length (filter_of_map_range_with_len_more p (λ x. x) 0 n n (omega arith))
    ∙ length-append (filter p (map (λ x. x) (range_with_len 0 n))) (cond (p n) (n ∷ []) [])
    ∙ ap₂ (λ a b. a + b) (ap (λ xs. length (filter p xs)) (map-id (range_with_len 0 n)) ∙ passing n p) (one (p n))
    ∙ sym (sum_more n (λ i. if p i then 1 else 0))
  where
    one : (b : Bool) → length (cond b (n ∷ []) []) ≡ cond b 1 0
    one true = refl
    one false = refl

pub passing_most : (n : ℕ) (p : ℕ → Bool) → sum n (λ i. if p i then 1 else 0) ≤ n
passing_most n p = omega (arith, sum_most n 1 (λ i. if p i then 1 else 0) (λ i l. one (p i)))
  where
    one : (b : Bool) → cond b 1 0 ≤ 1
    one true = omega arith
    one false = omega arith

-- `(0..n).filter(p).count()`, where each call of the closure gives p.
pub counted : {F : Type 0} (g : Mut F (Bor ℕ × Unit {0}) Bool) (n : ℕ) (p : ℕ → Bool) {s : Filter (Range ℕ) F} {k : F}
    → filter_source s ≡ record { start = 0; end = n }
    → filter_callee s ≡ k
    → ((x : ℕ) (b : Bool) (q : F) → CalledAt g k x b q → (q ≡ k) × (b ≡ p x))
    → {r : ℕ}
    → ((xs : List ℕ) × Drains (filter_steps nat_range_steps g) s xs × (r ≡ length xs))
    → r ≡ sum n (λ i. if p i then 1 else 0)
counted g n p {s} source callee calls {r} ran =
    count_from_yields_List s r ran (YieldsList-from_filter g p (YieldsList-from_range 0 n n source (omega arith)) callee calls) ∙ passing n p

-- Whether all of a range pass a test.
covered : (n : ℕ) (p : ℕ → Bool) → list_all p (range_with_len 0 n) ≡ every n p
unfolding every
covered zero p = refl
covered (suc n) p =
    ap (list_all p) (sym (map-id (range_with_len 0 (suc n))) ∙ ap (λ k. map (λ x. x) (range_with_len 0 k)) (sym (add-one n)) ∙ map-range_with_len_more (λ x. x) 0 n n (omega arith) ∙ ap (λ xs. xs ++ n ∷ []) (map-id (range_with_len 0 n)))
    ∙ list_all-append p (range_with_len 0 n) (n ∷ [])
    ∙ ap₂ (λ a b. a && b) (covered n p) (last (p n))
  where
    last : (b : Bool) → b && true ≡ b
    last true = refl
    last false = refl

-- `(0..n).all(p)`, where each call of the closure gives p.
pub all_passed : {F : Type 0} (g : Mut F (ℕ × Unit {0}) Bool) (n : ℕ) (p : ℕ → Bool) (u : Range ℕ) (k : F) (r : Bool)
    → ((xs : List ℕ) × (o : Option ℕ) × (j : F) × YieldsThen nat_range_steps (record { start = 0; end = n }) xs o u × FoldsTo (λ q x t. Called g q (x, tt) true t) k xs j × MatchOption o (r ≡ true) (λ x. (r ≡ false) × ((h : F) × Called g j (x, tt) false h)))
    → ((x : ℕ) (b : Bool) (q : F) → Called g k (x, tt) b q → (q ≡ k) × (b ≡ p x))
    → r ≡ every n p
all_passed g n p u k r ran calls = all_from_yields_List p u k r ran (YieldsList-from_range 0 n n refl (omega arith)) calls ∙ covered n p

-- `(0..n).find(p)`, where each call of the closure gives p.
pub found : {F : Type 0} (g : Mut F (Bor ℕ × Unit {0}) Bool) (n : ℕ) (p : ℕ → Bool) (u : Range ℕ) (k : F) (r : Option ℕ)
    → ((xs : List ℕ) × (j : F) × YieldsThen nat_range_steps (record { start = 0; end = n }) xs r u × FoldsTo (λ q x t. CalledAt g q x false t) k xs j × MatchOption r ⊤ (λ x. (h : F) × CalledAt g j x true h))
    → ((x : ℕ) (b : Bool) (q : F) → CalledAt g k x b q → (q ≡ k) × (b ≡ p x))
    → MatchOption r (first n p ≡ n) (λ i. (i < n) × (first n p ≡ i))
found g n p u k r ran calls = go r (first_from_Range (record { start = 0; end = n }) u k r (λ x. p x ≡ true) (λ x. p x ≡ false) ran (λ x q c. sym (calls x true q c).1) (λ x q c. let h = calls x false q c in (h.0, sym h.1)))
  where
    go : (o : Option ℕ) → MatchOption o ((j : ℕ) → 0 ≤ j → j < n → p j ≡ false) (λ i. (0 ≤ i) × (i < n) × (p i ≡ true) × ((j : ℕ) → 0 ≤ j → j < i → p j ≡ false)) → MatchOption o (first n p ≡ n) (λ i. (i < n) × (first n p ≡ i))
    go None h = first_none n p (λ i l. h i (omega arith) l)
    go (Some i) h = (h.1, first_is n p i h.1 h.2 (λ j l. h.3 j (omega arith) l))

-- `(0..n).map(f).sum()`, where each call of the closure gives f.
module _ {F : Type 0} (g : Mut F (ℕ × Unit {0}) ℕ) (n : ℕ) (f : ℕ → ℕ) {s : Map (Range ℕ) F} {k : F}
    (source : map_source s ≡ record { start = 0; end = n }) (callee : map_callee s ≡ k) (calls : (x r : ℕ) (q : F) → Called g k (x, tt) r q → (q ≡ k) × (r ≡ f x)) where
  road : YieldsList (maps nat_range_steps g) (λ r. r) s (map f (range_with_len 0 n))
  road = YieldsList-from_map g f (YieldsList-from_range 0 n n source (omega arith)) callee calls

  pub summed : {r : ℕ} → ((xs : List ℕ) × (⊤ → Drains (maps nat_range_steps g) s xs) × (r ≡ fold (λ a x. a + x) 0 xs)) → r ≡ sum n f
  summed {r} ran = sum_by_from_yields_List f (range_with_len 0 n) s r ran road ∙ ranged n f

  pub sum_fits : (top : ℕ) → sum n f < top → EachRunFrom (maps nat_range_steps g) s (λ p. fold (λ a x. a + x) 0 p.items < top)
  sum_fits top l = fits_by_from_yields_list f (range_with_len 0 n) s top road (omega (arith, ranged n f))

-- The same, where each call gives at most m: so their sum is at most n * m.
module _ {F : Type 0} (g : Mut F (ℕ × Unit {0}) ℕ) (n : ℕ) (f : ℕ → ℕ) (m : ℕ) {s : Map (Range ℕ) F} {k : F}
    (source : map_source s ≡ record { start = 0; end = n }) (callee : map_callee s ≡ k) (calls : (x r : ℕ) (q : F) → Called g k (x, tt) r q → (q ≡ k) × (r ≡ f x) × (r < m + 1)) where
  abbrev cut : ℕ → ℕ
  cut x = min (f x) m

  gives_cut : (x r : ℕ) (q : F) → Called g k (x, tt) r q → (q ≡ k) × (r ≡ cut x)
  gives_cut x r q c = let h = calls x r q c in (h.0, h.1 ∙ sym (min-eq_left (omega (arith, h.1, h.2))))

  cut_most : sum n cut ≤ n * m
  cut_most = sum_most n m cut (λ i l. min-le_right (f i) m)

  pub summed_most : {r : ℕ} → ((xs : List ℕ) × (⊤ → Drains (maps nat_range_steps g) s xs) × (r ≡ fold (λ a x. a + x) 0 xs)) → (r ≡ sum n f) × (r ≤ n * m)
  summed_most ran = (summed g n f source callee (λ x r q c. let h = calls x r q c in (h.0, h.1)) ran, omega (arith, summed g n cut source callee gives_cut ran, cut_most))

  pub sum_fits_most : (top : ℕ) → n * m < top → EachRunFrom (maps nat_range_steps g) s (λ p. fold (λ a x. a + x) 0 p.items < top)
  sum_fits_most top l = sum_fits g n cut source callee gives_cut top (omega (arith, cut_most))
