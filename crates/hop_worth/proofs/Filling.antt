-- The list as it fills: a line behind those of its node where the pair is tried, the lines of a node behind those before it; and what a line's numbers are known to be. Assumes nothing.
use mathlib.Core.Path.{◌≡◌, sym, ap, subst, ◌∙◌}
use mathlib.Core.Bool.{true, false}
use mathlib.Core.List.{List, [], ◌++◌}
use Prim.Native.Nat.{ℕ, ◌+◌, ◌*◌, ◌-◌, ◌≤◌, ◌<◌}
use native.Mathlib.Nat.{mul-le-mul}
use native.Mathlib.Numerals.{add-one}
use native.Mathlib.Omega.{arith}
use lib.IntN.{ℤ}
use lib.ListN.{length, length-append, drop_of_length-le}
use lib.Seq.{sets}
use Rattle.hop_rule.specs.declared.Table.TheVariants.{Links}
use Rattle.hop_rule.specs.State.{State}
use Rattle.hop_rule.specs.Stored.{flat, read_as, read}
use Rattle.hop_rule.specs.Worth.{Line, line, tried, lines, numbers}
use Rattle.hop_laws.specs.Lines.{lines_of, lines_below}
use Rattle.hop_laws.proofs.Tests.{tells_false}
use Rattle.hop_laws.proofs.Words.{joined_more, joined_begins}
use Rattle.hop_laws.proofs.Worth.{numbers_append, length_numbers, tells_tried, lines_are, length_node, nodes_more, node_most, lines_most}
use Rattle.hop_cells.specs.Cells.{get, get2}
use Rattle.hop_rest.proofs.Worth.{line_fits}
use Rattle.hop_trial.specs.declared.Found.{Found}
use Rattle.hop_trial.specs.Trial.{Copied, found}
use Rattle.hop_worth.specs.Writing.{line_of, Small, seven_of}
use Rattle.hop_laws.proofs.Lists.{sets_append}

-- Lines behind those that stand.
pub lines_behind : (xs ys : List Line) (k : ℕ) {i : ℕ} (l₀ : List ℤ) {l m : List ℤ}
    → i ≡ k + length xs
    → l ≡ sets l₀ (7 * k) (numbers xs)
    → m ≡ sets l (7 * i) (numbers ys)
    → m ≡ sets l₀ (7 * k) (numbers (xs ++ ys))
lines_behind xs ys k {i} l₀ at e h =
    let place : 7 * i ≡ 7 * k + length (numbers xs) = omega (arith, at, length_numbers xs) in
    h ∙ rw (e, place, numbers_append xs ys, sets_append (numbers xs) (numbers ys) l₀ (7 * k))

module _ (t : State) where
  -- ---- the line of one pair

  pub one_given : (a b : ℕ) → tried t a b ≡ true → length (line_of t a b) ≡ 1
  one_given a b so = rw so

  pub line_given : (a b i : ℕ) (l : List ℤ) {m : List ℤ} {f : Found} → tried t a b ≡ true → f ≡ found (line t a b) → m ≡ sets l (7 * i) (seven_of a b f)
      → (i + 1 ≡ i + length (line_of t a b)) × (m ≡ sets l (7 * i) (numbers (line_of t a b)))
  unfolding numbers line found
  line_given a b i l so g h = (omega (arith, one_given a b so), h ∙ rw (so, g))

  pub none_given : (a b i : ℕ) (l : List ℤ) → tried t a b ≡ false → (i ≡ i + length (line_of t a b)) × (l ≡ sets l (7 * i) (numbers (line_of t a b)))
  unfolding numbers
  none_given a b i l none = (rw none (omega arith), rw none)

  -- ---- the lines of one node

  -- There are none with itself and the nodes below it.
  pub none_yet : (a : ℕ) → lines_of t a (a + 1) ≡ []
  none_yet a = drop_of_length-le (lines_of t a (a + 1)) {i = 0} (omega (arith, length_node t a (a + 1), node_most t a (a + 1)))

  pub pair_more : (a b : ℕ) → lines_of t a b ++ line_of t a b ≡ lines_of t a (b + 1)
  pair_more a b = rw (add-one b) (sym (joined_more b (line_of t a)))

  pub pair_count : (a b k : ℕ) {i r : ℕ} → i ≡ k + length (lines_of t a b) → r ≡ i + length (line_of t a b) → r ≡ k + length (lines_of t a (b + 1))
  pair_count a b k at e = rw (← pair_more a b) (omega (arith, at, e, length-append (lines_of t a b) (line_of t a b)))

  -- They are no more than those with all nodes.
  pub pairs_most : (a b n : ℕ) → b < n → length (lines_of t a b) + length (line_of t a b) ≤ length (lines_of t a n)
  pairs_most a b n l =
      let (rest, e) = joined_begins (b + 1) n (line_of t a) (omega arith) in
      omega (arith, length-append (lines_of t a b) (line_of t a b), ap length (pair_more a b), ap length e, length-append (lines_of t a (b + 1)) rest)

  -- ---- those of all nodes

  pub node_more : (a : ℕ) → lines_below t a ++ lines_of t a t.n ≡ lines_below t (a + 1)
  node_more a = rw (add-one a) (sym (nodes_more t a))

  pub node_count : (a : ℕ) {k : ℕ} → k ≡ length (lines_below t a) → k + length (lines_of t a t.n) ≡ length (lines_below t (a + 1))
  node_count a at = rw (← node_more a) (omega (arith, at, length-append (lines_below t a) (lines_of t a t.n)))

  -- They are no more than all lines.
  pub nodes_most : (a : ℕ) → a ≤ t.n → length (lines_below t a) ≤ length (lines t)
  nodes_most a l =
      let (rest, e) = joined_begins a t.n (λ a. lines_of t a t.n) l in
      omega (arith, ap length (lines_are t ∙ e), length-append (lines_below t a) rest)

-- ---- what is known of a trial

-- The copy that stood is the copy that stands.
pub copied_still : {n : ℕ} {s x y : List ℕ} → y ≡ x → Copied n s x → Copied n s y
copied_still {n} {s} e = subst (Copied n s) (sym e)

pub small_found : {n : ℕ} {s x : List ℕ} (a b : ℕ) {f : Found} → Copied n s x → tried (read s) a b ≡ true → b < n → f ≡ found (line (read s) a b) → Small f
unfolding read_as found
small_found {s = s} a b h so inside e =
    let fits = line_fits (read s) h.fine.sound.state h.fine.most a b so (omega (arith, h.claim)) in
    subst Small (sym e) (record {
      passes = omega (arith, fits.passes_most);
      deliveries = omega (arith, fits.deliveries_most);
      lost = omega (arith, fits.lost_most);
      gained = omega (arith, fits.gained_most);
      change = fits.change_most;
    })

-- There are at most 780 lines, and where the list holds them all it holds those of one node more.
module _ {n : ℕ} {s x : List ℕ} (h : Copied n s x) where
  pub count_claimed : n ≡ (read s).n
  unfolding read_as
  count_claimed = h.claim

  -- Whether the two ends' bytes agree tells whether a pair is tried.
  module _ (a b : ℕ) (ascends : a < b) {p q : ℕ} (own : p ≡ get2 n Links a b s) (other : q ≡ get2 n Links b a s) where
    link_byte : (x y : ℕ) → get2 n Links x y s ≡ (read s).link x y
    unfolding get flat read_as
    link_byte x y = ap (λ m. flat m s Links x y) h.claim

    pub tried_so : p ≡ q → tried (read s) a b ≡ true
    tried_so e = (tells_tried (read s) a b).if_so (ascends, sym (own ∙ link_byte a b) ∙ e ∙ other ∙ link_byte b a)

    pub tried_not : (p ≡ q → ⊥) → tried (read s) a b ≡ false
    tried_not f = tells_false (tells_tried (read s) a b) (λ so. f (own ∙ link_byte a b ∙ so.1 ∙ sym (other ∙ link_byte b a)))

  pub lines_few : length (lines (read s)) ≤ 780
  lines_few =
      let few : (read s).n ≤ 40 = omega (arith, count_claimed, h.claim, h.fine.most) in
      let less : (read s).n - 1 ≤ 39 = omega (arith, few) in
      let most : (read s).n * ((read s).n - 1) ≤ 40 * 39 = mul-le-mul few less in
      omega (arith, lines_most (read s), most)

  pub node_room : {k a m : ℕ} → k ≡ length (lines_below (read s) a) → a < n → length (numbers (lines (read s))) ≤ m → (k + length (lines_of (read s) a n) ≤ 780) × (7 * (k + length (lines_of (read s) a n)) ≤ m)
  node_room {k} {a} at l room =
      let next : k + length (lines_of (read s) a n) ≡ length (lines_below (read s) (a + 1)) = ap (λ m. k + length (lines_of (read s) a m)) count_claimed ∙ node_count (read s) a at in
      let within = nodes_most (read s) (a + 1) (omega (arith, l, count_claimed)) in
      (omega (arith, next, within, lines_few), omega (arith, next, within, room, length_numbers (lines (read s))))
