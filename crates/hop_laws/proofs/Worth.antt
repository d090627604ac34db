-- Laws of R-1's lines and of its call: how many lines there are, how their numbers go one behind the other, and that the call is done or refused. The pairs of a node that are tried are counted first, and then those of all nodes. Assumes nothing.
use mathlib.Core.Path.{◌≡◌, refl, ap, ◌∙◌}
use mathlib.Core.Logic.{◌≢◌}
use mathlib.Core.Bool.{Bool, true, false}
use mathlib.Core.List.{List, [], ◌∷◌, ◌++◌, append-nil}
use Prim.Native.Nat.{ℕ, zero, suc, ◌+◌, ◌*◌, ◌-◌, ◌≤◌, ◌<◌}
use native.Mathlib.Nat.{le_refl, suc-mul, mul-suc}
use native.Mathlib.Decide.{dec_lt}
use native.Mathlib.Omega.{arith}
use lib.Dec.{eqb}
use lib.IntN.{ℤ}
use lib.ListN.{length, length-append}
use Rattle.hop_rule.specs.Words.{sum, joined}
use Rattle.hop_rule.specs.State.{State}
use Rattle.hop_rule.specs.Notice.{EndsAgree}
use Rattle.hop_rule.specs.Calls.{judge}
use Rattle.hop_rule.specs.Worth.{Line, line, tried, lines, seven, numbers, worth_refusals, Valued, worth_done, worth}
use Rattle.hop_laws.specs.Lines.{lines_of, lines_below, tried_of, tried_below}
use Rattle.hop_laws.proofs.Tests.{Tells, tells_false, decides, tells_as, tells_eq, tells_lt, tells_not, tells_and, choose_so, choose_else}
use Rattle.hop_laws.proofs.Words.{sum_same, sum_less}
use Rattle.hop_laws.proofs.Calls.{judged_number}

-- ---- numbers

pub numbers_append : (xs ys : List Line) → numbers (xs ++ ys) ≡ numbers xs ++ numbers ys
unfolding numbers
numbers_append [] ys = refl
numbers_append (x ∷ xs) ys = ap (λ l. seven x ++ l) (numbers_append xs ys)

pub length_numbers : (xs : List Line) → length (numbers xs) ≡ 7 * length xs
unfolding numbers
length_numbers [] = refl
length_numbers (x ∷ xs) = omega (arith, length_numbers xs)

-- ---- pairs of n nodes

-- The nodes above each of the first k, with j nodes to come.
pairs_left : (n k j : ℕ) → n ≡ k + j → sum k (λ a. n - suc a) * 2 + j * (j - 1) ≡ n * (n - 1)
unfolding sum
pairs_left n zero j e = let f : j ≡ n = omega arith in ap (λ (m : ℕ). 0 + m * (m - 1)) f ∙ omega arith
pairs_left n (suc k) j e = omega (arith, pairs_left n k (suc j) (omega arith), last j)
  where
    last : (j : ℕ) → suc j * (suc j - 1) ≡ j * (j - 1) + j * 2
    last zero = refl
    last (suc j) =
        let one : suc j - 1 ≡ j = omega arith in
        let two : suc (suc j) - 1 ≡ suc j = omega arith in
        omega (arith, ap (λ m. suc (suc j) * m) two, ap (λ m. suc j * m) one, suc-mul (suc j) (suc j), mul-suc (suc j) j)

pairs_of : (n : ℕ) → sum n (λ a. n - suc a) * 2 ≡ n * (n - 1)
pairs_of n = let h = pairs_left n n 0 (omega arith) in omega (arith, h)

-- ---- lines

module _ (s : State) where
  -- A pair is tried where it ascends and its link has not just one end up.
  pub tells_tried : (a b : ℕ) → Tells (tried s a b) ((a < b) × (s.link a b ≡ s.link b a))
  tells_tried a b = tells_and (tells_lt a b) (tells_as agree (λ e f. f e) (tells_not (tells_not same)))
    where
      same : Tells (eqb (s.link a b) (s.link b a)) (s.link a b ≡ s.link b a)
      same = tells_eq (s.link a b) (s.link b a)

      agree : ((s.link a b ≡ s.link b a → ⊥) → ⊥) → s.link a b ≡ s.link b a
      agree g = elim (decides same) [ yes e ↦ e | no f ↦ absurd (g f) ]

  pub lines_are : lines s ≡ lines_below s s.n
  unfolding lines
  lines_are = refl

  -- One node more: a line, if the pair is tried.
  pub node_tried : (a b : ℕ) → tried s a b ≡ true → lines_of s a (suc b) ≡ lines_of s a b ++ (line s a b ∷ [])
  unfolding joined
  node_tried a b e = rw e

  node_left_out : (a b : ℕ) → tried s a b ≡ false → lines_of s a (suc b) ≡ lines_of s a b
  unfolding joined
  node_left_out a b e = rw e (append-nil (lines_of s a b))

  -- And one in the count.
  count_tried : (a b : ℕ) → tried s a b ≡ true → tried_of s a (suc b) ≡ suc (tried_of s a b)
  unfolding sum
  count_tried a b e = rw e (omega arith)

  count_left_out : (a b : ℕ) → tried s a b ≡ false → tried_of s a (suc b) ≡ tried_of s a b
  unfolding sum
  count_left_out a b e = rw e (omega arith)

  pub length_node : (a k : ℕ) → length (lines_of s a k) ≡ tried_of s a k
  unfolding joined sum
  length_node a zero = refl
  length_node a (suc k) = go (tried s a k) refl (length_node a k)
    where
      go : (t : Bool) → tried s a k ≡ t → length (lines_of s a k) ≡ tried_of s a k → length (lines_of s a (suc k)) ≡ tried_of s a (suc k)
      go true e h = omega (arith, ap length (node_tried a k e), length-append (lines_of s a k) (line s a k ∷ []), count_tried a k e, h)
      go false e h = omega (arith, ap length (node_left_out a k e), count_left_out a k e, h)

  pub nodes_more : (k : ℕ) → lines_below s (suc k) ≡ lines_below s k ++ lines_of s k s.n
  unfolding joined
  nodes_more k = refl

  pub length_nodes : (k : ℕ) → length (lines_below s k) ≡ tried_below s k
  unfolding joined sum
  length_nodes zero = refl
  length_nodes (suc k) = omega (arith, ap length (nodes_more k), length-append (lines_below s k) (lines_of s k s.n), length_node k s.n, length_nodes k)

  -- There are as many lines as pairs that are tried.
  pub lines_count : length (lines s) ≡ tried_below s s.n
  lines_count = ap length lines_are ∙ length_nodes s.n

  -- ---- at most n(n − 1)/2, and as many where no link has just one end up

  -- Below k, a is tried with no more nodes than are above it,
  pub node_most : (a k : ℕ) → tried_of s a k ≤ k - suc a
  unfolding sum
  node_most a zero = omega arith
  node_most a (suc k) = go (tried s a k) refl (node_most a k)
    where
      go : (t : Bool) → tried s a k ≡ t → tried_of s a k ≤ k - suc a → tried_of s a (suc k) ≤ suc k - suc a
      go true e h = omega (arith, count_tried a k e, ((tells_tried a k).shows e).0, h)
      go false e h = omega (arith, count_left_out a k e, h)

  -- and with all of them where both ends of every link agree.
  node_all : EndsAgree s → (a k : ℕ) → a < s.n → k ≤ s.n → tried_of s a k ≡ k - suc a
  unfolding sum
  node_all agree a zero la l = omega arith
  node_all agree a (suc k) la l = go (dec_lt a k) (node_all agree a k la (omega arith))
    where
      go : Dec (a < k) → tried_of s a k ≡ k - suc a → tried_of s a (suc k) ≡ suc k - suc a
      go (yes b) h = omega (arith, count_tried a k ((tells_tried a k).if_so (b, agree a k la l)), h)
      go (no f) h = omega (arith, count_left_out a k (tells_false (tells_tried a k) (λ p. f p.0)), h)

  pub lines_most : length (lines s) * 2 ≤ s.n * (s.n - 1)
  lines_most = omega (arith, lines_count, sum_less s.n _ (λ a. s.n - suc a) (λ a la. node_most a s.n), pairs_of s.n)

  pub lines_all : EndsAgree s → length (lines s) * 2 ≡ s.n * (s.n - 1)
  lines_all agree = omega (arith, lines_count, sum_same s.n _ (λ a. s.n - suc a) (λ a la. node_all agree a s.n la (le_refl _)), pairs_of s.n)

-- ---- the call, done or refused

module _ (s trial : List ℕ) (list : List ℤ) where
  pub worth_is_done : judge (worth_refusals s trial list) ≡ 0 → worth s trial list ≡ worth_done s trial list
  unfolding worth
  worth_is_done z = choose_so (tells_eq (judge (worth_refusals s trial list)) 0) _ _ z

  pub worth_refused : judge (worth_refusals s trial list) ≢ 0 → worth s trial list ≡ record { number = judge (worth_refusals s trial list); answers = []; trial = trial; list = list }
  unfolding worth
  worth_refused f = choose_else (tells_eq (judge (worth_refusals s trial list)) 0) _ _ f

  pub worth_number : (worth s trial list).number ≡ judge (worth_refusals s trial list)
  unfolding worth worth_done
  worth_number = judged_number (worth_refusals s trial list) (λ (v : Valued). v.number) _ _ refl refl
