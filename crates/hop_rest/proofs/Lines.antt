-- Where R-1's lines stand: all lines begin with those of the lower nodes, and the lines of one node with those to its lower ends; in the list each line takes seven numbers. And that each is the line of a pair that is tried. Assumes nothing.
use Rattle.std.specs.Prelude.{if◌then◌else◌}
use mathlib.Core.Path.{◌≡◌, refl, ap, sym, subst, ◌∙◌}
use mathlib.Core.Bool.{Bool, true, false}
use mathlib.Core.List.{List, [], ◌∷◌, ◌++◌, append_assoc}
use Prim.Native.Nat.{ℕ, zero, suc, ◌*◌, ◌<◌}
use native.Mathlib.Nat.{le_refl}
use native.Mathlib.Omega.{arith}
use lib.IntN.{ℤ}
use lib.ListN.{length, take, drop, length-append}
use lib.Seq.{drop-append_seam}
use Rattle.hop_rule.specs.Words.{joined}
use Rattle.hop_rule.specs.State.{State}
use Rattle.hop_rule.specs.Records.{written}
use Rattle.hop_rule.specs.Worth.{Line, line, tried, lines, seven, numbers}
use Rattle.hop_laws.specs.Lines.{lines_of, lines_below}
use Rattle.hop_laws.proofs.Words.{joined_begins}
use Rattle.hop_laws.proofs.Worth.{numbers_append, length_numbers, tells_tried, lines_are, node_tried, length_node, nodes_more, length_nodes, lines_count, lines_most, lines_all}
use Rattle.hop_rest.specs.Worth.{place_of, Stands, EveryPairHasItsLine}

-- What stands in a part stands in the whole.
within : {A : Type 0} (front part back before after : List A) (x : A) → part ≡ before ++ (x ∷ after) → (front ++ part) ++ back ≡ (front ++ before) ++ (x ∷ (after ++ back))
within front part back before after x e =
    ap (λ l. (front ++ l) ++ back) e
    ∙ append_assoc front (before ++ (x ∷ after)) back
    ∙ ap (λ l. front ++ l) (append_assoc before (x ∷ after) back)
    ∙ sym (append_assoc front before (x ∷ (after ++ back)))

-- P holds of each; so it holds of what stands anywhere, and of each of several lists together if it does of each of every one.
module _ {A : Type 0} (P : A → Type 0) where
  abbrev All : List A → Type 0
  All [] = Unit {0}
  All (x ∷ l) = P x × All l

  all_at : (before after : List A) (x : A) → All (before ++ (x ∷ after)) → P x
  all_at [] after x h = h.0
  all_at (y ∷ before) after x h = all_at before after x h.1

  all_append : (l m : List A) → All l → All m → All (l ++ m)
  all_append [] m h k = k
  all_append (x ∷ l) m h k = (h.0, all_append l m h.1 k)

  all_joined : (k : ℕ) (f : ℕ → List A) → ((i : ℕ) → i < k → All (f i)) → All (joined k f)
  unfolding joined
  all_joined zero f h = tt
  all_joined (suc k) f h = all_append (joined k f) (f k) (all_joined k f (λ i l. h i (omega arith))) (h k (le_refl _))

module _ (s : State) where
  stands : (a b : ℕ) → tried s a b ≡ true → b < s.n → Stands s a b
  stands a b t inside =
      let low : a < s.n = omega (arith, ((tells_tried s a b).shows t).0) in
      let (after, e) = joined_begins (suc b) s.n _ inside in
      let (later, f) = joined_begins (suc a) s.n _ low in
      let own : lines_of s a s.n ≡ lines_of s a b ++ (line s a b ∷ after) = e ∙ ap (λ l. l ++ after) (node_tried s a b t) ∙ append_assoc (lines_of s a b) (line s a b ∷ []) after in
      record {
        before = lines_below s a ++ lines_of s a b;
        after = after ++ later;
        whole = lines_are s ∙ f ∙ ap (λ l. l ++ later) (nodes_more s a) ∙ within (lines_below s a) (lines_of s a s.n) later (lines_of s a b) after (line s a b) own;
        place = omega (arith, length-append (lines_below s a) (lines_of s a b), length_nodes s a, length_node s a b);
      }

  -- l is the line of a pair that is tried.
  abbrev Own : Line → Type 0
  Own l = (tried s l.low l.high ≡ true) × (l.high < s.n) × (l ≡ line s l.low l.high)

  all_own : All Own (lines s)
  unfolding lines line
  all_own = all_joined Own s.n _ (λ a la. all_joined Own s.n _ (λ b lb. at a b lb (tried s a b) refl))
    where
      at : (a b : ℕ) → b < s.n → (t : Bool) → tried s a b ≡ t → All Own (if t then line s a b ∷ [] else [])
      at a b inside true e = ((e, inside, refl), tt)
      at a b inside false e = tt

  only : (before after : List Line) (l : Line) → lines s ≡ before ++ (l ∷ after) → Own l
  only before after l e = all_at Own before after l (subst (All Own) e all_own)

pub pairs_have_lines : EveryPairHasItsLine
pairs_have_lines s = record { count = lines_count s; most = lines_most s; all = lines_all s; stands = stands s; only = only s }

-- ---- in the list

-- A line's numbers stand behind seven for each line before it, whatever stands behind the last line.
numbers_stand : (before after : List Line) (l : Line) (r : List ℤ) → take 7 (drop (7 * length before) (numbers (before ++ (l ∷ after)) ++ r)) ≡ seven l
unfolding numbers
numbers_stand before after l r =
    ap (λ m. take 7 (drop m (numbers (before ++ (l ∷ after)) ++ r))) (sym (length_numbers before))
    ∙ ap (λ x. take 7 (drop (length (numbers before)) (x ++ r))) (numbers_append before (l ∷ after))
    ∙ ap (λ x. take 7 (drop (length (numbers before)) x)) (append_assoc (numbers before) (numbers (l ∷ after)) r)
    ∙ ap (λ x. take 7 x) (drop-append_seam (numbers before) (numbers (l ∷ after) ++ r))

pub listed_stands : (s : State) (list : List ℤ) (a b : ℕ) → tried s a b ≡ true → b < s.n → take 7 (drop (7 * place_of s a b) (written (numbers (lines s)) list)) ≡ seven (line s a b)
unfolding written
listed_stands s list a b t inside =
    let k = stands s a b t inside in
    ap (λ m. take 7 (drop (7 * m) (written (numbers (lines s)) list))) (sym k.place)
    ∙ ap (λ ls. take 7 (drop (7 * length k.before) (written (numbers ls) list))) k.whole
    ∙ numbers_stand k.before k.after (line s a b) _
