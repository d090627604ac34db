-- One text behind another: what two writers did is what one would have done with both texts. Assumes nothing.
use mathlib.Core.Path.{◌≡◌, ap, ◌∙◌}
use mathlib.Core.List.{List, [], ◌∷◌, ◌++◌}
use Prim.Native.Nat.{ℕ, suc, ◌+◌}
use native.Mathlib.Nat.{add-zero}
use native.Mathlib.Omega.{arith}
use lib.ListN.{length, length-append, set}
use lib.Seq.{sets}
use Rattle.std.proofs.Common.{rules}
use Rattle.hop_text.specs.declared.Page.{Page}
use Rattle.hop_text.specs.Writing.{Ends, Puts}

pub sets_append : (l : List ℕ) (i : ℕ) (a b : List ℕ) → sets l i (a ++ b) ≡ sets (sets l i a) (i + length a) b
sets_append l i [] b = rw add-zero
sets_append l i (x ∷ a) b = sets_append (set l i x) (suc i) a b ∙ ap (λ k. sets (sets (set l i x) (suc i) a) k b) (omega arith)

-- With these the check finds that a function which puts the parts of a text puts the text.
pub ruleset writing = (sets_append, length-append)

pub puts_nothing : (p : Page) → Puts [] p p
puts_nothing p = search (rules, writing)

pub puts_both : {a b : List ℕ} {p q r : Page} → Puts a p q → Puts b q r → Puts (a ++ b) p r
puts_both {a} {b} {p} {q} {r} f g = search (rules, writing)

-- Where both texts have an end the first has, and behind it the second has.
pub ends_first : {a : List ℕ} (b : List ℕ) {i : ℕ} → Ends (a ++ b) i → Ends a i
ends_first {a} b h = record { below = omega (arith, h.below, length-append a b) }

pub ends_rest : {a b : List ℕ} {p q : Page} → Puts a p q → Ends (a ++ b) p.at → Ends b q.at
ends_rest {a} {b} f h = record { below = omega (arith, f.wrote.place, h.below, length-append a b) }
