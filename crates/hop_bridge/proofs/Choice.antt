-- Laws of a choice by a test. Each is a case of the test. Assumes nothing.
use mathlib.Core.Path.{◌≡◌, refl}
use mathlib.Core.Bool.{Bool, true, false, cond, ◌&&◌, ◌||◌}

module _ {A : Type 0} where
  -- The first choice does not matter where both are the same,
  pub cond_idle : (b : Bool) (x y : A) → (b ≡ true → x ≡ y) → cond b x y ≡ y
  cond_idle true x y h = h refl
  cond_idle false x y h = refl

  -- and is looked at only where the test holds.
  pub cond_then : (b : Bool) (x x' y : A) → (b ≡ true → x ≡ x') → cond b x y ≡ cond b x' y
  cond_then true x x' y h = h refl
  cond_then false x x' y h = refl

  pub cond_twice : (b : Bool) (x y z : A) → cond b x (cond b y z) ≡ cond b x z
  cond_twice true x y z = refl
  cond_twice false x y z = refl

  -- Choices by tests that do not hold together can be made in either order.
  pub cond_swap : (b c : Bool) (x y z : A) → (b ≡ true → c ≡ true → ⊥) → cond b x (cond c y z) ≡ cond c y (cond b x z)
  cond_swap true true x y z f = absurd (f refl refl)
  cond_swap true false x y z f = refl
  cond_swap false c x y z f = refl

  -- A choice inside one that was made before it.
  pub cond_within : (b p c : Bool) (x y z : A) → cond (b && (p && c)) x (cond (b && p) y z) ≡ cond (b && p) (cond c x y) z
  cond_within true true c x y z = refl
  cond_within true false c x y z = refl
  cond_within false p c x y z = refl

  -- One choice by either of two tests is two choices.
  pub cond_either : (b c : Bool) (x p q z : A) → (b ≡ true → p ≡ x) → (c ≡ true → q ≡ x) → cond c q (cond b p z) ≡ cond (b || c) x z
  cond_either true true x p q z e g = g refl
  cond_either true false x p q z e g = e refl
  cond_either false true x p q z e g = g refl
  cond_either false false x p q z e g = refl

-- What is asked of a choice is asked of what was chosen.
pub cond_on : {A B : Type 0} (f : A → B) (b : Bool) (x : B) (y z : A) → x ≡ f y → cond b x (f z) ≡ f (cond b y z)
cond_on f true x y z e = e
cond_on f false x y z e = refl
