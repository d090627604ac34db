-- Fresh is sound: with no link up recompute gives n and none off the diagonal, and no queue holds anything. Assumes nothing.
use mathlib.Core.Path.{◌≡◌, refl, sym}
use mathlib.Core.Bool.{Bool, true, false, cond}
use Prim.Native.Nat.{ℕ, zero, suc}
use native.Mathlib.Nat.{le_refl}
use native.Mathlib.Omega.{arith}
use lib.Dec.{eqb}
use borrow.Author.Tests.{eq-eqb}
use Rattle.hop_rule.specs.Words.{first}
use Rattle.hop_rule.specs.Rule.{least, distance_of, gives, downstream_of, fresh}
use Rattle.hop_rule.specs.Sound.{Leads, Sound}

module _ (n : ℕ) where
  least_fresh : (u v k : ℕ) → least (fresh n) u v k ≡ n
  unfolding least fresh
  least_fresh u v zero = refl
  least_fresh u v (suc w) = least_fresh u v w

  distance_fresh : (u v : ℕ) → distance_of (fresh n) u v ≡ (fresh n).distance u v
  unfolding distance_of fresh
  distance_fresh u v = rw (least_fresh u v n)

  leads_fresh : (u v : ℕ) → Leads (fresh n) u v
  unfolding downstream_of fresh
  leads_fresh u v = go (eqb u v)
    where
      go : (b : Bool) → cond b u 255 ≡ cond b u (cond (eqb (cond b 0 n) n) 255 (first n (gives (fresh n) u v (cond b 0 n))))
      go true = refl
      go false = rw (eq-eqb n n refl)

  pub fresh_sound : Sound (fresh n)
  unfolding fresh
  fresh_sound = record {
    bits = λ u w lu lw. omega arith;
    diagonal = λ u lu. refl;
    distances = λ u v lu lv. sym (distance_fresh u v);
    downstreams = λ u v lu lv. leads_fresh u v;
    views = λ u w v lu lw lv. le_refl _;
    down_views = λ u w v lu lw lv down. refl;
    down_queues = λ u w lu lw down. refl;
    lengths = λ u w lu lw. omega arith;
    differ = λ u w lu lw sends. tt;
    below = λ u w lu lw sends. tt;
    values = λ u w lu lw sends. tt;
    heard = λ u w v lu lw lv sends out. absurd (omega arith);
  }
