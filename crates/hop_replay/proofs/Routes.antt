-- Lines for 0, 1, .. n − 1, written one behind the other by a loop. Assumes nothing.
use mathlib.Core.Path.{◌≡◌, refl}
use mathlib.Core.List.{List, [], ◌++◌}
use Prim.Native.Nat.{ℕ, zero, suc, ◌+◌, ◌≤◌, ◌<◌}
use native.Mathlib.Numerals.{add-one}
use native.Mathlib.Decide.{ℕ_discrete}
use native.Mathlib.Omega.{arith}
use lib.ListN.{length, length-append}
use Rattle.hop_rule.specs.Words.{joined}
use Rattle.hop_rule.specs.Route.{route}
use Rattle.hop_rule.specs.Stored.{read_as}
use Rattle.hop_cells.specs.declared.Way.{Way}
use Rattle.hop_cells.specs.Cells.{Reads}
use Rattle.hop_text.specs.Text.{route_line}
use Rattle.hop_text.specs.declared.Page.{Page}
use Rattle.hop_text.specs.Writing.{Ends, Puts}
use Rattle.hop_text.proofs.Writing.{sets_append}
use Rattle.hop_replay.specs.Replay.{route_at, routes_from, route_lines}

module _ (f : ℕ → List ℕ) where
  pub joined_zero : joined 0 f ≡ []
  unfolding joined
  joined_zero = refl

  pub joined_more : (k : ℕ) → joined (k + 1) f ≡ joined k f ++ f k
  unfolding joined
  joined_more k = rw (add-one k)

  joined_less : (k n : ℕ) → k < n → length (joined k f) + length (f k) ≤ length (joined n f)
  unfolding joined
  joined_less k zero l = absurd (omega arith)
  joined_less k (suc n) l = go (ℕ_discrete k n) (joined_less k n)
    where
      go : Dec (k ≡ n) → (k < n → length (joined k f) + length (f k) ≤ length (joined n f)) → length (joined k f) + length (f k) ≤ length (joined n f ++ f n)
      go (yes e) h = rw e (omega (arith, length-append (joined n f) (f n)))
      go (no e) h = omega (arith, h (omega arith), length-append (joined n f) (f n))

  -- Where all lines have an end, the next one has.
  pub joined_ends : (k n : ℕ) {before here : Page} → k < n → Ends (joined n f) before.at → Puts (joined k f) before here → Ends (f k) here.at
  joined_ends k n l e w = record { below = omega (arith, e.below, w.wrote.place, joined_less k n l) }

-- ---- the lines of the state that bytes hold

module _ (n : ℕ) (s : List ℕ) where
  -- The line of a pair, from the way that was read.
  pub route_read : (u v : ℕ) {way : Way} → Reads way (route (read_as n s) u v) → route_line u v way.distance way.downstream ≡ route_at (read_as n s) u v
  unfolding route_at
  route_read u v h = rw (h.distance, h.downstream)

  pub from_lines : (u : ℕ) → routes_from (read_as n s) u ≡ joined n (route_at (read_as n s) u)
  unfolding routes_from read_as
  from_lines u = refl

  pub all_lines : route_lines (read_as n s) ≡ joined n (routes_from (read_as n s))
  unfolding route_lines read_as
  all_lines = refl

-- With these the check finds that a loop writes the lines one behind the other.
pub ruleset lines = (joined_zero, joined_more, sets_append, length-append, route_read, from_lines, all_lines)
