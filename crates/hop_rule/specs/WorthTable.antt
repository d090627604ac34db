-- 02, R-1: the lines of small sites, as one table with a single statement over it; and what the call gives, done and refused. Uses Worth.
use Rattle.std.specs.Prelude.{◌≡◌, refl, List, [], ◌∷◌, ◌++◌, map, ℕ, ℤ, pos, negsuc, replicate, take}
use Rattle.hop_rule.specs.Words.{loop, sum, listed, joined, every, first}
use Rattle.hop_rule.specs.State.{State}
use Rattle.hop_rule.specs.Rule.{least, distance_of, downstream_of, send, recompute, hear, deliver, link_up, recompute_all, pass, total, passes, made, delivered, fresh}
use Rattle.hop_rule.specs.Stored.{size, grid, cube, destination_at, value_at, block, stored, start, nodes, flat, deep, read_as}
use Rattle.hop_rule.specs.Sound.{waits, differ, each, pairs, triples, is_sound, is_sound_as}
use Rattle.hop_rule.specs.Notice.{lose, notice, missing, link_down}
use Rattle.hop_rule.specs.Records.{written}
use Rattle.hop_rule.specs.Calls.{judge}
use Rattle.hop_rule.specs.Worth.{turned, trial_passes, trial, lost, hops, change, line, lines, numbers, worth_refusals, Valued, worth_done, worth}

-- ---- the lines of a site

-- n nodes, their links brought up and run to rest; and the numbers of its lines.
pub data Site : Type 0 where
  site : ℕ → List (ℕ × ℕ) → List ℤ → Site

unfoldable pub linked : List (ℕ × ℕ) → State → State
linked [] s = s
linked (l ∷ ls) s = linked ls (link_up s l.0 l.1)

unfoldable pub rested : ℕ → List (ℕ × ℕ) → State
rested n ls = passes (linked ls (fresh n)) n

unfoldable pub observed : Site → List ℤ
observed (site n ls gives) = numbers (lines (rested n ls))

unfoldable pub expected : Site → List ℤ
expected (site n ls gives) = gives

unfoldable pub sites : List Site
sites =
    -- One node has no pair.
    site 1 [] []
    -- Two apart: with the link both gain their route.
    ∷ site 2 [] (pos 0 ∷ pos 1 ∷ pos 2 ∷ pos 5 ∷ pos 0 ∷ pos 2 ∷ pos 0 ∷ [])
    -- Two linked: without it both lose it, and nothing has to be delivered.
    ∷ site 2 ((0, 1) ∷ []) (pos 0 ∷ pos 1 ∷ pos 0 ∷ pos 0 ∷ pos 2 ∷ pos 0 ∷ pos 0 ∷ [])
    -- The line 0-1-2: adding 0-2 gives −2.
    ∷ site 3 ((0, 1) ∷ (1, 2) ∷ [])
    (pos 0 ∷ pos 1 ∷ pos 2 ∷ pos 2 ∷ pos 4 ∷ pos 0 ∷ pos 0
    ∷ pos 0 ∷ pos 2 ∷ pos 2 ∷ pos 9 ∷ pos 0 ∷ pos 0 ∷ negsuc 1
    ∷ pos 1 ∷ pos 2 ∷ pos 2 ∷ pos 2 ∷ pos 4 ∷ pos 0 ∷ pos 0 ∷ [])
    -- Our own: with all three links, any of them less makes its two ends two hops of one.
    ∷ site 3 ((0, 1) ∷ (0, 2) ∷ (1, 2) ∷ [])
    (pos 0 ∷ pos 1 ∷ pos 1 ∷ pos 2 ∷ pos 0 ∷ pos 0 ∷ pos 2
    ∷ pos 0 ∷ pos 2 ∷ pos 1 ∷ pos 2 ∷ pos 0 ∷ pos 0 ∷ pos 2
    ∷ pos 1 ∷ pos 2 ∷ pos 1 ∷ pos 2 ∷ pos 0 ∷ pos 0 ∷ pos 2 ∷ [])
    ∷ []

pub sites_hold : map observed sites ≡ map expected sites
unfolding sites observed expected rested linked numbers lines line change hops lost trial trial_passes turned fresh delivered made passes total pass link_down missing notice lose recompute_all link_up deliver hear recompute send downstream_of distance_of least first joined listed sum loop
sites_hold = refl

-- ---- the call

-- Two linked nodes at rest, and just linked; a trial buffer of so many sevens, and a list of so many fives.
unfoldable pub two : List ℕ
two = stored (rested 2 ((0, 1) ∷ []))

unfoldable pub waiting : List ℕ
waiting = stored (link_up (fresh 2) 0 1)

unfoldable pub called : List ℕ → ℕ → ℕ → Valued
called s trial list = worth s (replicate trial 7) (replicate list (pos 5))

-- Its number.
unfoldable pub number : List ℕ → ℕ → ℕ → ℕ
number s trial list = (called s trial list).number

-- One line, with room to spare: the copy and the line are written, and what stands behind them stays. One node: no line, and the copy is made.
pub call_holds :
    (called (two ++ 9 ∷ []) 43 9 ≡ record {
      number = 0;
      answers = 1 ∷ [];
      trial = two ++ 7 ∷ 7 ∷ [];
      list = pos 0 ∷ pos 1 ∷ pos 0 ∷ pos 0 ∷ pos 2 ∷ pos 0 ∷ pos 0 ∷ pos 5 ∷ pos 5 ∷ [];
    })
    × (called (stored (fresh 1)) 9 1 ≡ record { number = 0; answers = 0 ∷ []; trial = stored (fresh 1) ++ 7 ∷ []; list = pos 5 ∷ [] })
unfolding called two rested linked worth worth_done worth_refusals judge written is_sound_as is_sound triples pairs each differ waits read_as deep flat nodes start stored block value_at destination_at cube grid size numbers lines line change hops lost trial trial_passes turned fresh delivered made passes total pass link_down missing notice lose recompute_all link_up deliver hear recompute send downstream_of distance_of least first every joined listed sum loop
call_holds = (refl, refl)

-- An empty buffer 2, a node count 1, a short state 2, an unsound one 3: entries wait in the last two, and 12 comes after. It comes before a short trial buffer 2 or a short list 2; and a refusal leaves both.
pub refusals_hold :
    (number [] 0 0 ∷ number (0 ∷ []) 0 0 ∷ number (take 40 waiting) 0 0 ∷ number (2 ∷ replicate 40 1) 0 0 ∷ number waiting 0 0 ∷ number two 40 7 ∷ number two 41 6 ∷ number two 41 7 ∷ []
    ≡ 2 ∷ 1 ∷ 2 ∷ 3 ∷ 12 ∷ 2 ∷ 2 ∷ 0 ∷ [])
    × (called waiting 41 7 ≡ record { number = 12; answers = []; trial = replicate 41 7; list = replicate 7 (pos 5) })
unfolding number called two waiting rested linked worth worth_done worth_refusals judge written is_sound_as is_sound triples pairs each differ waits read_as deep flat nodes start stored block value_at destination_at cube grid size numbers lines line change hops lost trial trial_passes turned fresh delivered made passes total pass link_down missing notice lose recompute_all link_up deliver hear recompute send downstream_of distance_of least first every joined listed sum loop
refusals_hold = (refl, refl)
