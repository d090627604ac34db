-- R-1's call on bytes. Lines do not tell apart what is the same below n, so no byte behind the form is looked at; and where the call is done the state is sound and at rest, so that its lines tell, and a copy of its form is accepted. Assumes nothing.
use Rattle.std.specs.Prelude.{if◌then◌else◌}
use mathlib.Core.Path.{◌≡◌, refl, sym, ap, ◌∙◌}
use mathlib.Core.Bool.{Bool, true, false, cond}
use mathlib.Core.List.{List, [], ◌∷◌, ◌++◌}
use Prim.Native.Nat.{ℕ, ◌*◌, ◌≤◌, ◌<◌}
use native.Mathlib.Nat.{le_of_eq}
use native.Mathlib.Decide.{ℕ_discrete}
use native.Mathlib.Omega.{arith}
use lib.Dec.{eqb}
use lib.IntN.{ℤ}
use lib.ListN.{length, take, drop, take-append-drop}
use lib.Seq.{length-take-le, take-append-le}
use Rattle.hop_rule.specs.Words.{joined}
use Rattle.hop_rule.specs.State.{State}
use Rattle.hop_rule.specs.Rule.{link_up, delivered}
use Rattle.hop_rule.specs.Notice.{link_down}
use Rattle.hop_rule.specs.Stored.{size, nodes, read_as, read}
use Rattle.hop_rule.specs.Sound.{Sound}
use Rattle.hop_rule.specs.Records.{written}
use Rattle.hop_rule.specs.Calls.{check, judge, not_at_rest}
use Rattle.hop_rule.specs.Worth.{turned, trial_passes, trial, table_of, lost, gained, change, line, tried, lines, worth_refusals, Valued, worth_done, worth}
use Rattle.hop_laws.specs.Same.{Same}
use Rattle.hop_laws.specs.Fine.{Fine}
use Rattle.hop_laws.proofs.Words.{joined_same}
use Rattle.hop_laws.proofs.Stored.{nodes_append}
use Rattle.hop_laws.proofs.Tails.{nodes_same, read_same}
use Rattle.hop_laws.proofs.Calls.{judge_none, state_fine}
use Rattle.hop_laws.proofs.Accepted.{fine_accepted}
use Rattle.hop_laws.proofs.Worth.{worth_is_done, worth_refused, worth_number}
use Rattle.hop_rest.specs.Accepted.{Accepted}
use Rattle.hop_rest.specs.Tails.{form}
use Rattle.hop_rest.specs.Worth.{place_of, EveryWorthTells}
use Rattle.hop_rest.proofs.Kept.{passes_keeps_sound}
use Rattle.hop_rest.proofs.Settling.{judged_rest}
use Rattle.hop_rest.proofs.Same.{up_same, down_same, passes_same, total_same, made_same, delivered_same}
use Rattle.hop_rest.proofs.Tails.{state_judged, tails_unread}
use Rattle.hop_rest.proofs.Changes.{Agree, lost_same, change_same}
use Rattle.hop_rest.proofs.Worth.{turned_nodes, turned_sound, line_fits, lines_run, lines_tell}
use Rattle.hop_rest.proofs.Lines.{listed_stands}

-- ---- lines of states that are the same below n

module _ {s t : State} (o : Sound s) (e : Same s t) where
  module _ (a b : ℕ) (so : tried s a b ≡ true) (low : a < s.n) (inside : b < s.n) where
    turned_same : Same (turned s a b) (turned t a b)
    unfolding turned
    turned_same = rw (← e.link a b low inside) (either (eqb (s.link a b) 1))
      where
        either : (c : Bool) → Same (cond c (link_down s a b) (link_up s a b)) (cond c (link_down t a b) (link_up t a b))
        either true = down_same e a b low inside
        either false = up_same e a b

    sound : Sound (turned s a b)
    sound = turned_sound s a b so o inside

    trial_passes_same : trial_passes s a b ≡ trial_passes t a b
    unfolding trial_passes
    trial_passes_same = made_same sound turned_same 255

    trial_nodes : (trial s a b).n ≡ s.n
    unfolding trial
    trial_nodes = (passes_keeps_sound (turned s a b) (trial_passes s a b) sound).1 ∙ turned_nodes s a b

    trial_same : Same (trial s a b) (trial t a b)
    unfolding trial
    trial_same = rw (← trial_passes_same) (passes_same sound turned_same (trial_passes s a b))

    line_same : line s a b ≡ line t a b
    unfolding line
    line_same = λ i. record { low = a; high = b; passes = trial_passes_same i; deliveries = deliveries i; lost = lost_as i; gained = gained_as i; change = change_as i }
      where
        deliveries : delivered (turned s a b) (trial_passes s a b) ≡ delivered (turned t a b) (trial_passes t a b)
        deliveries = delivered_same sound turned_same (trial_passes s a b) ∙ ap (delivered (turned t a b)) trial_passes_same

        after : Agree s.n (table_of (trial s a b)) (table_of (trial t a b))
        after u v lu lv = trial_same.distance u v (rw trial_nodes lu) (rw trial_nodes lv)

        -- n is the same, and so are the tables below it.
        lost_as : lost s.n (table_of s) (table_of (trial s a b)) ≡ lost t.n (table_of t) (table_of (trial t a b))
        lost_as = lost_same s.n _ _ _ _ e.distance after ∙ ap (λ m. lost m (table_of t) (table_of (trial t a b))) e.n

        gained_as : gained s.n (table_of s) (table_of (trial s a b)) ≡ gained t.n (table_of t) (table_of (trial t a b))
        gained_as = lost_same s.n _ _ _ _ after e.distance ∙ ap (λ m. gained m (table_of t) (table_of (trial t a b))) e.n

        change_as : change s.n (table_of s) (table_of (trial s a b)) ≡ change t.n (table_of t) (table_of (trial t a b))
        change_as = change_same s.n _ _ _ _ e.distance after ∙ ap (λ m. change m (table_of t) (table_of (trial t a b))) e.n

  tried_same : (a b : ℕ) → a < s.n → b < s.n → tried s a b ≡ tried t a b
  tried_same a b la lb = rw (e.link a b la lb, e.link b a lb la)

  lines_same : lines s ≡ lines t
  unfolding lines
  lines_same =
      joined_same s.n _ _ (λ a la. joined_same s.n _ _ (λ b lb. at a b la lb (tried s a b) refl))
      ∙ ap (λ m. joined m (λ a. joined m (λ b. if tried t a b then line t a b ∷ [] else []))) e.n
    where
      at : (a b : ℕ) → a < s.n → b < s.n → (c : Bool) → tried s a b ≡ c → (if tried s a b then line s a b ∷ [] else []) ≡ (if tried t a b then line t a b ∷ [] else [])
      at a b la lb true so = rw (← tried_same a b la lb, so, line_same a b so la lb)
      at a b la lb false none = rw (← tried_same a b la lb, none)

-- ---- bytes behind the form

module _ (f r trial : List ℕ) (list : List ℤ) (room : size (nodes f) ≤ length f) where
  judged : judge (worth_refusals (f ++ r) trial list) ≡ judge (worth_refusals f trial list)
  unfolding worth_refusals
  judged = state_judged f r room _ _ (λ h.
      let e = read_same f r room h.sound in
      rw (total_same e, lines_same h.sound.state e, nodes_same f r room))

  does : Fine f → worth_done (f ++ r) trial list ≡ worth_done f trial list
  unfolding worth_done
  does h =
      let same = lines_same h.sound.state (read_same f r room h.sound) in
      rw (same, nodes_same f r room, take-append-le (size (nodes f)) f r room)

  pub worth_tail_unread : worth (f ++ r) trial list ≡ worth f trial list
  unfolding worth_refusals
  worth_tail_unread = go (ℕ_discrete (judge (worth_refusals f trial list)) 0)
    where
      go : Dec (judge (worth_refusals f trial list) ≡ 0) → worth (f ++ r) trial list ≡ worth f trial list
      go (yes z) = worth_is_done (f ++ r) trial list (judged ∙ z) ∙ does (state_fine f _ z).0 ∙ sym (worth_is_done f trial list z)
      go (no k) =
          worth_refused (f ++ r) trial list (λ z. k (sym judged ∙ z))
          ∙ ap (λ j. record { number = j; answers = []; trial = trial; list = list }) judged
          ∙ sym (worth_refused f trial list k)

-- ---- where it is done

-- A copy of the form, whatever stands behind it, is accepted.
copy_accepted : (s r : List ℕ) → Fine s → Accepted (take (size (nodes s)) s ++ r)
unfolding form size
copy_accepted s r fine =
    let f = take (size (nodes s)) s in
    let long : length f ≡ size (nodes s) = length-take-le (size (nodes s)) s fine.room in
    let whole : f ++ drop (size (nodes s)) s ≡ s = take-append-drop (size (nodes s)) s in
    let head : nodes f ≡ nodes s = sym (nodes_append f (drop (size (nodes s)) s) (omega arith)) ∙ ap nodes whole in
    let same = tails_unread check f [] (rw head (le_of_eq (sym long))) in
    same.number r ∙ sym (same.number (drop (size (nodes s)) s)) ∙ rw whole (fine_accepted s fine)

pub worth_tells : EveryWorthTells
unfolding worth_refusals worth_done written read_as
worth_tells s trial list done =
    let z : judge (worth_refusals s trial list) ≡ 0 = sym (worth_number s trial list) ∙ done in
    let (fine, z₁) = state_fine s _ z in
    let (none, z₂) = judge_none (not_at_rest s) _ (omega arith) z₁ in
    let rest = judged_rest (read s) none in
    let few : nodes s ≤ 255 = omega (arith, fine.most) in
    record {
      runs = λ a b so inside. (lines_run (read s) fine.sound.state rest few a b so inside, line_fits (read s) fine.sound.state fine.most a b so inside);
      tells = λ agree a b ascends inside. lines_tell (read s) fine.sound.state rest agree few a b ascends inside;
      stands = λ a b so inside. ap (λ (v : Valued). take 7 (drop (7 * place_of (read s) a b) v.list)) (worth_is_done s trial list z) ∙ listed_stands (read s) list a b so inside;
      copy = rw (worth_is_done s trial list z) (copy_accepted s _ fine);
    }
