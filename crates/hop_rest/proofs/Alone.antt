-- What the one end of a link that is up has on it stays until its own notice or link down: no delivery writes a view there, since nothing waits on such a link; link up is refused; and a notice at another end changes neither this end nor its views. Assumes nothing.
use mathlib.Core.Path.{◌≡◌, refl, sym, subst, ◌∙◌}
use mathlib.Core.Logic.{inl, inr}
use mathlib.Core.List.{List, []}
use Prim.Native.Nat.{ℕ, ◌<◌}
use native.Mathlib.Decide.{ℕ_discrete, dec_lt}
use native.Mathlib.Omega.{arith}
use lib.ListN.{drop}
use borrow.Author.Tests.{not-false}
use Rattle.hop_rule.specs.State.{State}
use Rattle.hop_rule.specs.Words.{loop}
use Rattle.hop_rule.specs.Rule as rule
use Rattle.hop_rule.specs.Rule.{link_up, passes, made}
use Rattle.hop_rule.specs.Stored.{size, nodes, read_as, read}
use Rattle.hop_rule.specs.Sound.{Linked, Sound}
use Rattle.hop_rule.specs.Notice as ends
use Rattle.hop_rule.specs.Notice.{missing, link_down}
use Rattle.hop_rule.specs.Calls.{Call, make, check, up, down, notice, deliver, pass, run, route, queue_length, total_queued, status, write_event, judge, end_down, refusals, restored, done, outcome}
use Rattle.hop_laws.specs.Fine.{Fine}
use Rattle.hop_laws.proofs.Tests.{decides}
use Rattle.hop_laws.proofs.Sound.{tells_up}
use Rattle.hop_laws.proofs.Rule.{up_link}
use Rattle.hop_laws.proofs.Notice.{missing_given, missing_none, down_ascending, down_descending}
use Rattle.hop_laws.proofs.Stored.{nodes_stored}
use Rattle.hop_laws.proofs.Read.{read_stored}
use Rattle.hop_laws.proofs.Calls.{judge_none, outcome_done, outcome_refused}
use Rattle.hop_laws.proofs.Accepted.{accepted_fine, ends_known, up_known}
use Rattle.hop_rest.specs.Delivered.{Over}
use Rattle.hop_rest.specs.Ends.{TakesDown, StaysAlone, StaysUntilNotice}
use Rattle.hop_rest.proofs.Right.{over_self}
use Rattle.hop_rest.proofs.Kept.{notice_n, notice_keeps_sound, down_keeps_sound, up_keeps_sound}
use Rattle.hop_rest.proofs.Delivered.{deliver_over}
use Rattle.hop_rest.proofs.Settling.{passes_over}
use Rattle.hop_rest.proofs.Run.{made_most}
use Rattle.hop_rest.proofs.AtOnce.{notice_link, notice_view}

-- ---- of states

-- The two ends and a's views on the link are the same in t as in s.
record Keeps (a b : ℕ) (s t : State) : Type 0 where
  n : t.n ≡ s.n
  own : t.link a b ≡ s.link a b
  other : t.link b a ≡ s.link b a
  view : (v : ℕ) → v < s.n → t.view a b v ≡ s.view a b v

keeps_trans : {a b : ℕ} {s t r : State} → Keeps a b s t → Keeps a b t r → Keeps a b s r
keeps_trans h k = record { n = k.n ∙ h.n; own = k.own ∙ h.own; other = k.other ∙ h.other; view = λ v l. k.view v (omega (arith, h.n)) ∙ h.view v l }

keeps_self : {a b : ℕ} (s : State) → Keeps a b s s
keeps_self s = record { n = refl; own = refl; other = refl; view = λ v l. refl }

-- Deliveries: the links stay, and the views where the other end is down.
over_keeps : {s t : State} {a b : ℕ} → a < s.n → b < s.n → (Linked s b a → ⊥) → Over s t → Keeps a b s t
over_keeps {s} {t} {a} {b} la lb f o = record { n = o.nodes; own = o.links a b la lb; other = o.links b a lb la; view = λ v lv. o.trusted a b v la lb lv f }

-- A notice by another end than these two.
notice_keeps : (s : State) (x y a b : ℕ) → ((x ≡ a) × (y ≡ b) → ⊥) → ((x ≡ b) × (y ≡ a) → ⊥) → Keeps a b s (ends.notice s x y)
notice_keeps s x y a b f g = record {
  n = notice_n s x y;
  own = (notice_link s x y a b).other (λ i j. f (sym i, sym j));
  other = (notice_link s x y b a).other (λ i j. g (sym i, sym j));
  view = λ v l. notice_view s x y a b v (λ i j. f (sym i, sym j));
}

missing_keeps : (s : State) (x y a b : ℕ) → ((x ≡ a) × (y ≡ b) → ⊥) → ((x ≡ b) × (y ≡ a) → ⊥) → Keeps a b s (missing s x y)
missing_keeps s x y a b f g = go (decides (tells_up s x y))
  where
    go : Dec (Linked s x y) → Keeps a b s (missing s x y)
    go (yes q) = subst (Keeps a b s) (sym (missing_given s x y q)) (notice_keeps s x y a b f g)
    go (no k) = subst (Keeps a b s) (sym (missing_none s x y k)) (keeps_self s)

down_keeps : (s : State) (x y a b : ℕ) → ((x ≡ a) × (y ≡ b) → ⊥) → ((x ≡ b) × (y ≡ a) → ⊥) → Keeps a b s (link_down s x y)
down_keeps s x y a b f g = go (dec_lt x y)
  where
    both : (p q : ℕ) → ((p ≡ a) × (q ≡ b) → ⊥) → ((p ≡ b) × (q ≡ a) → ⊥) → Keeps a b s (missing (missing s p q) q p)
    both p q h k = keeps_trans (missing_keeps s p q a b h k) (missing_keeps (missing s p q) q p a b (λ i. k (i.1, i.0)) (λ i. h (i.1, i.0)))

    go : Dec (x < y) → Keeps a b s (link_down s x y)
    go (yes l) = subst (Keeps a b s) (sym (down_ascending s x y l)) (both x y f g)
    go (no l) = subst (Keeps a b s) (sym (down_descending s x y l)) (both y x (λ i. g (i.1, i.0)) (λ i. f (i.1, i.0)))

-- ---- of bytes

module _ (s : List ℕ) (fine : Fine s) (a b : ℕ) (la : a < nodes s) (lb : b < nodes s) (q : Linked (read s) a b) (f : Linked (read s) b a → ⊥) where
  sound : Sound (read s)
  sound = fine.sound.state

  same_bytes : StaysAlone s s a b
  same_bytes = record { nodes_stay = refl; up_stays = q; down_stays = f; views_stay = λ v l. refl }

  -- What is stored of a sound state that keeps them.
  stored_keeps : (t : State) → Sound t → Keeps a b (read s) t → StaysAlone s (restored t s) a b
  unfolding read_as
  stored_keeps t o k =
      let nodes_t : nodes (restored t s) ≡ nodes s = nodes_stored t (drop (size t.n) s) ∙ k.n in
      let same = read_stored o (drop (size t.n) s) in
      let ia : a < nodes (restored t s) = rw nodes_t la in
      let ib : b < nodes (restored t s) = rw nodes_t lb in
      record {
        nodes_stay = nodes_t;
        up_stays = same.link a b ia ib ∙ k.own ∙ q;
        down_stays = λ r. f (sym (same.link b a ib ia ∙ k.other) ∙ r);
        views_stay = λ v l. same.view a b v ia ib (rw nodes_t l) ∙ k.view v l;
      }

  over_stays : (t : State) → Over (read s) t → StaysAlone s (restored t s) a b
  unfolding read_as
  over_stays t o = stored_keeps t o.sound (over_keeps la lb f o)

  done_stays : (c : Call) (out : List ℕ) → judge (refusals c s out) ≡ 0 → (TakesDown c a b → ⊥) → StaysAlone s (done c s out).bytes a b
  unfolding refusals done read_as passes loop link_up
  done_stays (make n) out z k = absurd (k tt)
  done_stays check out z k = same_bytes
  done_stays (up x y) out z k =
      let (lx, ly, apart, last) = ends_known s x y _ z in
      let (first, second) = up_known s x y last in
      let off : (x ≡ a) × (y ≡ b) → ⊥ = λ i. first (rw (i.0, i.1) q) in
      let off_too : (x ≡ b) × (y ≡ a) → ⊥ = λ i. second (rw (i.0, i.1) q) in
      stored_keeps (link_up (read s) x y) (up_keeps_sound (read s) x y sound lx ly apart first second) (record {
        n = refl;
        own = (up_link (read s) x y a b).other (λ h. elim h [ inl i ↦ off (sym i.0, sym i.1) | inr i ↦ off_too (sym i.1, sym i.0) ]);
        other = (up_link (read s) x y b a).other (λ h. elim h [ inl i ↦ off_too (sym i.0, sym i.1) | inr i ↦ off (sym i.1, sym i.0) ]);
        view = λ v l. refl;
      })
  done_stays (down x y) out z k =
      let (lx, ly, apart, last) = ends_known s x y _ z in
      stored_keeps (link_down (read s) x y) (down_keeps_sound (read s) x y sound lx ly) (down_keeps (read s) x y a b (λ i. k (inl i)) (λ i. k (inr i)))
  done_stays (notice x y) out z k =
      let (lx, ly, apart, last) = ends_known s x y _ z in
      let given : Linked (read s) x y = (tells_up (read s) x y).shows (not-false _ (judge_none (end_down s x y) [] (omega arith) last).0) in
      stored_keeps (ends.notice (read s) x y) (notice_keeps_sound (read s) x y sound lx) (notice_keeps (read s) x y a b k (λ i. f (rw (← i.0, ← i.1) given)))
  done_stays (deliver w u) out z k =
      let (lw, lu, apart, last) = ends_known s w u _ z in
      over_stays (rule.deliver (read s) w u) (deliver_over (read s) (read s) w u (over_self sound) lw lu)
  done_stays pass out z k = over_stays (rule.pass (read s)) (passes_over (read s) sound 1 fine.least)
  done_stays (run m) out z k = over_stays (passes (read s) (made (read s) m)) (passes_over (read s) sound (made (read s) m) (made_most (read s) sound m))
  done_stays (route u v) out z k = same_bytes
  done_stays (queue_length w u) out z k = same_bytes
  done_stays total_queued out z k = same_bytes
  done_stays (status u) out z k = same_bytes
  done_stays (write_event e) out z k = same_bytes

  outcome_stays : (c : Call) (out : List ℕ) → (TakesDown c a b → ⊥) → StaysAlone s (outcome c s out).bytes a b
  outcome_stays c out k = go (ℕ_discrete (judge (refusals c s out)) 0)
    where
      go : Dec (judge (refusals c s out) ≡ 0) → StaysAlone s (outcome c s out).bytes a b
      go (yes z) = rw (outcome_done c s out z) (done_stays c out z k)
      go (no g) = rw (outcome_refused c s out g) same_bytes

pub stays_until_notice : StaysUntilNotice
stays_until_notice c s out accepted a b la lb q f k = outcome_stays s (accepted_fine s accepted) a b la lb q f c out k
