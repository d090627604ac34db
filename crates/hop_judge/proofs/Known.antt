-- What is known of a buffer and of two numbers where a call goes on. Assumes nothing.
use Rattle.std.specs.Prelude.{Result, Ok}
use mathlib.Core.Path.{◌≡◌, refl}
use mathlib.Core.List.{List, [], ◌∷◌}
use Prim.Native.Nat.{ℕ, ◌<◌, ◌*◌}
use native.Mathlib.Omega.{arith}
use lib.ListN.{length}
use borrow.Author.Tests.{leb-false, ltb-false}
use Rattle.hop_rule.specs.declared.Refused.{Refused}
use Rattle.hop_rule.specs.Stored.{size, nodes}
use Rattle.hop_rule.specs.Calls.{Refusal, judge, refusals, make, on_state, bad_count, short, no_node}
use Rattle.hop_laws.specs.Fine.{Fine}
use Rattle.hop_laws.proofs.Calls.{judge_none, good_count, state_fine}
use Rattle.hop_cells.specs.Cells.{Room}
use Rattle.hop_judge.specs.Verdict.{Judges}
use Rattle.hop_judge.proofs.Judging.{gone}

-- A state may be made: there is room for as many nodes as are asked for.
pub room_made : (s : List ℕ) (m : ℕ) {j : Result ℕ Refused} → Judges (judge (refusals (make m) s [])) m j → {n : ℕ} → j ≡ Ok n → Room m s
unfolding refusals
room_made s m e g =
    let (count, more) = judge_none (bad_count m) (short s (size m) ∷ []) (omega arith) (gone _ _ e g).0 in
    let (room, none) = judge_none (short s (size m)) [] (omega arith) more in
    record { most = (good_count m count).1; fits = ltb-false (length s) (size m) room }

module _ (s : List ℕ) {j : Result ℕ Refused} {n : ℕ} where
  module _ (more : List Refusal) (e : Judges (judge (on_state s more)) (nodes s) j) (g : j ≡ Ok n) where
    -- The count that the code goes on with is the claimed one.
    pub claim_known : n ≡ nodes s
    claim_known = (gone _ _ e g).1

    pub fine_known : Fine s
    fine_known = (state_fine s more (gone _ _ e g).0).0

    pub room_known : Room n s
    room_known = rw claim_known (record { most = fine_known.most; fits = fine_known.room })

  module _ (a : ℕ) (more : List Refusal) (e : Judges (judge (on_state s (no_node s a ∷ more))) (nodes s) j) (g : j ≡ Ok n) where
    -- The first refusal after the state's own did not apply, nor did the others.
    pub node_known : (a < nodes s) × (judge more ≡ 0)
    node_known =
        let (none, others) = judge_none (no_node s a) more (omega arith) (state_fine s _ (gone _ _ e g).0).1 in
        (leb-false (nodes s) a none, others)

  module _ (a b : ℕ) (more : List Refusal) (e : Judges (judge (on_state s (no_node s a ∷ no_node s b ∷ more))) (nodes s) j) (g : j ≡ Ok n) where
    pub ends_known : Fine s × (a < nodes s) × (b < nodes s)
    ends_known =
        let (la, others) = node_known a _ e g in
        (fine_known _ e g, la, leb-false (nodes s) b (judge_none (no_node s b) more (omega arith) others).0)

    pub ends_below : (a < n) × (b < n)
    ends_below =
        let claim = claim_known _ e g in
        let (fine, la, lb) = ends_known in
        (omega arith, omega arith)

    -- So a step between two nodes may be made.
    pub ends_ready : Room n s × (a < n) × (b < n)
    ends_ready = let (la, lb) = ends_below in (room_known _ e g, la, lb)

    -- And a byte of theirs may be read: a block of links, distances, downstreams or lengths has n * n cells by definition, which the reading asks for last.
    pub cell_below : (a < n) × (b < n) × (n * n ≡ n * n)
    cell_below = let (la, lb) = ends_below in (la, lb, refl)
