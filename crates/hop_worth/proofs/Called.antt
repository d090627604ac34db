-- The call where it goes on: what is then known of the three buffers, that the copy is made, and that the lines written are its result; and where it is refused. Assumes nothing.
use Rattle.std.specs.Prelude.{Result, Ok, Err}
use mathlib.Core.Path.{◌≡◌, sym, ap, ◌∙◌}
use mathlib.Core.List.{List, []}
use Prim.Native.Nat.{ℕ, ◌+◌, ◌≤◌}
use native.Mathlib.Omega.{arith}
use lib.IntN.{ℤ}
use lib.ListN.{length, take, drop, length-append, length-drop}
use lib.Seq.{length-take-le, take_at, sets}
use borrow.Author.Tests.{eqb-true, ltb-false, not-false}
use Rattle.hop_rule.specs.declared.Refused.{Refused}
use Rattle.hop_rule.specs.Rule.{total}
use Rattle.hop_rule.specs.Stored.{size, nodes, read}
use Rattle.hop_rule.specs.Records.{written}
use Rattle.hop_rule.specs.Calls.{judge, not_at_rest, short}
use Rattle.hop_rule.specs.Worth.{lines, numbers, worth_refusals, worth_done, worth}
use Rattle.hop_laws.specs.Fine.{Fine}
use Rattle.hop_laws.proofs.Calls.{judge_none, state_fine}
use Rattle.hop_laws.proofs.Worth.{worth_is_done, worth_refused}
use Rattle.hop_judge.specs.Verdict.{Judges}
use Rattle.hop_judge.proofs.Judging.{gone, stopped}
use Rattle.hop_trial.specs.Trial.{Copied}
use Rattle.hop_worth.specs.Answers.{valued}
use Rattle.hop_laws.proofs.Lists.{sets_written}

-- Where no refusal applies.
pub record Known (s trial : List ℕ) (list : List ℤ) : Type 0 where
  pub fine : Fine s
  pub rests : total (read s) ≡ 0
  pub room : size (nodes s) ≤ length trial
  pub holds : length (numbers (lines (read s))) ≤ length list

module _ (s trial : List ℕ) (list : List ℤ) {j : Result ℕ Refused} (e : Judges (judge (worth_refusals s trial list)) (nodes s) j) where
  pub worth_stopped : {r : Refused} → j ≡ Err r → valued (Err r) trial list ≡ worth s trial list
  worth_stopped f =
      let (same, some) = stopped _ _ e f in
      ap (λ c. record { number = c; answers = []; trial = trial; list = list }) same ∙ sym (worth_refused s trial list some)

  module _ {n : ℕ} (g : j ≡ Ok n) where
    claim : n ≡ nodes s
    claim = (gone _ _ e g).1

    pub known : Known s trial list
    unfolding worth_refusals
    known =
        let (fine, z₁) = state_fine s _ (gone _ _ e g).0 in
        let (rests, z₂) = judge_none (not_at_rest s) _ (omega arith) z₁ in
        let (room, z₃) = judge_none (short trial (size (nodes s))) _ (omega arith) z₂ in
        let (holds, z₄) = judge_none (short list (length (numbers (lines (read s))))) _ (omega arith) z₃ in
        record {
          fine = fine;
          rests = eqb-true (total (read s)) 0 (not-false _ rests);
          room = ltb-false (length trial) (size (nodes s)) room;
          holds = ltb-false (length list) (length (numbers (lines (read s)))) holds;
        }

    pub count_most : n ≤ 40
    count_most = omega (arith, claim, known.fine.most)

    -- There is room for the copy, and it is one.
    pub copy_fits : {k : ℕ} → k ≡ size n → (k ≤ length s) × (k ≤ length trial)
    copy_fits {k} q = let at : k ≡ size (nodes s) = q ∙ ap size claim in (omega (arith, at, known.fine.room), omega (arith, at, known.room))

    pub copy_made : {k : ℕ} {x : List ℕ} → k ≡ size n → x ≡ written (take k s) trial → Copied n s x
    unfolding written
    copy_made {k} {x} q w =
        let (long, wide) = copy_fits q in
        let front : length (take k s) ≡ k = length-take-le k s long in
        let all : length x ≡ length (take k s) + length (drop (length (take k s)) trial) = ap length w ∙ length-append (take k s) _ in
        record {
          claim = claim;
          fine = known.fine;
          rests = known.rests;
          room = omega (arith, q, all, front, length-drop (length (take k s)) trial, wide);
          copy = ap (λ m. take m x) (sym q) ∙ ap (take k) w ∙ take_at (take k s) _ k front ∙ ap (λ m. take m s) q;
        }

    -- So what is written is the call's result.
    pub worth_made : {k r : ℕ} {x y : List ℕ} {l : List ℤ}
        → k ≡ size n
        → x ≡ written (take k s) trial
        → r ≡ length (lines (read s))
        → l ≡ sets list 0 (numbers (lines (read s)))
        → y ≡ x
        → valued (Ok r) y l ≡ worth s trial list
    unfolding worth_done
    worth_made q w count put still =
        let copied = still ∙ w ∙ ap (λ m. written (take m s) trial) (q ∙ ap size claim) in
        let filled = put ∙ sets_written (numbers (lines (read s))) list known.holds in
        rw (count, copied, filled) (sym (worth_is_done s trial list (gone _ _ e g).0))
