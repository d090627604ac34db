-- `run` meets its contract: after so many passes something still waited before each of them. Assumes nothing.
use mathlib.Core.List.{List}
use mathlib.Core.Path.{◌≡◌, refl, sym, ap, ◌∙◌}
use Prim.Native.Nat.{ℕ}
use native.Mathlib.Omega.{arith}
use borrow.Author.Tests.{eq-eqb, ne_eqb}
use borrow.Author.Count.{below_none, below_more}
use Rattle.hop_laws.proofs.Words.{loop_none, loop_turn, sum_none, first_is, first_none}
use Rattle.hop_cells.proofs.Loops.{sum_turn}
use Rattle.hop_counts.specs.Counts.{queued}
use Rattle.hop_runs.specs.declared.Ran.{Ran}
use Rattle.hop_runs.specs.Runs.{passes, made as made_of, delivered, ran, run}
use Rattle.hop_runs.proofs.Places.{is_pass}
use Rattle.hop_runs.proofs.run.Goals as goal

-- What is answered and what is left, once it is known how many passes are made.
ends : (n k p d : ℕ) (s t : List ℕ) → made_of n k s ≡ p → t ≡ passes n p s → d ≡ delivered n p s
    → (◌≡◌ {A = Ran} (record { passes = p; deliveries = d }) (ran n k s)) × (t ≡ run n k s)
unfolding ran run
ends n k p d s t m e h = rw m (rw h, e)

pub loop-made-init : goal.loop-made-init
unfolding passes delivered
loop-made-init c = (omega arith, refl, omega arith, sym (loop_none _ _), sym (sum_none _), below_none _, refl)

pub loop-made-preserved : goal.loop-made-preserved
unfolding passes delivered
loop-made-preserved c =
    let l = c.loop-made in
    let q = c.note-waiting in (
      omega arith,
      omega arith,
      omega arith,
      loop_turn _ _ _ l.invariant.3 (c.pass_noted.ensures ∙ is_pass _ q.new.noted _ q.ensures.2),
      sum_turn _ _ l.invariant.4 (q.ensures.0 ∙ ap (queued _) l.invariant.3),
      below_more _ _ l.invariant.5 (rw (← l.invariant.3, ← q.ensures.0) (ne_eqb _ _ c.if-waiting-eq0.false)),
      omega arith,
    )

pub returns : goal.returns
unfolding made_of
returns c =
    let l = c.loop-made in
    let all : l.made ≡ c.args.k = omega (arith, l.invariant.0, c.loop-made-test.false) in
    ends _ _ _ _ _ _ (first_none _ _ (λ j b. l.invariant.5 j (omega arith))) (rw (← all) l.invariant.3) (rw (← all) l.invariant.4)

pub returns-then-waiting-eq0 : goal.returns-then-waiting-eq0
unfolding made_of
returns-then-waiting-eq0 c =
    let l = c.loop-made in
    ends _ _ _ _ _ _ (first_is _ _ _ c.loop-made-test.true (rw (← l.invariant.3, ← c.note-waiting.ensures.0) (eq-eqb _ _ c.if-waiting-eq0.true)) l.invariant.5) l.invariant.3 l.invariant.4
