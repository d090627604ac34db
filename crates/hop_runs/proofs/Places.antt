-- The places of the lengths in one row: each is that of a sender and a receiver, and going through the row is going through the senders' rows. Assumes nothing.
use mathlib.Core.Path.{◌≡◌, sym, ap, ◌∙◌}
use mathlib.Core.Bool.{true}
use mathlib.Core.List.{List}
use Prim.Native.Nat.{ℕ, zero, suc, ◌+◌, ◌*◌, ◌/◌, ◌%◌, ◌<◌}
use native.Mathlib.Nat.{mod-lt, div-lt_iff_lt-mul}
use native.Mathlib.Omega.{arith}
use lib.Arith.{digits_div, digits_mod}
use lib.ListN.{get_or}
use Rattle.hop_rule.specs.declared.Table.TheVariants.{Lengths}
use Rattle.hop_rule.specs.Words.{loop}
use Rattle.hop_laws.proofs.Words.{loop_none, loop_same, loop_idle, loop_add, loop_rows}
use Rattle.hop_laws.proofs.Tests.{tells_eq, tells_every}
use Rattle.hop_cells.specs.Cells.{get}
use Rattle.hop_cells.proofs.Places.{cell2_lt}
use Rattle.hop_rows.specs.Rows.{all_are}
use Rattle.hop_steps.specs.Steps.{drain}
use Rattle.hop_runs.specs.Runs.{pass_from, pass_at, pass}

-- Where there is a place, there is a node.
pub some : (n : ℕ) {i : ℕ} → i < n * n → 0 < n
some zero l = absurd (omega arith)
some (suc n) l = omega arith

pub sender_lt : {n i : ℕ} → i < n * n → i / n < n
sender_lt {n} l = (div-lt_iff_lt-mul (some n l)).1 l

pub receiver_lt : {n i : ℕ} → i < n * n → i % n < n
receiver_lt {n} {i} l = mod-lt i (some n l)

-- What is noted at each place is what its queue held, and all places are all rows.
pub is_pass : (n : ℕ) (noted s : List ℕ) → ((i : ℕ) → i < n * n → get_or noted i 0 ≡ get n Lengths i s) → loop (n * n) (pass_at n noted) s ≡ pass n s
unfolding pass pass_from
is_pass n noted s h =
    loop_rows n n (pass_at n noted) s
    ∙ loop_same n _ _ s (λ w t l. loop_same n _ _ t (λ u t' k. rw (digits_div w k, digits_mod w k, h (w * n + u) (cell2_lt l k))))

-- Turns behind turns.
pub behind : {A : Type 0} (k m z : ℕ) (f : ℕ → A → A) (a : A) {b c : A} → k + m ≡ z → b ≡ loop k f a → c ≡ loop m (λ (j : ℕ). f (k + j)) b → c ≡ loop z f a
behind k m z f a h e l = l ∙ ap (loop m (λ (j : ℕ). f (k + j))) e ∙ sym (loop_add k m f a) ∙ ap (λ (x : ℕ). loop x f a) h

-- Eight places at which nothing is noted.
pub nothing : (n : ℕ) (noted : List ℕ) (i : ℕ) (s : List ℕ) → all_are noted i 8 0 ≡ true → s ≡ loop 8 (λ (j : ℕ). pass_at n noted (i + j)) s
unfolding all_are drain
nothing n noted i s h =
    let none = (tells_every 8 (λ j l. tells_eq (get_or noted (i + j) 0) 0)).shows h in
    sym (loop_idle 0 8 _ s (omega arith) (λ j a l. rw (none j l)) ∙ loop_none _ s)
