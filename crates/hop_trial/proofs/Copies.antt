-- Bytes that are copied: a turn of the loop, and a copy that is whole. Assumes nothing.
use mathlib.Core.Path.{◌≡◌, sym, ap, ◌∙◌}
use mathlib.Core.List.{List, ◌++◌}
use Prim.Native.Nat.{ℕ, suc, ◌+◌, ◌≤◌, ◌<◌}
use native.Mathlib.Nat.{le_of_lt}
use native.Mathlib.Numerals.{add-one}
use lib.ListN.{length, get_or, set, take, drop}
use lib.Seq.{length-take-le, take-suc, drop-cons, append_snoc, set_at}
use Rattle.hop_rule.specs.Records.{written}

-- The first k bytes of s, and behind them those of x.
abbrev pub overlaid : List ℕ → List ℕ → ℕ → List ℕ
overlaid s x k = take k s ++ drop k x

pub overlaid_turn : (s x : List ℕ) (k : ℕ) → k < length s → k < length x → set (overlaid s x k) k (get_or s k 0) ≡ overlaid s x (k + 1)
overlaid_turn s x k ls lx =
    ap (λ y. set (take k s ++ y) k (get_or s k 0)) (drop-cons x k 0 lx)
    ∙ set_at (take k s) (get_or x k 0) (drop (suc k) x) (get_or s k 0) k (length-take-le k s (le_of_lt ls))
    ∙ sym (append_snoc (take k s) (get_or s k 0) (drop (suc k) x))
    ∙ ap (λ y. y ++ drop (suc k) x) (sym (take-suc s k 0 ls))
    ∙ ap (overlaid s x) (sym (add-one k))

pub overlaid_written : (s x : List ℕ) (k : ℕ) → k ≤ length s → overlaid s x k ≡ written (take k s) x
unfolding written
overlaid_written s x k l = ap (λ m. take k s ++ drop m x) (sym (length-take-le k s l))
