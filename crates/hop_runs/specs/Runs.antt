-- What the code does to the bytes in a pass and in a run. Total, as the single events are; on sound bytes each is the rule's.
-- Used by the code's own definitions; a buyer needs none of it.
use Rattle.std.specs.Prelude.{List, ℕ, ◌+◌, ◌*◌, ◌/◌, ◌%◌, eqb, get_or}
use Rattle.hop_rule.specs.declared.Table.TheVariants.{Lengths}
use Rattle.hop_rule.specs.Words.{loop, sum, first}
use Rattle.hop_cells.specs.Cells.{get}
use Rattle.hop_counts.specs.Counts.{queued}
use Rattle.hop_steps.specs.Steps.{drain}
use Rattle.hop_runs.specs.declared.Ran.{Ran}

-- The queues of sender w, ascending by receiver; each gives up as many entries as are noted for it: what it held in s₀.
abbrev pub pass_by : ℕ → (ℕ → ℕ) → ℕ → List ℕ → List ℕ
pass_by n noted w s = loop n (λ u. drain n w u (noted (w * n + u))) s

unfoldable pub pass_from : ℕ → List ℕ → ℕ → List ℕ → List ℕ
pass_from n s₀ w s = pass_by n (λ i. get n Lengths i s₀) w s

-- The queue at place i of the lengths, which is that of sender i / n and receiver i % n: it gives up as many entries as are noted there.
abbrev pub pass_at : ℕ → List ℕ → ℕ → List ℕ → List ℕ
pass_at n noted i s = drain n (i / n) (i % n) (get_or noted i 0) s

-- 'Pass': the senders, ascending, by the lengths at its start.
unfoldable pub pass : ℕ → List ℕ → List ℕ
pass n s = loop n (pass_from n s) s

-- 'Run': k passes; how many of an allowance k are made; what they deliver.
unfoldable pub passes : ℕ → ℕ → List ℕ → List ℕ
passes n k s = loop k (λ i. pass n) s

unfoldable pub made : ℕ → ℕ → List ℕ → ℕ
made n k s = first k (λ j. eqb (queued n (passes n j s)) 0)

unfoldable pub delivered : ℕ → ℕ → List ℕ → ℕ
delivered n k s = sum k (λ j. queued n (passes n j s))

-- What a run with allowance k answers, and the bytes that it leaves.
unfoldable pub ran : ℕ → ℕ → List ℕ → Ran
ran n k s = record { passes = made n k s; deliveries = delivered n (made n k s) s }

unfoldable pub run : ℕ → ℕ → List ℕ → List ℕ
run n k s = passes n (made n k s) s
