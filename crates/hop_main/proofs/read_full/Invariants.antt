-- What was read stands at the start of the buffer. Each turn but the last reads at least a byte, so less is left to fill. Assumes nothing.
use Rattle.std.specs.Prelude.{length, ◌-◌, ◌≤◌}
use Rattle.hop_main.proofs.read_full.Given as goal

abbrev pub invariant-loop-done : goal.invariant-loop-done
invariant-loop-done g l = l.done ≤ length l.buf

abbrev pub decreases-loop-done : goal.decreases-loop-done
decreases-loop-done g l = length l.buf - l.done
