use Prim.Native.Nat.{◌-◌}
use lib.ListN.{length}
use Rattle.hop_replay.proofs.Left.{Midway}
use Rattle.hop_replay.proofs.put_events.Given as goal

abbrev pub invariant-loop-found : goal.invariant-loop-found
invariant-loop-found l = Midway l.script l.initial.state l.initial.page l.state l.page l.place l.ordinal

abbrev pub decreases-loop-found : goal.decreases-loop-found
decreases-loop-found l = length l.script - l.place
