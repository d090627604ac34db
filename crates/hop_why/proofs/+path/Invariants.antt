-- The hop count falls with each call.
use Rattle.hop_why.proofs.+path.Given as goal

abbrev pub decreases-path : goal.decreases-path
decreases-path l = l.hops
