use Rattle.std.proofs.Common.{MatchOption}
use Rattle.allocate.specs.HelperTaking.{NoneWaitsBelow, IsNext}
use Rattle.allocate.proofs.groups.next_total.Given as goal

abbrev pub invariant-loop-place : goal.invariant-loop-place
invariant-loop-place l = MatchOption l.next (NoneWaitsBelow l.place l.taken) (IsNext l.totals l.taken l.place)
