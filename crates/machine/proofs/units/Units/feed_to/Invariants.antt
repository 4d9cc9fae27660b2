use Rattle.machine.specs.Feeds.{begun}
use Rattle.machine.proofs.FeedSteps.{left}
use Rattle.machine.proofs.KeptFeeds.{IsPast}
use Rattle.machine.proofs.units.Units.feed_to.Given as goal

-- the cycles so far are run, and their lines stand elsewhere
abbrev pub invariant-loop-cycle : goal.invariant-loop-cycle
invariant-loop-cycle l =
    IsPast l.net (begun l.fn.self l.next) (record { machine = l.self; waits = l.waits; next = l.next }) l.page l.line

abbrev pub decreases-loop-cycle : goal.decreases-loop-cycle
decreases-loop-cycle l = left (record { machine = l.self; waits = l.waits; next = l.next })
