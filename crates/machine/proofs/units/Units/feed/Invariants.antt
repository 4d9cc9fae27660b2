use Rattle.machine.specs.Feeds.{begun}
use Rattle.machine.proofs.FeedSteps.{left}
use Rattle.machine.proofs.Going.{Gone}
use Rattle.machine.proofs.units.Units.feed.Given as goal

-- the cycles so far are run, and their lines stand
abbrev pub invariant-loop-cycle : goal.invariant-loop-cycle
invariant-loop-cycle l =
    Gone l.net (begun l.fn.self l.next) l.fn.out.items
    (record { machine = l.self; waits = l.waits; next = l.next }) l.out.items

abbrev pub decreases-loop-cycle : goal.decreases-loop-cycle
decreases-loop-cycle l = left (record { machine = l.self; waits = l.waits; next = l.next })
