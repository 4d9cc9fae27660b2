use Rattle.machine.proofs.FeedSteps.{left}
use Rattle.machine.proofs.KeptPages.{IsKeeping}
use Rattle.machine.proofs.units.Units.feed_page.Given as goal

-- the cycles so far are run, and those that placed a line on the page are kept
abbrev pub invariant-loop-cycle : goal.invariant-loop-cycle
invariant-loop-cycle l =
    IsKeeping l.net l.fn.self l.next (record { machine = l.self; waits = l.waits; next = l.next }) l.page l.fn.kept.items l.kept.items

abbrev pub decreases-loop-cycle : goal.decreases-loop-cycle
decreases-loop-cycle l = left (record { machine = l.self; waits = l.waits; next = l.next })
