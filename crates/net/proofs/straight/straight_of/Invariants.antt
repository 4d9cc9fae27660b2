use Rattle.std.proofs.Common.{take}
use Rattle.machine_sets.specs.SpreadsWords.Links.{is_linked}
use Rattle.net.specs.Straight.{AreRunsOf}
use Rattle.net.proofs.straight.straight_of.Given as goal

-- the wires so far are in the runs
abbrev pub invariant-loop-link : goal.invariant-loop-link
invariant-loop-link l = AreRunsOf (is_linked (take l.link-index l.links)) l.runs.items
