use Rattle.std.proofs.Common.{take}
use Rattle.machine_sets.specs.SpreadsWords.Links.{AreEights}
use Rattle.machine_sets.proofs.spreads.contact_runs.eights_of.Given as goal

-- the eights of the runs so far
abbrev pub invariant-loop-run : goal.invariant-loop-run
invariant-loop-run l = AreEights (take l.run-index l.runs) l.contacts l.eights.items
