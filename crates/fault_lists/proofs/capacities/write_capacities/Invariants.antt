use Rattle.std.proofs.Common.{take}
use Rattle.std.specs.Io.KnownBytes.{Appends}
use Rattle.fault_lists.specs.CapacityEntries.{capacities_text}
use Rattle.fault_lists.proofs.capacities.write_capacities.Given as goal

-- what is written is what is told so far
abbrev pub invariant-loop-fault : goal.invariant-loop-fault
invariant-loop-fault g l =
    Appends (g.W.Write.contents l.initial.out) (g.W.Write.contents l.out)
    (capacities_text l.source.text.now l.source.lines.now l.source.totals.now l.source.parts.now (take l.fault-index l.list))
