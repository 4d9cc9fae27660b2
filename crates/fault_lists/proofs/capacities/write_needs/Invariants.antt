use Rattle.std.proofs.Common.{take}
use Rattle.std.specs.Io.KnownBytes.{Appends}
use Rattle.fault_lists.specs.CapacityEntries.{needs_at}
use Rattle.fault_lists.proofs.capacities.write_needs.Given as goal

-- what is written is what is told so far
abbrev pub invariant-loop-total : goal.invariant-loop-total
invariant-loop-total g l =
    Appends (g.W.Write.contents l.initial.out) (g.W.Write.contents l.out) (needs_at l.text l.width (take l.total-index l.totals))
