use Rattle.std.proofs.Common.{take}
use Rattle.std.specs.Io.KnownBytes.{Appends}
use Rattle.fault_wiring_words.specs.Entries.{wiring_entries}
use Rattle.fault_wiring_words.proofs.entries.write_entries.Given as goal

-- what is written is the entries so far
abbrev pub invariant-loop-fault : goal.invariant-loop-fault
invariant-loop-fault g l =
    Appends (g.W.Write.contents l.initial.out) (g.W.Write.contents l.out) (wiring_entries l.source l.good (take l.fault-index l.faults))
