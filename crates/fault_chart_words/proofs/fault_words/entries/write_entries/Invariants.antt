use Rattle.std.proofs.Common.{take}
use Rattle.std.specs.Io.KnownBytes.{Appends}
use Rattle.fault_chart_words.specs.FaultWords.Entries.{entries_text}
use Rattle.fault_chart_words.proofs.fault_words.entries.write_entries.Given as goal

-- what is written is the entries so far
abbrev pub invariant-loop-fault : goal.invariant-loop-fault
invariant-loop-fault g l =
    Appends (g.W.Write.contents l.initial.out) (g.W.Write.contents l.out) (entries_text l.source l.raw (take l.fault-index l.faults))
