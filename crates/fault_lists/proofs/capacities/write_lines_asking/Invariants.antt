use Rattle.std.proofs.Common.{take}
use Rattle.std.specs.Io.KnownBytes.{Appends}
use Rattle.fault_lists.specs.CapacityEntries.{lines_asking}
use Rattle.fault_lists.proofs.capacities.write_lines_asking.Given as goal

-- what is written is what is told so far
abbrev pub invariant-loop-line : goal.invariant-loop-line
invariant-loop-line g l =
    Appends (g.W.Write.contents l.initial.out) (g.W.Write.contents l.out) (lines_asking l.text l.parts l.fault (take l.line-index l.lines))
