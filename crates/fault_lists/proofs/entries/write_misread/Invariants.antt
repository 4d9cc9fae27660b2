use Rattle.std.proofs.Common.{take}
use Rattle.std.specs.Io.KnownBytes.{Appends}
use Rattle.fault_lists.specs.TextEntries.{lines_text}
use Rattle.fault_lists.proofs.entries.write_misread.Given as goal

-- what is written is the entries so far
abbrev pub invariant-loop-line : goal.invariant-loop-line
invariant-loop-line g l =
    Appends (g.W.Write.contents l.initial.out) (g.W.Write.contents l.out) (lines_text l.source (take l.line-index l.lines))
