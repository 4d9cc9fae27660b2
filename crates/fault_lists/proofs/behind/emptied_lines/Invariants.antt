use Rattle.std.proofs.Common.{◌≡◌, drop}
use Rattle.fault_lists.specs.Behind.{emptied_lines}
use Rattle.fault_lists.proofs.behind.emptied_lines.Given as goal

-- once the lines that are left are emptied too, all are
abbrev pub invariant-loop-line : goal.invariant-loop-line
invariant-loop-line l = emptied_lines (drop l.line-index l.lines) l.left.items ≡ emptied_lines l.lines l.text
