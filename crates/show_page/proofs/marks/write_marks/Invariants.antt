use Rattle.std.specs.Prelude.{drop}
use Rattle.std.specs.String.{string_bytes}
use Rattle.show_page.proofs.MarkRules.{RulesLeft}
use Rattle.show_page.proofs.marks.write_marks.Given as goal

-- the rules of the lines that are left are still to be written
abbrev pub invariant-loop-placed : goal.invariant-loop-placed
invariant-loop-placed l =
    RulesLeft (string_bytes l.initial.text) (string_bytes l.text) l.before (drop l.placed-index l.lines) l.lines
