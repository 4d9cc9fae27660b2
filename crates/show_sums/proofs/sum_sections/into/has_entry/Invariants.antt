use Rattle.std.specs.Prelude.{◌≡◌, drop}
use Rattle.show_sums.specs.SumSections.Into.{has_entry}
use Rattle.show_sums.proofs.sum_sections.into.has_entry.Given as goal

-- it is one of those that are left, or of none
abbrev pub invariant-loop-entry : goal.invariant-loop-entry
invariant-loop-entry l = has_entry (drop l.entry-index l.entries) l.passed ≡ has_entry l.entries l.passed
