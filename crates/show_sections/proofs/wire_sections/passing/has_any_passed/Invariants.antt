use Rattle.std.specs.Prelude.{◌≡◌, drop}
use Rattle.std.specs.List.{list_any}
use Rattle.show_sections.specs.WireSections.Passing.{has_passed}
use Rattle.show_sections.proofs.wire_sections.passing.has_any_passed.Given as goal

-- the rows that are left decide
abbrev pub invariant-loop-row : goal.invariant-loop-row
invariant-loop-row l = list_any (has_passed l.part) (drop l.row-index l.rows) ≡ list_any (has_passed l.part) l.rows
