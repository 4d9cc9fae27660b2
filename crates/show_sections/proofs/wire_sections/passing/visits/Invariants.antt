use Rattle.std.specs.Prelude.{◌≡◌, drop}
use Rattle.show_sections.specs.WireSections.Passing.{visits}
use Rattle.show_sections.proofs.wire_sections.passing.visits.Given as goal

-- what is left of the way decides
abbrev pub invariant-loop-hub : goal.invariant-loop-hub
invariant-loop-hub l = visits l.number (drop l.hub-index l.way) ≡ visits l.number l.way
