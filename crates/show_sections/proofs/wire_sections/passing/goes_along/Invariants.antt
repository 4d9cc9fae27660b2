use Rattle.std.specs.Prelude.{◌≡◌, length}
use Rattle.show_sections.specs.WireSections.Passing.{goes_along}
use Rattle.show_sections.proofs.wire_sections.passing.goes_along.Given as goal

-- what is left of the way decides
abbrev pub invariant-loop-hub : goal.invariant-loop-hub
invariant-loop-hub l = goes_along l.wire l.rest ≡ goes_along l.wire l.way

abbrev pub decreases-loop-hub : goal.decreases-loop-hub
decreases-loop-hub l = length l.rest
