use Rattle.std.specs.Prelude.{◌≡◌, map, take}
use Rattle.show_sums.specs.SumSections.WantedSums.{line_place}
use Rattle.show_sums.proofs.sum_sections.sums.line_places.Given as goal

-- the places of those so far
abbrev pub invariant-loop-one : goal.invariant-loop-one
invariant-loop-one l = l.places.items ≡ map line_place (take l.one-index l.wanted)
