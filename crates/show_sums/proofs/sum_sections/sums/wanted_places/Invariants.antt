use Rattle.std.specs.Prelude.{◌≡◌, map, take}
use Rattle.show_sums.specs.SumSections.WantedSums.{wanted_at}
use Rattle.show_sums.proofs.sum_sections.sums.wanted_places.Given as goal

-- the places of those so far
abbrev pub invariant-loop-one : goal.invariant-loop-one
invariant-loop-one l = l.places.items ≡ map wanted_at (take l.one-index l.wanted)
