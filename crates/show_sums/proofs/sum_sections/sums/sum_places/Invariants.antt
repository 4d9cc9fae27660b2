use Rattle.std.specs.Prelude.{◌≡◌, map, take}
use Rattle.show_sums.specs.SumSections.Sums.{place_of}
use Rattle.show_sums.proofs.sum_sections.sums.sum_places.Given as goal

-- the places of those so far
abbrev pub invariant-loop-sum : goal.invariant-loop-sum
invariant-loop-sum l = l.places.items ≡ map place_of (take l.sum-index l.sums)
