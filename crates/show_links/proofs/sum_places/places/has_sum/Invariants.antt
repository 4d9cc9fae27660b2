use Rattle.std.specs.Prelude.{◌≡◌, drop}
use Rattle.show_links.specs.SumPlaces.Places.{has_sum}
use Rattle.show_links.proofs.sum_places.places.has_sum.Given as goal

-- the sum is one of those that are left, or of none
abbrev pub invariant-loop-one : goal.invariant-loop-one
invariant-loop-one l = has_sum (drop l.one-index l.sums) l.sum ≡ has_sum l.sums l.sum
