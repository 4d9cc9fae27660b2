use Rattle.std.proofs.Common.{◌≡◌, ℕ, take}
use Rattle.machine_sets.specs.BitSets.Bits.{has_place}
use Rattle.machine_sets.specs.SpreadsWords.Links.{is_led_to}
use Rattle.machine_sets.proofs.spreads.paths.places_led_to.Given as goal

-- the places to which the links so far lead
abbrev pub invariant-loop-link : goal.invariant-loop-link
invariant-loop-link l = (place : ℕ) → has_place l.places place ≡ is_led_to (take l.link-index l.links) place
