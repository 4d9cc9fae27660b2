use Rattle.std.proofs.Common.{◌≡◌, take}
use Rattle.std.specs.List.{filter}
use Rattle.machine_sets.specs.BitSets.Bits.{has_place}
use Rattle.machine_sets.specs.declared.spreads.links.Link.{Link}
use Rattle.machine_sets.proofs.spreads.paths.links_from.Given as goal

abbrev pub invariant-loop-link : goal.invariant-loop-link
invariant-loop-link l = l.from.items ≡ filter (λ (link : Link). has_place l.places link.from) (take l.link-index l.links)
