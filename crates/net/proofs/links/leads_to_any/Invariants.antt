use Rattle.std.proofs.Common.{◌≡◌, ◌<◌, ℕ, false, get_or}
use Rattle.machine_sets.specs.BitSets.Bits.{has_place}
use Rattle.machine_sets.specs.declared.spreads.links.Link.{Link}
use Rattle.net.proofs.links.leads_to_any.Given as goal

-- no link so far leads to any of the places
abbrev pub invariant-loop-link : goal.invariant-loop-link
invariant-loop-link l = (k : ℕ) (d : Link) → k < l.link-index → has_place l.places (get_or l.links k d).to ≡ false
