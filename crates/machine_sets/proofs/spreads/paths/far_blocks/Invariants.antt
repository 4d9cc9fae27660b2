use Rattle.std.proofs.Common.{◌≡◌, ◌<◌, ◌/◌, ℕ, true, slice_index_or}
use Rattle.machine_sets.specs.BitSets.Bits.{is_bit}
use Rattle.machine_sets.specs.declared.spreads.links.Link.{Link}
use Rattle.machine_sets.proofs.spreads.paths.far_blocks.Given as goal

-- the blocks of the links so far
abbrev pub invariant-loop-link : goal.invariant-loop-link
invariant-loop-link l = (k : ℕ) (d : Link) → k < l.link-index → is_bit l.blocks ((slice_index_or l.links k d).to / 32) ≡ true
