use Rattle.std.proofs.Common.{◌<◌, ℕ, slice_index_or}
use Rattle.machine_sets.specs.declared.bit_sets.contacts.Run.{Run}
use Rattle.machine_sets.specs.SpreadsWords.Blocks.{RunLeadsTo}
use Rattle.machine_sets.proofs.spreads.paths.far_blocks_of_eights.Given as goal

-- the blocks of the eights so far
abbrev pub invariant-loop-eight : goal.invariant-loop-eight
invariant-loop-eight l = (k : ℕ) (d : Run) → k < l.eight-index → RunLeadsTo l.blocks (slice_index_or l.eights k d)
