use Rattle.std.proofs.Common.{rules}
use Rattle.machine_sets.proofs.BitSets.PlaceLemmas.{part_past}
use Rattle.machine_sets.proofs.bit_sets.places.part_of_run.Goals as goal

pub returns-else-number-lt-WORDS : goal.returns-else-number-lt-WORDS
returns-else-number-lt-WORDS c k low = part_past c.args.words.now c.args.number c.args.first k (search rules)
