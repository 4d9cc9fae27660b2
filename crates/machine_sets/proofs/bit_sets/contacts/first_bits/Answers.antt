use Rattle.machine_sets.proofs.BitSets.ContactLemmas.{ones_short, ones_full}
use Rattle.machine_sets.proofs.bit_sets.contacts.first_bits.Goals as goal

pub returns-then-count-lt128 : goal.returns-then-count-lt128
returns-then-count-lt128 c k = ones_short c.args.count k c.if-count-lt128.true

pub returns-else-count-lt128 : goal.returns-else-count-lt128
returns-else-count-lt128 c k = ones_full c.args.count k c.requires c.if-count-lt128.false
