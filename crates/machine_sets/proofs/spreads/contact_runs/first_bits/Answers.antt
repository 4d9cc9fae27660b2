use Rattle.machine_sets.proofs.SpreadsWords.ContactRuns.{ones}
use Rattle.machine_sets.proofs.spreads.contact_runs.first_bits.Goals as goal

pub returns-clause-bits : goal.returns-clause-bits
returns-clause-bits c k low = ones c.args.count k c.requires
