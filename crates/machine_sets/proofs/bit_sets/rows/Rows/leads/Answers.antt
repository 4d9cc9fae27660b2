use Rattle.std.proofs.Common.{◌≤◌, sym, length, rules}
use Rattle.machine_sets.proofs.BitSets.LedLemmas.{leads-past}
use Rattle.machine_sets.proofs.bit_sets.rows.Rows.leads.Goals as goal

pub returns-else-from-len : goal.returns-else-from-len
returns-else-from-len c =
    let past : length c.self.inside.rows.items ≤ c.args.from = search rules in
    rw (← c.self.view_is) (sym (leads-past c.self.inside.rows.items c.args.from c.args.to past))
