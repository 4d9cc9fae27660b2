use Rattle.std.proofs.Common.{ap}
use Rattle.hubs.proofs.HubTable.KindLemmas.{stands_within}
use Rattle.hubs.proofs.hub_table.letters.Letters.before.Goals as goal

pub returns-clause-value : goal.returns-clause-value
returns-clause-value c = ap (λ row. row.before) c.row.ensures

pub returns-clause-range : goal.returns-clause-range
returns-clause-range c = rw (returns-clause-value c) (stands_within c.args.self)
