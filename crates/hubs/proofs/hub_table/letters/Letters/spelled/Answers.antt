use Rattle.std.proofs.Common.{ap}
use Rattle.hubs.proofs.hub_table.letters.Letters.spelled.Goals as goal

pub returns : goal.returns
returns c = ap (λ row. row.spelled) c.row.ensures
