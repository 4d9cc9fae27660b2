use Rattle.std.proofs.Common.{ap}
use Rattle.hubs.proofs.hub_table.letters.Letters.are_exits.Goals as goal

pub returns : goal.returns
returns c = ap (λ row. row.is_exit) c.row.ensures
