use Rattle.std.proofs.Common.{ap}
use Rattle.hubs.proofs.hub_table.letters.Letters.shape.Goals as goal

pub returns : goal.returns
returns c = ap (λ row. row.shape) c.row.ensures
