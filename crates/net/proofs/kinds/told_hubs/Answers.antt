use Rattle.net.proofs.KindExits.{HasOrders-rows}
use Rattle.net.proofs.kinds.told_hubs.Goals as goal

pub returns : goal.returns
returns c picture are = HasOrders-rows c.args.orders.now _ _ _ c.insert_row.ensures c.insert_row-2.ensures picture are
