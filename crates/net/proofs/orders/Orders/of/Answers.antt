use Rattle.net.proofs.orders.Orders.of.Goals as goal

pub returns : goal.returns
returns c = record {
  controls = c.row.ensures.hubs;
  storage = c.row-2.ensures.hubs;
  carriage = c.row-3.ensures.hubs;
}
