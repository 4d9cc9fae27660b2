use Rattle.hubs.specs.declared.hub.Hub.TheVariants.{PL, SI, SP}
use Rattle.net.proofs.KindExits.{row-ones}
use Rattle.net.proofs.orders.Orders.all.Goals as goal

pub returns : goal.returns
returns c = record {
  controls = row-ones (PL (record { width = 3; number = 1 }));
  storage = row-ones (SI 1);
  carriage = row-ones (SP 2);
}
