use Rattle.hubs.specs.declared.hub.Hub.TheVariants.{PL, SI, SP}
use Rattle.net.proofs.TellingLemmas.{row-none}
use Rattle.net.proofs.orders.Orders.none.Goals as goal

pub returns : goal.returns
returns c = record {
  controls = row-none (PL (record { width = 3; number = 1 }));
  storage = row-none (SI 1);
  carriage = row-none (SP 2);
}
