use Rattle.hubs.specs.declared.hub.Hub.TheVariants.{PL, SI, SP}
use Rattle.net.proofs.TellingLemmas.{row-joined}
use Rattle.net.proofs.orders.Orders.joined.Goals as goal

pub returns : goal.returns
returns c one other is and_is = record {
  controls = row-joined (PL (record { width = 3; number = 1 })) one other c.args.self.now.controls c.args.more.now.controls is.controls and_is.controls;
  storage = row-joined (SI 1) one other c.args.self.now.storage c.args.more.now.storage is.storage and_is.storage;
  carriage = row-joined (SP 2) one other c.args.self.now.carriage c.args.more.now.carriage is.carriage and_is.carriage;
}
