use Rattle.std.proofs.Common.{refl}
use Rattle.machine.proofs.ClosedContacts.{closes-joined}
use Rattle.machine.proofs.UnitOrder.{sensed-in_order, ended-in_order}
use Rattle.machine.proofs.laws.units_close_the_panels_contacts.Goals as goal

pub returns : goal.returns
returns c = record {
  at_start = λ wiring. refl;
  moving_on = λ machine next ordered. ordered;
  sensing = λ machine cycle point picture ordered. sensed-in_order machine.groups _ cycle point picture refl ordered;
  ending = λ machine cycle ordered. ended-in_order machine.groups _ cycle refl ordered;
  closed = closes-joined;
}
