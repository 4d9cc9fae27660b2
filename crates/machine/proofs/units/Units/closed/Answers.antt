use Rattle.std.proofs.Common.{subst, sym}
use Rattle.machine.specs.Fields.{machine_in}
use Rattle.machine.specs.Noted.{IsNoted}
use Rattle.machine.proofs.ClosedContacts.{steady-closed}
use Rattle.machine.proofs.units.Units.closed.Goals as goal

pub returns : goal.returns
returns c =
    rw (← c.self.view_is, ← c.self-inside.view_is)
    (steady-closed c.args.cycle
    (record { steady = c.steady_contacts-steady.result; digits = c.with_splits.result; zones = c.with_splits-2.result })
    (machine_in c.self-inside.inside.0.0) c.self-inside.inside.0.1.1.0 c.self-inside.invariant.groups (subst IsNoted (sym c.self-inside.view_is) c.self.invariant).latches c.steady_contacts-steady.ensures
    c.with_splits.ensures c.with_splits-2.ensures)
