use Rattle.std.proofs.Common.{subst, sym}
use Rattle.machine.specs.Fields.{machine_in}
use Rattle.machine.specs.Noted.{IsNoted}
use Rattle.machine.proofs.ControlPoint.{closing-silent}
use Rattle.machine.proofs.units.Units.run_closing.Goals as goal

pub carrying-carrying-requires : goal.carrying-carrying-requires
carrying-carrying-requires c = (subst IsNoted (sym c.self-inside.view_is) c.self.invariant).busy

pub close_in_silence-requires : goal.close_in_silence-requires
close_in_silence-requires c exit =
    rw (← c.self.view_is, ← c.self-inside.view_is)
    (closing-silent (machine_in c.self-inside.inside.0.0) c.args.cycle c.carrying-carrying.result exit c.self-inside.invariant.groups
    c.carrying-carrying.ensures c.if-carrying-eq0.true (c.has_difference.ensures c.if-not-has_difference.true c.args.cycle exit))

pub close-requires-clause-carrying : goal.close-requires-clause-carrying
close-requires-clause-carrying c k = rw (← c.self.view_is, ← c.self-inside.view_is) (c.carrying-carrying.ensures k)
