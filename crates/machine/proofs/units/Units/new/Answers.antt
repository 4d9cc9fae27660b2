use Rattle.std.proofs.Common.{subst, sym, ap, ◌∙◌}
use Rattle.machine.specs.Machine.{MachineState}
use Rattle.machine.specs.Rest.{AreBusy}
use Rattle.machine.specs.Steady.{balance_latches}
use Rattle.machine.proofs.Rest.{start-busy}
use Rattle.machine.proofs.units.Units.new.Goals as goal

pub invariant_of-result : goal.invariant_of-result
invariant_of-result c = record {
  busy = subst (λ (m : MachineState). AreBusy c.none.result m.groups) (sym c.new.ensures) (start-busy c.none.result);
  latches = c.of.ensures ∙ sym (ap (λ (m : MachineState). balance_latches m.groups) c.new.ensures);
}
