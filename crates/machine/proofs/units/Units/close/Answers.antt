use Rattle.std.proofs.Common.{Bool, ◌||◌, ◌∙◌, ap, refl, subst}
use Rattle.hubs.specs.declared.hub.Hub.TheVariants.{CO}
use Rattle.net.specs.HubSets.{has_hub, is_in_row}
use Rattle.net.specs.declared.cycle.Point.TheVariants.{K}
use Rattle.stations.specs.Comparing.{comparing_emits}
use Rattle.machine.specs.Fields.{AreInUnitOrder}
use Rattle.machine.specs.Machine.{MachineState, emits, closes}
use Rattle.machine.specs.declared.units.Units.TheInside.{Inside}
use Rattle.machine.proofs.ControlPoint.{closing-emits}
use Rattle.machine.proofs.Pictures.{IsPicture-same}
use Rattle.machine.proofs.Rest.{first_group}
use Rattle.machine.proofs.units.Units.close.Goals as goal

pub returns-clause-step : goal.returns-clause-step
returns-clause-step c = λ wiring is_net.
    let old = c.args.self.now in
    let cycle = c.args.cycle in
    let view_is = ap (λ (units : Inside). units.all) c.self-inside.view_is ∙ c.self.view_is in
    let ordered = subst (λ (m : MachineState). AreInUnitOrder m.groups) view_is c.self-inside.invariant.groups in
    record {
      picture = has_hub c.impulse_closing.new.picture;
      is_picture =
          IsPicture-same wiring (has_hub c.emit_carries.new.exits) (emits old cycle K) (closes old cycle K)
          (closes old cycle K) (has_hub c.impulse_closing.new.picture)
          (λ hub.
          c.emit_carries.ensures hub
          ∙ ap (λ (b : Bool). b || is_in_row (CO first_group) c.args.carrying hub)
          (c.emit.ensures hub
          ∙ ap (λ (b : Bool). b || comparing_emits c.self-inside.inside.0.0.comparing cycle K hub) (c.new-emitted.ensures hub)
          ∙ ap (λ (m : MachineState). comparing_emits m.comparing cycle K hub) view_is)
          ∙ closing-emits old cycle c.args.carrying hub ordered c.requires.carrying)
          (λ hub. refl) (c.impulse_closing.ensures wiring is_net);
      is_new = c.sense.ensures;
    }

pub returns-clause-senses : goal.returns-clause-senses
returns-clause-senses c = record { picture = has_hub c.impulse_closing.new.picture; is_new = c.sense.ensures }
