use Rattle.std.proofs.Common.{◌∙◌, refl, subst, sym}
use Rattle.net.proofs.ImpulsedLaws.{empty_picture}
use Rattle.net.specs.HubSets.{has_hub}
use Rattle.net.specs.declared.cycle.Point.TheVariants.{K}
use Rattle.machine.specs.Fields.{machine_in}
use Rattle.machine.specs.Machine.{closes, emits}
use Rattle.machine.specs.Noted.{IsNoted}
use Rattle.machine.proofs.ControlPoint.{closing-sensed}
use Rattle.machine.proofs.KeptLatches.{sensed-kept}
use Rattle.machine.proofs.Pictures.{IsPicture-same}
use Rattle.machine.proofs.UnitOrder.{sensed-in_order}
use Rattle.machine.proofs.units.Units.close_in_silence.Goals as goal

pub sense_groups-busy-requires-clause-busy : goal.sense_groups-busy-requires-clause-busy
sense_groups-busy-requires-clause-busy c = (subst IsNoted (sym c.self-inside.view_is) c.self.invariant).busy

pub invariant_of-self-inside : goal.invariant_of-self-inside
invariant_of-self-inside c =
    record {
      groups =
          sensed-in_order c.self-inside.inside.0.0.groups c.sense_groups-busy.new.groups c.args.cycle K (has_hub c.new-silence.result)
          c.sense_groups-busy.ensures.sensed c.self-inside.invariant.groups;
      storage = c.self-inside.invariant.storage;
    }

pub invariant_of-self : goal.invariant_of-self
invariant_of-self c =
    record {
      busy = c.sense_groups-busy.ensures.busy;
      latches =
          sensed-kept c.self-inside.inside.0.0.groups c.sense_groups-busy.new.groups c.self-inside.inside.0.1.1.0 c.args.cycle K
          (has_hub c.new-silence.result) c.sense_groups-busy.ensures.sensed (subst IsNoted (sym c.self-inside.view_is) c.self.invariant).latches;
    }

abbrev pub returns-clause-senses : goal.returns-clause-senses
returns-clause-senses c = record {
  picture = has_hub c.new-silence.result;
  is_new =
      rw (← c.self.view_is, ← c.self-inside.view_is)
      (closing-sensed (machine_in c.self-inside.inside.0.0) c.args.cycle (has_hub c.new-silence.result) _ _
      c.sense_groups-busy.ensures.sensed c.sense.ensures);
}

pub returns-clause-step : goal.returns-clause-step
returns-clause-step c wiring =
    let old = c.args.self.now in
    let cycle = c.args.cycle in
    let senses = returns-clause-senses c in
    record {
      picture = senses.picture;
      is_picture =
          IsPicture-same wiring senses.picture (emits old cycle K) (closes old cycle K) (closes old cycle K) senses.picture
          (λ hub. c.new-silence.ensures hub ∙ sym (c.requires hub)) (λ hub. refl)
          (empty_picture wiring senses.picture (closes old cycle K) c.new-silence.ensures);
      is_new = senses.is_new;
    }
