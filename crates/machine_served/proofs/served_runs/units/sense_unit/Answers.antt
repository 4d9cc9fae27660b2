use Rattle.std.proofs.Common.{◌∙◌, ap, arith, sym}
use Rattle.counters.specs.Counters.{counter_sensed}
use Rattle.storage_units.specs.Storage.{storage_sensed}
use Rattle.net.specs.HubSets.{has_hub}
use Rattle.machine_served.proofs.ServedRuns.Sensing.{carriage_senses, comparing_senses, group-ordered, group_senses, nothing_senses, pilots_sense, program_senses, stations_sense, storage-ordered, storage_senses, wheels_sense}
use Rattle.machine_served.proofs.served_runs.units.sense_unit.Goals as goal
use Rattle.machine.specs.Fields.{machine_in}

pub invariant_of-units-then-unit-le34 : goal.invariant_of-units-then-unit-le34
invariant_of-units-then-unit-le34 c =
    group-ordered (machine_in c.units.inside) c.units.invariant c.args.cycle c.args.point (has_hub c.args.picture.now) c.args.unit
    c.index-units-unit.result c.sense-then-unit-le34.new.self c.index-units-unit.is (c.sense-then-unit-le34.ensures
    ∙ ap (λ g. counter_sensed g c.args.cycle c.args.point (has_hub c.args.picture.now)) (sym c.index-units-unit.is))

pub returns-then-unit-le1 : goal.returns-then-unit-le1
returns-then-unit-le1 c =
    rw (← c.units.view_is)
    (stations_sense (machine_in c.units.inside) c.units.invariant c.args.cycle c.args.point (has_hub c.args.picture.now) c.args.unit
    c.requires.0 (omega arith))

pub returns-then-unit-eq2 : goal.returns-then-unit-eq2
returns-then-unit-eq2 c =
    rw (← c.units.view_is)
    (comparing_senses (machine_in c.units.inside) c.units.invariant c.args.cycle c.args.point (has_hub c.args.picture.now) c.args.unit
    c.sense.new.self (omega arith) c.sense.ensures)

pub returns-then-unit-le34 : goal.returns-then-unit-le34
returns-then-unit-le34 c =
    rw (← c.units.view_is)
    (group_senses (machine_in c.units.inside) c.units.invariant c.args.cycle c.args.point (has_hub c.args.picture.now) c.args.unit
    c.index-units-unit.result c.sense-then-unit-le34.new.self (omega arith) (omega arith) c.index-units-unit.is (c.sense-then-unit-le34.ensures
    ∙ ap (λ g. counter_sensed g c.args.cycle c.args.point (has_hub c.args.picture.now)) (sym c.index-units-unit.is)))

pub returns-then-unit-le38 : goal.returns-then-unit-le38
returns-then-unit-le38 c =
    rw (← c.units.view_is)
    (storage_senses (machine_in c.units.inside) c.units.invariant c.args.cycle c.args.point (has_hub c.args.picture.now) c.args.unit
    c.index-units-unit-then-unit-le38.result c.sense-then-unit-le38.new.self (omega arith) (omega arith) c.index-units-unit-then-unit-le38.is
    (c.sense-then-unit-le38.ensures
    ∙ ap (λ g. storage_sensed g c.args.cycle c.args.point (has_hub c.args.picture.now)) (sym c.index-units-unit-then-unit-le38.is)))

pub returns-then-unit-eq39 : goal.returns-then-unit-eq39
returns-then-unit-eq39 c =
    rw (← c.units.view_is)
    (pilots_sense (machine_in c.units.inside) c.units.invariant c.args.cycle c.args.point (has_hub c.args.picture.now) c.args.unit
    c.sense-then-unit-eq39.new.self (omega arith) c.sense-then-unit-eq39.ensures)

pub returns-then-unit-eq43 : goal.returns-then-unit-eq43
returns-then-unit-eq43 c =
    rw (← c.units.view_is)
    (wheels_sense (machine_in c.units.inside) c.units.invariant c.args.cycle c.args.point (has_hub c.args.picture.now) c.args.unit
    c.sense-then-unit-eq43.new.self (omega arith) c.sense-then-unit-eq43.ensures)

pub returns-then-unit-eq44 : goal.returns-then-unit-eq44
returns-then-unit-eq44 c =
    rw (← c.units.view_is)
    (carriage_senses (machine_in c.units.inside) c.units.invariant c.args.cycle c.args.point (has_hub c.args.picture.now) c.args.unit
    c.sense-then-unit-eq44.new.self (omega arith) c.sense-then-unit-eq44.ensures)

pub returns-then-unit-eq45 : goal.returns-then-unit-eq45
returns-then-unit-eq45 c =
    rw (← c.units.view_is)
    (program_senses (machine_in c.units.inside) c.units.invariant c.args.cycle c.args.point (has_hub c.args.picture.now) c.args.unit
    c.sense-then-unit-eq45.new.self (omega arith) c.sense-then-unit-eq45.ensures)

pub returns-else-unit-eq45 : goal.returns-else-unit-eq45
returns-else-unit-eq45 c =
    rw (← c.units.view_is)
    (nothing_senses (machine_in c.units.inside) c.units.invariant c.args.cycle c.args.point (has_hub c.args.picture.now) c.args.unit
    (omega arith) (omega (arith, c.requires.1)) (λ is. absurd (omega (arith, is))) (λ is. absurd (omega (arith, is)))
    (λ is. absurd (omega (arith, is))) (λ is. absurd (omega (arith, is))))

pub invariant_of-units-then-unit-le38 : goal.invariant_of-units-then-unit-le38
invariant_of-units-then-unit-le38 c =
    storage-ordered (machine_in c.units.inside) c.units.invariant c.args.cycle c.args.point (has_hub c.args.picture.now) c.args.unit
    c.index-units-unit-then-unit-le38.result c.sense-then-unit-le38.new.self c.index-units-unit-then-unit-le38.is
    (c.sense-then-unit-le38.ensures
    ∙ ap (λ g. storage_sensed g c.args.cycle c.args.point (has_hub c.args.picture.now)) (sym c.index-units-unit-then-unit-le38.is))
