use Rattle.std.proofs.Common.{Bool, ◌∙◌, ◌||◌, ap, subst, sym}
use Rattle.std.specs.List.{list_any}
use Rattle.card_code.specs.Rows.{passing_place}
use Rattle.card_code.specs.declared.row.Row.{Row as CardRow}
use Rattle.counters.specs.Counters.{counter_emits}
use Rattle.hubs.specs.declared.hub.Hub.{Hub}
use Rattle.net.proofs.SetLemmas.{GainsRows-both}
use Rattle.net.specs.HubRows.{has_row_at}
use Rattle.net.specs.declared.cycle.Point.TheVariants.{Row}
use Rattle.print_unit.specs.Emitters.{emitters_emit}
use Rattle.stations.specs.Stations.{stations_emits}
use Rattle.storage_units.specs.Storage.{storage_emits}
use Rattle.machine.specs.Fields.{AreInUnitOrder, machine_in}
use Rattle.machine.specs.Machine.{MachineState}
use Rattle.machine.specs.declared.units.Units.TheInside.{Inside}
use Rattle.machine.specs.Noted.{IsNoted}
use Rattle.machine.proofs.AllRows.{units-emit}
use Rattle.machine.proofs.units.Units.emit_rows.Goals as goal

pub emit_group_rows-requires : goal.emit_group_rows-requires
emit_group_rows-requires c = (subst IsNoted (sym c.self-inside.view_is) c.self.invariant).busy

pub returns-clause-rows : goal.returns-clause-rows
returns-clause-rows c row hub =
    let machine = machine_in c.self-inside.inside.0.0 in
    let cycle = c.args.cycle in
    let stations : CardRow → Hub → Bool = λ at h. stations_emits machine.stations cycle (Row at) h in
    let groups : CardRow → Hub → Bool = λ at h. list_any (λ group. counter_emits group cycle (Row at) h) machine.groups in
    let storage : CardRow → Hub → Bool = λ at h. list_any (λ unit. storage_emits unit cycle (Row at) h) machine.storage in
    let emitters : CardRow → Hub → Bool = λ at h. emitters_emit machine.emitters cycle (Row at) h in
    rw (← c.self.view_is, ← c.self-inside.view_is)
    (GainsRows-both (λ at h. (stations at h || groups at h) || storage at h) emitters c.args.sets.now c.emit_storage_rows.new.sets
    c.emit_rows-2.new.sets
    (GainsRows-both (λ at h. stations at h || groups at h) storage c.args.sets.now c.emit_group_rows.new.sets c.emit_storage_rows.new.sets
    (GainsRows-both stations groups c.args.sets.now c.emit_rows.new.sets c.emit_group_rows.new.sets c.emit_rows.ensures
    c.emit_group_rows.ensures)
    c.emit_storage_rows.ensures)
    c.emit_rows-2.ensures row hub
    ∙ ap (λ b. has_row_at c.args.sets.now (passing_place row) hub || b) (units-emit machine cycle row hub))

pub returns-clause-ordered : goal.returns-clause-ordered
returns-clause-ordered c =
    let view_is = ap (λ (units : Inside). units.all) c.self-inside.view_is ∙ c.self.view_is in
    subst (λ (m : MachineState). AreInUnitOrder m.groups) view_is c.self-inside.invariant.groups
