use Rattle.std.proofs.Common.{Bool, ◌||◌, ap, ◌∙◌, subst, sym}
use Rattle.std.specs.List.{list_any}
use Rattle.counters.specs.Counters.{counter_emits}
use Rattle.net.specs.HubSets.{has_hub}
use Rattle.print_unit.specs.Emitters.{emitters_emit}
use Rattle.program_unit.specs.Program.{program_emits}
use Rattle.stations.specs.Comparing.{comparing_emits}
use Rattle.stations.specs.Stations.{stations_emits}
use Rattle.storage_units.specs.Storage.{storage_emits}
use Rattle.machine.specs.Noted.{IsNoted}
use Rattle.machine.proofs.Exits.{all-emit}
use Rattle.machine.proofs.units.Units.emit.Goals as goal

pub emit_groups-requires-clause-busy : goal.emit_groups-requires-clause-busy
emit_groups-requires-clause-busy c = (subst IsNoted (sym c.self-inside.view_is) c.self.invariant).busy

pub returns : goal.returns
returns c hub =
    let cycle = c.args.cycle in
    let point = c.args.point in
    let units = c.self-inside.inside.0.0 in
    let stations = stations_emits units.stations cycle point hub in
    let comparing = comparing_emits units.comparing cycle point hub in
    let groups = list_any (λ group. counter_emits group cycle point hub) units.groups in
    let storage = list_any (λ storage. storage_emits storage cycle point hub) units.storage in
    let emitters = emitters_emit units.emitters cycle point hub in
    let program = program_emits units.program cycle point hub in
    rw (← c.self.view_is, ← c.self-inside.view_is)
    (c.emit-4.ensures hub
    ∙ ap (λ (b : Bool). b || program)
    (c.emit-3.ensures hub
    ∙ ap (λ (b : Bool). b || emitters)
    (c.emit_storage.ensures hub
    ∙ ap (λ (b : Bool). b || storage)
    (c.emit_groups.ensures hub
    ∙ ap (λ (b : Bool). b || groups)
    (c.emit-2.ensures hub ∙ ap (λ (b : Bool). b || comparing) (c.emit.ensures hub)))))
    ∙ all-emit (has_hub c.args.exits.now hub) stations comparing groups storage emitters program)
