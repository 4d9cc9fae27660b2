use Rattle.std.proofs.Common.{◌≡◌, ◌∙◌, ◌+◌, ◌<◌, ap, arith, map, refl, suc, subst, sym, ℕ}
use Rattle.card_code.specs.Rows.{passing_place, rows}
use Rattle.card_code.specs.declared.row.Row.{Row as CardRow}
use Rattle.counters.specs.Counters.{counter_sensed}
use Rattle.hubs.specs.declared.hub.Hub.TheVariants.{W}
use Rattle.net.specs.RowSets.{after_rows, pictures_of}
use Rattle.net.specs.Straight.{is_brought}
use Rattle.net.specs.declared.cycle.Cycle.TheVariants.{Card}
use Rattle.net.specs.declared.cycle.Point.TheVariants.{Row}
use Rattle.stations.specs.Punches.{AreColumnsAt}
use Rattle.storage_units.specs.Storage.{storage_sensed}
use Rattle.machine.specs.AllRows.{RunsRows}
use Rattle.machine.specs.Fields.{machine_in}
use Rattle.machine.specs.Keeps.{Keeps}
use Rattle.machine.specs.Machine.{MachineState, sensed}
use Rattle.machine.specs.declared.units.Units.TheInside as inside
use Rattle.machine.proofs.AllRows.{units-sensed}
use Rattle.machine.proofs.Keeps.{rows-keep}
use Rattle.machine.proofs.StraightRows.{brings, brought-silent, straight-run}
use Rattle.machine.proofs.units.Units.run_straight_rows.Goals as goal

pub receive_columns-requires : goal.receive_columns-requires
receive_columns-requires c = c.requires.inside

-- the machine that groups and storage units leave
mid-is : (c : goal.After-receive_columns)
    → machine_in c.self-inside.inside.0.0 ≡ record c.args.self.now {
      groups = map (λ group. after_rows counter_sensed Card (pictures_of c.args.silence.now) group) c.args.self.now.groups;
      storage = map (λ unit. after_rows storage_sensed Card (pictures_of c.args.silence.now) unit) c.args.self.now.storage;
    }
mid-is c = ap (λ (units : inside.Inside). units.all) c.self-inside.view_is ∙ c.self.view_is ∙ c.sense_groups_and_storage.ensures

-- all sense what comes to the wheels
all-sense : (c : goal.After-receive_columns)
    → record (machine_in c.self-inside.inside.0.0) { pilots = c.sense_no_rows-2.new.self; wheels = c.receive_columns.new.self }
    ≡ after_rows sensed Card (brings c.second_columns.result.now c.args.runs.now) c.args.self.now
all-sense c =
    let columns = c.second_columns.result.now in
    let runs = c.args.runs.now in
    let mid : MachineState = machine_in c.self-inside.inside.0.0 in
    let come : (row : CardRow) (wheel : ℕ) → wheel < 120 → brings columns runs (Row row) (W (wheel + 1)) ≡ is_brought columns runs wheel (passing_place row) =
    λ row wheel below. let next : wheel + 1 ≡ suc wheel = omega arith in ap (λ v. brings columns runs (Row row) (W v)) next in
    (λ i. record mid {
      comparing = c.sense_no_rows.ensures Card (brings columns runs) (λ row p. refl) i;
      pilots = c.sense_no_rows-2.ensures (brings columns runs) (λ pilot. refl) i;
      wheels = c.receive_columns.ensures Card (brings columns runs) come i;
    })
    ∙ units-sensed Card (brings columns runs) c.args.self.now mid
    (mid-is c
    ∙ brought-silent runs columns (pictures_of c.args.silence.now) c.args.self.now (λ at hub. c.requires.silent (passing_place at) hub))

pub returns-clause-ran : goal.returns-clause-ran
returns-clause-ran c wiring straight direct =
    let columns = c.second_columns.result.now in
    subst (λ (m : MachineState). RunsRows wiring Card c.args.self.now m) (sym (all-sense c))
    (straight-run wiring c.args.runs.now columns c.args.self.now straight direct
    (subst (λ (m : MachineState). AreColumnsAt m.stations.second columns) (mid-is c) c.second_columns.ensures))

pub returns-clause-keeps : goal.returns-clause-keeps
returns-clause-keeps c =
    let columns = c.second_columns.result.now in
    subst (λ (m : MachineState). Keeps Card c.args.self.now m) (sym (all-sense c))
    (rows-keep Card (brings columns c.args.runs.now) (map Row rows) c.args.self.now)
