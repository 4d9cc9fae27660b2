use Rattle.std.proofs.Common.{◌∙◌, ◌||◌, ap, map, subst, sym}
use Rattle.card_code.specs.Rows.{passing_place, rows}
use Rattle.net.specs.RowSets.{pictures_of}
use Rattle.net.specs.declared.cycle.Point.TheVariants.{Row}
use Rattle.machine.specs.Keeps.{Keeps}
use Rattle.machine.specs.Machine.{MachineState, emits}
use Rattle.machine.specs.Steady.{AreSteady}
use Rattle.machine.proofs.AllRows.{contacts-silent, rows-run, rows-steady}
use Rattle.machine.proofs.EmittingRows.{emits-may}
use Rattle.machine.proofs.Keeps.{rows-keep}
use Rattle.machine.proofs.units.Units.run_rows.Goals as goal

pub spread_through-requires : goal.spread_through-requires
spread_through-requires c =
    contacts-silent c.args.self.now c.args.cycle c.emit_rows.new.sets
    (λ row hub. c.emit_rows.ensures.rows row hub
    ∙ ap (λ b. b || emits c.args.self.now c.args.cycle (Row row) hub) (c.clear.ensures (passing_place row) hub))

pub returns-then-spread_through-clause-ran : goal.returns-then-spread_through-clause-ran
returns-then-spread_through-clause-ran c wiring is_net start reached =
    rows-run wiring c.args.cycle c.args.closed.now c.args.self.now c.sense_rows.new.self
    c.emit_rows.new.sets c.spread_through.new.sets c.emit_rows.ensures.ordered c.requires
    (λ row hub. c.emit_rows.ensures.rows row hub
    ∙ ap (λ b. b || emits c.args.self.now c.args.cycle (Row row) hub) (c.clear.ensures (passing_place row) hub))
    (c.spread_through.ensures c.if-spread_through.true wiring is_net
    (λ row hub on.
    emits-may wiring c.args.cycle start c.args.self.now reached row hub
    (sym (c.emit_rows.ensures.rows row hub
    ∙ ap (λ b. b || emits c.args.self.now c.args.cycle (Row row) hub) (c.clear.ensures (passing_place row) hub))
    ∙ on)))
    c.sense_rows.ensures start reached

pub returns-then-spread_through-clause-keeps : goal.returns-then-spread_through-clause-keeps
returns-then-spread_through-clause-keeps c =
    subst (λ (m : MachineState). Keeps c.args.cycle c.args.self.now m) (sym c.sense_rows.ensures)
    (rows-keep c.args.cycle (pictures_of c.spread_through.new.sets) (map Row rows) c.args.self.now)

pub returns-then-spread_through-clause-steady : goal.returns-then-spread_through-clause-steady
returns-then-spread_through-clause-steady c =
    subst (λ (m : MachineState). AreSteady c.args.cycle c.args.closed.now m) (sym c.sense_rows.ensures)
    (rows-steady c.args.cycle c.args.closed.now (pictures_of c.spread_through.new.sets) (map Row rows) c.args.self.now c.requires)
