use Rattle.std.proofs.Common.{refl}
use Rattle.net.specs.declared.cycle.Point.TheVariants.{C, K}
use Rattle.machine.proofs.Keeps.{Keeps-both, Keeps-none}
use Rattle.machine.proofs.Points.{Keeps-more, Reached-more, Reached-none}
use Rattle.machine.proofs.units.Units.run_contact_points.Goals as goal

pub run_rows-requires : goal.run_rows-requires
run_rows-requires c = c.run_control.ensures.steady _ refl

pub returns-clause-reached : goal.returns-clause-reached
returns-clause-reached c wiring is_net =
    let cycle = c.args.cycle in
    let old = c.args.self.now in
    let control =
    Reached-more wiring cycle old old c.run_control.new.self 0 (Reached-none wiring cycle old)
    (c.run_control.ensures.step wiring is_net) in
    let rows = c.run_rows.ensures.ran wiring is_net old control in
    Reached-more wiring cycle old c.run_rows.new.self c.run_closing.new.self 13 rows
    (c.run_closing.ensures.step wiring is_net)

pub returns-clause-keeps : goal.returns-clause-keeps
returns-clause-keeps c =
    let cycle = c.args.cycle in
    let old = c.args.self.now in
    let control = Keeps-more cycle C old old c.run_control.new.self (Keeps-none cycle old old refl) c.run_control.ensures.senses in
    let rows = Keeps-both cycle old c.run_control.new.self c.run_rows.new.self control c.run_rows.ensures.keeps in
    Keeps-more cycle K old c.run_rows.new.self c.run_closing.new.self rows c.run_closing.ensures.senses
