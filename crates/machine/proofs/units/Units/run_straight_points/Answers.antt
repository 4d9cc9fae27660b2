use Rattle.std.proofs.Common.{refl}
use Rattle.net.specs.declared.cycle.Cycle.TheVariants.{Card}
use Rattle.net.specs.declared.cycle.Point.TheVariants.{C, K}
use Rattle.machine.proofs.Keeps.{Keeps-both, Keeps-none}
use Rattle.machine.proofs.Points.{Keeps-more, Reached-more, Reached-none}
use Rattle.machine.proofs.units.Units.run_straight_points.Goals as goal

pub returns-clause-reached : goal.returns-clause-reached
returns-clause-reached c wiring is_net =
    let old = c.args.self.now in
    let control =
    Reached-more wiring Card old old c.run_control.new.self 0 (Reached-none wiring Card old)
    (c.run_control.ensures.step wiring is_net) in
    let rows = c.run_straight_rows.ensures.ran wiring (c.requires.straight wiring is_net) (c.requires.direct wiring is_net) old control in
    Reached-more wiring Card old c.run_straight_rows.new.self c.run_closing.new.self 13 rows
    (c.run_closing.ensures.step wiring is_net)

pub returns-clause-keeps : goal.returns-clause-keeps
returns-clause-keeps c =
    let old = c.args.self.now in
    let control = Keeps-more Card C old old c.run_control.new.self (Keeps-none Card old old refl) c.run_control.ensures.senses in
    let rows = Keeps-both Card old c.run_control.new.self c.run_straight_rows.new.self control c.run_straight_rows.ensures.keeps in
    Keeps-more Card K old c.run_straight_rows.new.self c.run_closing.new.self rows c.run_closing.ensures.senses
