use Rattle.std.proofs.Common.{◌≡◌, ℕ, refl, subst, arith}
use Rattle.net.specs.declared.cycle.Point.TheVariants.{C}
use Rattle.machine.specs.Cycles.{Reached}
use Rattle.machine.proofs.Keeps.{Keeps-none}
use Rattle.machine.proofs.Points.{Reached-more, PointStep-at, Keeps-more, AreSteady-more}
use Rattle.machine.proofs.units.Units.step_rows.Goals as goal

pub loop-place-init : goal.loop-place-init
loop-place-init c =
    let machine = c.args.self.now in
    record { reached = λ wiring is_net start at. at; keeps = Keeps-none c.args.cycle machine machine refl; steady = c.requires }

pub loop-place-preserved : goal.loop-place-preserved
loop-place-preserved c =
    let cycle = c.args.cycle in
    let mid = c.loop-place.self in
    let now = c.step.new.self in
    let place = c.loop-place.place in
    let before = c.loop-place.invariant in
    record {
      reached = λ wiring is_net start at.
          Reached-more wiring cycle start mid now place (before.reached wiring is_net start at)
          (PointStep-at wiring cycle mid now place C (omega (arith, c.loop-place-test.true)) (c.step.ensures.step wiring is_net));
      keeps = Keeps-more cycle _ c.args.self.now mid now before.keeps c.step.ensures.senses;
      steady = AreSteady-more cycle c.args.closed.now _ mid now before.steady c.step.ensures.senses;
    }

pub returns-clause-ran : goal.returns-clause-ran
returns-clause-ran c wiring is_net start at =
    let end : c.loop-place.place ≡ 13 = omega arith in
    subst (λ (place : ℕ). Reached wiring c.args.cycle place start c.loop-place.self) end
    (c.loop-place.invariant.reached wiring is_net start at)
