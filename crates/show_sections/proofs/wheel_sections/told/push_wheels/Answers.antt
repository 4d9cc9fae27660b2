use Rattle.std.proofs.Common.{◌≡◌, arith, subst, ℕ}
use Rattle.std.specs.List.{flat_map, range_with_len}
use Rattle.show_sections.specs.WheelSections.Helper.{GainsTold}
use Rattle.show_sections.specs.WheelSections.ToldWheels.{printed_by}
use Rattle.show_sections.proofs.WheelSections.Gains.{told_none, wheels_more}
use Rattle.show_sections.proofs.wheel_sections.told.push_wheels.Goals as goal

pub loop-passed-init : goal.loop-passed-init
loop-passed-init c = told_none c.args.setup.now c.args.asked.now c.args.cards.now c.args.told.now.items

pub loop-passed-preserved : goal.loop-passed-preserved
loop-passed-preserved c =
    wheels_more c.args.setup.now c.args.asked.now c.args.cards.now c.args.placed.now c.loop-passed.passed c.args.told.now.items
    c.loop-passed.told.items c.push_wheel.new.told.items c.loop-passed.invariant c.in_ok-push_wheel.ensures

pub returns : goal.returns
returns c =
    let all : c.loop-passed.passed ≡ 120 = omega (arith, c.loop-passed-test.false, c.loop-passed.auto.passed-end) in
    subst (λ (n : ℕ). GainsTold c.args.setup.now c.args.asked.now c.args.cards.now
    (flat_map (printed_by c.args.placed.now) (range_with_len 1 n)) c.args.told.now.items c.loop-passed.told.items) all
    c.loop-passed.invariant
