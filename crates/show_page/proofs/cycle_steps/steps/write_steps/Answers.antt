use Rattle.std.proofs.Common.{◌≡◌, arith, subst, ℕ, ◌+◌}
use Rattle.std.specs.List.{range_with_len}
use Rattle.std.specs.String.{string_bytes}
use Rattle.show_drawings.specs.MarkupWords.Pieces.{GainsEach}
use Rattle.show_drawings.proofs.MarkupWords.Pieces.{each_none, each_number}
use Rattle.show_page.specs.CycleSteps.Steps.{IsStep}
use Rattle.show_page.proofs.cycle_steps.steps.write_steps.Goals as goal

pub loop-passed-init : goal.loop-passed-init
loop-passed-init c wiring is_net = each_none (IsStep wiring c.args.points.now c.args.wires.now) (string_bytes c.args.text.now)

pub loop-passed-preserved : goal.loop-passed-preserved
loop-passed-preserved c wiring is_net =
    each_number (IsStep wiring c.args.points.now c.args.wires.now) c.loop-passed.passed (string_bytes c.args.text.now)
    (string_bytes c.loop-passed.text) (string_bytes c.write_point_step.new.text) (c.loop-passed.invariant wiring is_net)
    (c.in_ok-write_point_step.ensures wiring is_net)

pub returns : goal.returns
returns c wiring is_net =
    let all : c.loop-passed.passed ≡ 14 = omega (arith, c.loop-passed-test.false, c.loop-passed.auto.passed-end) in
    subst (λ (n : ℕ). GainsEach (IsStep wiring c.args.points.now c.args.wires.now) (range_with_len 1 n) (string_bytes c.args.text.now)
    (string_bytes c.loop-passed.text)) all (c.loop-passed.invariant wiring is_net)
