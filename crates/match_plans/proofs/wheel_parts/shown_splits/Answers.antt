use Rattle.std.proofs.Common.{refl, subst, sym, ◌∙◌}
use Rattle.match_plans.specs.WheelParts.{AreLed, split_wheels}
use Rattle.match_plans.specs.declared.wheel_parts.WheelPart.TheVariants as by_wheel
use Rattle.match_plans.proofs.Alike.{are-led, back}
use Rattle.match_plans.proofs.Steps.{if-ok}
use Rattle.match_plans.proofs.Told.{none-by, shown-by}
use Rattle.match_plans.proofs.WheelParts.{splits-led}
use Rattle.chart_plans.specs.PlansWords.Plans.{Lists}
use Rattle.chart_plans.specs.declared.plans.part_numbers.PartKind.TheVariants as kind
use Rattle.match_plans.proofs.wheel_parts.shown_splits.Goals as goal

pub returns-clause-shown : goal.returns-clause-shown
returns-clause-shown c =
    if-ok c.led_numbers.result _ _
    (λ shown found.
    shown-by c.args.chart.now.lines c.args.setup.now kind.Split (λ list. list.items) (λ (its : Lists). its.numbers.splits) shown (λ its. refl)
    (λ other its shows.
    found its.numbers.splits
    (subst (λ wheels. AreLed c.args.setup.now by_wheel.Split 16 wheels its.numbers.splits) (sym (c.as_slice.ensures.value ∙ c.in_ok-wheels.ensures))
    (are-led (back shows.alike) by_wheel.Split 16 (split_wheels c.args.chart.now.lines) its.numbers.splits
    (splits-led c.args.chart.now other c.lines-lines.ensures.lawful c.lines-lines.ensures.rising its shows.wired)))))
    c.led_numbers.ensures.found

pub returns-clause-none : goal.returns-clause-none
returns-clause-none c =
    if-ok c.led_numbers.result _ _
    (λ shown found.
    none-by c.args.chart.now.lines c.args.setup.now kind.Split (λ list. list.items) (λ (its : Lists). its.numbers.splits) shown
    (λ other its shows.
    found its.numbers.splits
    (subst (λ wheels. AreLed c.args.setup.now by_wheel.Split 16 wheels its.numbers.splits) (sym (c.as_slice.ensures.value ∙ c.in_ok-wheels.ensures))
    (are-led (back shows.alike) by_wheel.Split 16 (split_wheels c.args.chart.now.lines) its.numbers.splits
    (splits-led c.args.chart.now other c.lines-lines.ensures.lawful c.lines-lines.ensures.rising its shows.wired)))))
    c.led_numbers.ensures.found
