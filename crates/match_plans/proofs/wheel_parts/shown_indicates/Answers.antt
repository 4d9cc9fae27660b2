use Rattle.std.proofs.Common.{refl, subst, sym, ◌∙◌, ◌≡◌}
use Rattle.chart_lines.specs.declared.charts.level.ControlLevel.{ControlLevel}
use Rattle.chart_lines.specs.declared.charts.level.ControlLevel.TheVariants as control
use Rattle.match_plans.specs.Renumbered.{with_kind}
use Rattle.match_plans.specs.WheelParts.{AreLed, indicated_wheels}
use Rattle.match_plans.specs.declared.wheel_parts.WheelPart.TheVariants as by_wheel
use Rattle.match_plans.proofs.Alike.{are-led, back}
use Rattle.match_plans.proofs.Steps.{if-ok}
use Rattle.match_plans.proofs.Told.{none-by, shown-by}
use Rattle.match_plans.proofs.WheelParts.{indicates-led}
use Rattle.chart_plans.specs.PlansWords.PartNumbers.{numbers_of}
use Rattle.chart_plans.specs.PlansWords.Plans.{Lists}
use Rattle.chart_plans.specs.declared.plans.part_numbers.PartKind.TheVariants as kind
use Rattle.match_plans.proofs.wheel_parts.shown_indicates.Goals as goal

still : (its : Lists) (level : ControlLevel) → with_kind its (kind.Indicate level) (numbers_of its.numbers (kind.Indicate level)) ≡ its
still its control.Minor = refl
still its control.Intermediate = refl
still its control.Major = refl

pub returns-clause-shown : goal.returns-clause-shown
returns-clause-shown c =
    if-ok c.led_numbers.result _ _
    (λ shown found.
    shown-by c.args.chart.now.lines c.args.setup.now (kind.Indicate c.args.level) (λ list. list.items) (λ (its : Lists). numbers_of its.numbers (kind.Indicate c.args.level)) shown (λ its. still its c.args.level)
    (λ other its shows.
    found (numbers_of its.numbers (kind.Indicate c.args.level))
    (subst (λ wheels. AreLed c.args.setup.now (by_wheel.Indicated c.args.level) 30 wheels (numbers_of its.numbers (kind.Indicate c.args.level))) (sym (c.as_slice.ensures.value ∙ c.in_ok-wheels.ensures))
    (are-led (back shows.alike) (by_wheel.Indicated c.args.level) 30 (indicated_wheels c.args.chart.now.lines c.args.level) (numbers_of its.numbers (kind.Indicate c.args.level))
    (indicates-led c.args.chart.now other c.lines-lines.ensures.lawful c.lines-lines.ensures.rising its shows.wired c.args.level)))))
    c.led_numbers.ensures.found

pub returns-clause-none : goal.returns-clause-none
returns-clause-none c =
    if-ok c.led_numbers.result _ _
    (λ shown found.
    none-by c.args.chart.now.lines c.args.setup.now (kind.Indicate c.args.level) (λ list. list.items) (λ (its : Lists). numbers_of its.numbers (kind.Indicate c.args.level)) shown
    (λ other its shows.
    found (numbers_of its.numbers (kind.Indicate c.args.level))
    (subst (λ wheels. AreLed c.args.setup.now (by_wheel.Indicated c.args.level) 30 wheels (numbers_of its.numbers (kind.Indicate c.args.level))) (sym (c.as_slice.ensures.value ∙ c.in_ok-wheels.ensures))
    (are-led (back shows.alike) (by_wheel.Indicated c.args.level) 30 (indicated_wheels c.args.chart.now.lines c.args.level) (numbers_of its.numbers (kind.Indicate c.args.level))
    (indicates-led c.args.chart.now other c.lines-lines.ensures.lawful c.lines-lines.ensures.rising its shows.wired c.args.level)))))
    c.led_numbers.ensures.found
