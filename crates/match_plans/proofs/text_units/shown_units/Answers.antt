use Rattle.std.proofs.Common.{append-nil, Contains, IfSome, List, ◌≤◌, ap, filter_map, subst, sym, ◌++◌, ◌∙◌, ◌≡◌}
use Rattle.std.specs.Option.{option_and_then}
use Rattle.std.proofs.lemmas.List.{drop_all}
use Rattle.chart_lines.specs.declared.charts.chart.Line.{Line}
use Rattle.match_plans.specs.declared.text_units.TextPlace.{TextPlace}
use Rattle.match_plans.proofs.Steps.{no-more, one-more, there-more, there-none}
use Rattle.match_plans.proofs.Texts.{all-units, unit-found-alike, unit-there, unit_on}
use Rattle.match_plans.specs.Renumbered.{with_kind}
use Rattle.match_plans.specs.Wired.{IsWiredBy}
use Rattle.chart_plans.specs.PlansWords.PartNumbers.{AreThere}
use Rattle.chart_plans.specs.declared.plans.part_numbers.PartKind.TheVariants as kind
use Rattle.wiring_table.specs.Parts.{unit_for}
use Rattle.match_plans.proofs.text_units.shown_units.Goals as goal
use Rattle.match_plans.proofs.text_units.shown_units.Goals.{in-Some+in-Some-shown_unit+in_ok-push-in-Some-shown_unit, in_default}

pub loop-line-init : goal.loop-line-init
loop-line-init c = (
  subst (AreThere 4) (sym c.new-units.ensures.items) (there-none 4),
  λ other its shows.
      ap (λ items. items ++ filter_map (unit_on its) c.lines-lines.result.now) c.new-units.ensures.items
      ∙ ap (filter_map (unit_on its)) c.lines-lines.ensures.value
      ∙ all-units c.args.chart.now other c.lines-lines.ensures.lawful c.lines-lines.ensures.rising its shows.wired,
)

pub returns-in-None-clause-none : goal.returns-in-None-clause-none
returns-in-None-clause-none c = λ other its shows.
    let listed : Contains c.args.chart.now.lines c.line-item.result =
    subst (λ (ls : List Line). Contains ls c.line-item.result) c.lines-lines.ensures.value
    (c.loop-line.line-index, c.loop-line-test.true, sym c.line-item.is) in
    let is = sym c.text_of.ensures ∙ c.in-Some.is in
    let found = unit-found-alike c.args.chart.now c.args.setup.now other c.lines-lines.ensures.lawful c.lines-lines.ensures.rising its shows
    c.line-item.result c.in-Some.text listed is c.shown_unit.result c.shown_unit.ensures.shown c.shown_unit.ensures.none in
    unit-there c.args.chart.now other c.lines-lines.ensures.lawful c.lines-lines.ensures.rising its shows.wired
    c.line-item.result c.in-Some.text listed is (sym found ∙ c.in-None.is)

pub loop-line-preserved : goal.loop-line-preserved
loop-line-preserved c =
    let listed : Contains c.args.chart.now.lines c.line-item.result =
    subst (λ (ls : List Line). Contains ls c.line-item.result) c.lines-lines.ensures.value
    (c.loop-line.line-index, c.loop-line-test.true, sym c.line-item.is) in
    elim c.match-text_of.branch [
      | in-Some+in-Some-shown_unit+in_ok-push-in-Some-shown_unit w ↦
          let is = sym c.text_of.ensures ∙ w.in-Some.is in
          let range = subst (λ o. IfSome o (λ unit. (1 ≤ unit) × (unit ≤ 4))) w.in-Some-shown_unit.is w.shown_unit.ensures.there in
          rw (w.units-is, w.in_ok-push-in-Some-shown_unit.ensures.items) (
            there-more 4 w.in-Some-shown_unit.unit c.loop-line.units.items c.loop-line.invariant.0 range.0 range.1,
            λ other its shows.
                let found = unit-found-alike c.args.chart.now c.args.setup.now other c.lines-lines.ensures.lawful c.lines-lines.ensures.rising its
                shows c.line-item.result w.in-Some.text listed is w.shown_unit.result w.shown_unit.ensures.shown w.shown_unit.ensures.none in
                one-more (unit_on its) c.lines-lines.result.now c.loop-line.line-index c.line-item.result c.loop-line-test.true
                c.line-item.is w.in-Some-shown_unit.unit c.loop-line.units.items its.numbers.storage (sym found ∙ w.in-Some-shown_unit.is)
                (c.loop-line.invariant.1 other its shows),
          )
      | in_default w ↦
          rw w.units-is (
            c.loop-line.invariant.0,
            λ other its shows.
                let gives = ap (option_and_then (λ (t : TextPlace). unit_for its c.line-item.result.number))
                (sym c.text_of.ensures ∙ w.in_default.is) in
                no-more (unit_on its) c.lines-lines.result.now c.loop-line.line-index c.line-item.result c.loop-line-test.true
                c.line-item.is c.loop-line.units.items its.numbers.storage gives (c.loop-line.invariant.1 other its shows),
          )
    ]

pub returns-clause-shown : goal.returns-clause-shown
returns-clause-shown c = λ other its shows.
    let past = drop_all c.loop-line.line-index c.lines-lines.result.now c.loop-line-test.false in
    let all : c.loop-line.units.items ≡ its.numbers.storage =
    sym (append-nil c.loop-line.units.items) ∙ ap (λ rest. c.loop-line.units.items ++ filter_map (unit_on its) rest) (sym past)
    ∙ c.loop-line.invariant.1 other its shows in
    subst (λ numbers. IsWiredBy c.args.chart.now.lines other (with_kind its kind.Storage numbers)) (sym all) shows.wired
