use Rattle.std.proofs.Common.{Contains, List, ap, append-nil, filter_map, subst, sym, ◌++◌, ◌∙◌}
use Rattle.std.proofs.lemmas.List.{drop_all}
use Rattle.match_plans.specs.Renumbered.{with_kind}
use Rattle.match_plans.specs.Wired.{IsWiredBy}
use Rattle.match_plans.proofs.PilotsTold.{all-pilots}
use Rattle.match_plans.proofs.Steps.{one-more, there-more, there-none}
use Rattle.chart_plans.specs.PlansWords.PartNumbers.{AreThere}
use Rattle.chart_plans.specs.declared.plans.part_numbers.PartKind.TheVariants as kind
use Rattle.wiring_table.specs.Parts.{pilot_for}
use Rattle.match_plans.proofs.pilots.shown_pilots.Goals as goal

pub loop-name-init : goal.loop-name-init
loop-name-init c = (
  subst (AreThere 16) (sym c.new-pilots.ensures.items) (there-none 16),
  λ other its shows.
      ap (λ items. items ++ filter_map (pilot_for its) c.args.names.now) c.new-pilots.ensures.items
      ∙ ap (filter_map (pilot_for its)) c.requires
      ∙ all-pilots c.args.chart.now c.lines-lines.ensures.lawful other its shows.wired,
)

pub returns-in-None-clause-none : goal.returns-in-None-clause-none
returns-in-None-clause-none c =
    c.in-None.ensures.none
    (subst (λ (names : List (List _)). Contains names c.name-item.result) c.requires
    (c.loop-name.name-index, c.loop-name-test.true, sym c.name-item.is))

pub loop-name-preserved : goal.loop-name-preserved
loop-name-preserved c =
    rw c.in_ok-push-in-Some.ensures.items (
      there-more 16 c.in-Some.pilot c.loop-name.pilots.items c.loop-name.invariant.0 c.in-Some.ensures.there.0 c.in-Some.ensures.there.1,
      λ other its shows.
          one-more (pilot_for its) c.args.names.now c.loop-name.name-index c.name-item.result c.loop-name-test.true c.name-item.is
          c.in-Some.pilot c.loop-name.pilots.items its.numbers.pilots (c.in-Some.ensures.shown other its shows) (c.loop-name.invariant.1 other its shows),
    )

pub returns-clause-shown : goal.returns-clause-shown
returns-clause-shown c = λ other its shows.
    let past = drop_all c.loop-name.name-index c.args.names.now c.loop-name-test.false in
    let all =
    sym (append-nil c.loop-name.pilots.items) ∙ ap (λ rest. c.loop-name.pilots.items ++ filter_map (pilot_for its) rest) (sym past)
    ∙ c.loop-name.invariant.1 other its shows in
    subst (λ numbers. IsWiredBy c.args.chart.now.lines other (with_kind its kind.Pilot numbers)) (sym all) shows.wired
