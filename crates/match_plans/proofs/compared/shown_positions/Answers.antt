use Rattle.std.proofs.Common.{Contains, ap, length, subst, sym, ◌∷◌, [], ◌∙◌, arith}
use Rattle.std.proofs.lemmas.List.{length-append}
use Rattle.match_plans.specs.ComparedColumns.{compared_columns}
use Rattle.match_plans.proofs.Alike.{back, is-compared}
use Rattle.match_plans.proofs.Comparing.{GoOn, go-all, go-more, go-none, go-stuck}
use Rattle.match_plans.proofs.Steps.{item-or, there-more, there-none}
use Rattle.chart_plans.specs.PlansWords.PartNumbers.{AreThere}
use Rattle.match_plans.proofs.compared.shown_positions.Goals as goal

pub loop-at-init : goal.loop-at-init
loop-at-init c = (
  subst (AreThere 30) (sym c.new-positions.ensures.items) (there-none 30),
  ap length c.new-positions.ensures.items,
  λ other its shows.
      subst (GoOn c.args.chart.now other its) (sym c.new-positions.ensures.items)
      (go-none c.args.chart.now other c.lines-lines.ensures.lawful c.lines-lines.ensures.rising its shows.wired),
)

pub returns-in-None-clause-none : goal.returns-in-None-clause-none
returns-in-None-clause-none c = λ other its shows.
    go-stuck c.args.chart.now other c.lines-lines.ensures.lawful c.lines-lines.ensures.rising its c.loop-at.positions.items _
    (item-or c.deref-at-items.result.now (compared_columns c.args.chart.now.lines) c.loop-at.at-index (length c.loop-at.positions.items) _
    (c.deref-at-items.ensures.value ∙ c.in_ok-columns.ensures) c.loop-at.invariant.1 c.loop-at-test.true)
    (λ number from to is.
    subst (λ items. Contains items number) c.as_slice.ensures.value (c.in-None.ensures.none number from to (is-compared (back shows.alike) _ _ number is)))
    (c.loop-at.invariant.2 other its shows)

pub loop-at-preserved : goal.loop-at-preserved
loop-at-preserved c =
    rw c.in_ok-push-in-Some.ensures.items (
      there-more 30 c.in-Some.position c.loop-at.positions.items c.loop-at.invariant.0 c.in-Some.ensures.there.0 c.in-Some.ensures.there.1,
      omega (arith, length-append c.loop-at.positions.items (c.in-Some.position ∷ []), c.loop-at.invariant.1),
      λ other its shows.
          go-more c.args.chart.now other c.lines-lines.ensures.lawful c.lines-lines.ensures.rising its c.loop-at.positions.items
          c.in-Some.position _
          (item-or c.deref-at-items.result.now (compared_columns c.args.chart.now.lines) c.loop-at.at-index
          (length c.loop-at.positions.items) _ (c.deref-at-items.ensures.value ∙ c.in_ok-columns.ensures) c.loop-at.invariant.1
          c.loop-at-test.true)
          (is-compared shows.alike _ _ c.in-Some.position c.in-Some.ensures.shown)
          (λ there. c.in-Some.ensures.free (subst (λ items. Contains items c.in-Some.position) (sym c.as_slice.ensures.value) there))
          (c.loop-at.invariant.2 other its shows),
    )

pub returns-clause-shown : goal.returns-clause-shown
returns-clause-shown c = λ other its shows.
    go-all c.args.chart.now other c.lines-lines.ensures.lawful c.lines-lines.ensures.rising its c.loop-at.positions.items
    (omega
    (arith, c.loop-at-test.false, c.loop-at.invariant.1, ap length (c.deref-at-items.ensures.value ∙ c.in_ok-columns.ensures)))
    (c.loop-at.invariant.2 other its shows)
