use Rattle.std.proofs.Common.{◌≡◌, ◌∙◌, ◌*◌, sym, ap, arith, pos, subst}
use Rattle.std.specs.List.{All}
use Rattle.std.proofs.lemmas.List.Elements.{All-weaker}
use Rattle.report_misfits.proofs.LawfulTotals.{named_line}
use Rattle.report_misfits.proofs.Numbering.{by_name, numbered-long}
use Rattle.report_misfits.proofs.Opening.{has_room, opened-one, opened-none, all_open, all_kept}
use Rattle.report_misfits.specs.HelperAmounts.{IsGoodAmount}
use Rattle.report_misfits.specs.HelperNumbers.{IsNamedAmount}
use Rattle.report_misfits.specs.HelperTotals.{IsKept, IsWithin, above_amounts}
use Rattle.report_misfits.proofs.Bounds.{none_within}
use Rattle.report_misfits.proofs.Pending.{none-pending, settled-none}
use Rattle.report_misfits.proofs.open_sums.OpenSums.new.Goals as goal
use Rattle.report_misfits.proofs.open_sums.OpenSums.new.Goals.{in-Some, in_default}

pub place_for-requires-clause-room : goal.place_for-requires-clause-room
place_for-requires-clause-room c =
    let room = has_room c.args.chart.now c.lines-line-items.result.now c.loop-line.line-index c.line-item.result c.in-Some.total
    c.loop-line.totals.items c.lines-line-items.ensures.lawful c.lines-line-items.ensures.value c.loop-line-test.true c.line-item.is
    c.loop-line.invariant.opened (sym c.open_total.ensures ∙ c.in-Some.is) in
    let few = c.loop-line.invariant.few in
    omega (arith, room, few)

pub place_for-requires-clause-by_name : goal.place_for-requires-clause-by_name
place_for-requires-clause-by_name c =
    by_name c.args.chart.now.lines c.loop-line.amounts.items c.in-Some.total.field c.loop-line.invariant.named
    (named_line c.args.chart.now c.line-item.result c.in-Some.total (sym c.open_total.ensures ∙ c.in-Some.is))

pub push-requires : goal.push-requires
push-requires c =
    let room = has_room c.args.chart.now c.lines-line-items.result.now c.loop-line.line-index c.line-item.result c.in-Some.total
    c.loop-line.totals.items c.lines-line-items.ensures.lawful c.lines-line-items.ensures.value c.loop-line-test.true c.line-item.is
    c.loop-line.invariant.opened (sym c.open_total.ensures ∙ c.in-Some.is) in
    let long = numbered-long c.loop-line.totals.items c.loop-line.places.items c.loop-line.amounts.items c.loop-line.invariant.numbered in
    (omega arith, omega (arith, room, long))

pub push-requires-in-Some : goal.push-requires-in-Some
push-requires-in-Some c = (
  omega arith,
  has_room c.args.chart.now c.lines-line-items.result.now c.loop-line.line-index c.line-item.result c.in-Some.total
      c.loop-line.totals.items c.lines-line-items.ensures.lawful c.lines-line-items.ensures.value c.loop-line-test.true c.line-item.is
      c.loop-line.invariant.opened (sym c.open_total.ensures ∙ c.in-Some.is),
)

pub loop-line-preserved : goal.loop-line-preserved
loop-line-preserved c =
    elim c.match-open_total.branch [
      | in-Some w ↦
          opened-one c.args.chart.now c.lines-line-items.result.now c.loop-line.line-index c.line-item.result w.in-Some.total
          w.place_for.result c.loop-line.totals.items _ c.loop-line.places.items _ c.loop-line.amounts.items _
          c.lines-line-items.ensures.lawful
          c.lines-line-items.ensures.value
          c.loop-line-test.true
          c.line-item.is
          c.loop-line.invariant
          (sym c.open_total.ensures ∙ w.in-Some.is)
          (ap (λ v. v.items) w.totals-is ∙ w.push-in-Some.ensures.items)
          (ap (λ v. v.items) w.places-is ∙ w.push.ensures.items)
          (rw w.amounts-is w.place_for.ensures.all)
          (rw w.amounts-is w.place_for.ensures.there)
      | in_default w ↦
          rw (w.totals-is, w.places-is, w.amounts-is)
          (opened-none c.args.chart.now.lines c.lines-line-items.result.now c.loop-line.line-index c.line-item.result
          c.loop-line.totals.items c.loop-line.places.items c.loop-line.amounts.items
          c.lines-line-items.ensures.value
          c.loop-line-test.true
          c.line-item.is
          c.loop-line.invariant
          (sym c.open_total.ensures ∙ w.in_default.is))
    ]

pub invariant_of-result : goal.invariant_of-result
invariant_of-result c =
    let opened = c.loop-line.invariant in
    let totals = c.loop-line.totals.items in
    let places = c.loop-line.places.items in
    let amounts = c.loop-line.amounts.items in
    let none = All-weaker (IsNamedAmount c.args.chart.now.lines) (λ amount. amount.pending ≡ pos 0) (λ amount is. is.none) amounts opened.named in
    record {
      few = omega arith;
      kept =
          subst (All (IsKept 0)) (sym (settled-none totals places amounts (none-pending amounts none)))
          (all_kept c.args.chart.now c.lines-line-items.result.now c.loop-line.line-index totals
          c.lines-line-items.ensures.lawful c.lines-line-items.ensures.value c.loop-line-test.false opened.opened);
      numbered = opened.numbered;
      good = All-weaker (IsNamedAmount c.args.chart.now.lines) (λ amount. IsGoodAmount amount.field) (λ amount is. is.good) amounts opened.named;
      little =
          All-weaker (λ amount. amount.pending ≡ pos 0) (λ amount. IsWithin (0 * above_amounts) amount.pending)
          (λ amount is. subst (IsWithin (0 * above_amounts)) (sym is) (none_within (0 * above_amounts))) amounts none;
    }

pub returns-clause-begun : goal.returns-clause-begun
returns-clause-begun c =
    let opened = c.loop-line.invariant in
    let amounts = c.loop-line.amounts.items in
    settled-none c.loop-line.totals.items c.loop-line.places.items amounts
    (none-pending amounts
    (All-weaker (IsNamedAmount c.args.chart.now.lines) (λ amount. amount.pending ≡ pos 0) (λ amount is. is.none) amounts opened.named))
    ∙ all_open c.args.chart.now.lines c.lines-line-items.result.now c.loop-line.line-index c.loop-line.totals.items
    c.lines-line-items.ensures.value
    c.loop-line-test.false
    opened.opened
