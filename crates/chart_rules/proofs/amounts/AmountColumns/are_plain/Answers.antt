use Rattle.std.proofs.Common.{◌≡◌, ◌<◌, ◌+◌, ◌-◌, ◌∙◌, ap, arith, length, refl, ℕ, List, slice_index}
use Rattle.std.proofs.lemmas.List.{get_or_default}
use Rattle.card_code.specs.Columns.{column_of}
use Rattle.chart_rules.proofs.AmountMarks.{plain-more}
use Rattle.chart_rules.proofs.amounts.AmountColumns.are_plain.Goals as goal

pub loop-place-preserved : goal.loop-place-preserved
loop-place-preserved c =
    let place = c.loop-place.place in
    let inside : place < length c.columns-columns.result.now = omega arith in
    let read : column_of c.set-set.result ≡ slice_index c.args.card.now place
    = c.set-set.ensures.value
    ∙ get_or_default c.columns-columns.result.now place c.index-columns-place.result 0 inside
    ∙ ap (λ (l : List ℕ). slice_index l place) c.columns-columns.ensures.columns in
    let index : place ≡ place + 1 - 1 = omega arith in
    record {
      plain =
          plain-more c.args.self.now c.args.card.now place c.loop-place.faults c.loop-place.before c.set-set.result c.crowding_rows.result
          c.digit_lacks.result c.digit_lacks-in-loop-place.result _
          c.loop-place.invariant.plain refl read c.loop-place.invariant.behind
          c.crowding_rows.type_inv c.digit_lacks.type_inv c.digit_lacks-in-loop-place.type_inv
          c.crowding_rows.ensures.digits c.crowding_rows.ensures.zone c.digit_lacks.ensures c.digit_lacks-in-loop-place.ensures;
      behind = λ some. read ∙ ap (slice_index c.args.card.now) index;
      small = c.set-set.ensures.small;
    }
