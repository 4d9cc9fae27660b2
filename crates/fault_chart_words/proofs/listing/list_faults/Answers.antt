use Rattle.std.proofs.Common.{◌++◌, ◌∙◌, sym, ap, refl, length, drop, take}
use Rattle.std.proofs.lemmas.Option.{slice_get_read}
use Rattle.chart_line_rules.specs.FieldRules.Fields.{fields_of}
use Rattle.chart_line_rules.proofs.FieldRules.Places.{fields_of-split}
use Rattle.fault_chart_words.specs.HelperLists.{faults_of, faults_at, faults_at_end}
use Rattle.fault_chart_words.proofs.Steps.{ListedTo-more, ListedTo-all}
use Rattle.fault_chart_words.proofs.listing.list_faults.Goals as goal

pub add_line-requires-clause-front : goal.add_line-requires-clause-front
add_line-requires-clause-front c = (
  fields_of (drop c.loop-place.place c.lines-lines.result.now),
  c.in_ok-fields.ensures ∙ ap fields_of (c.lines.ensures.value ∙ sym c.lines-lines.ensures.value) ∙ fields_of-split c.lines-lines.result.now c.loop-place.place,
)

pub loop-place-preserved : goal.loop-place-preserved
loop-place-preserved c =
    let at = slice_get_read c.lines-lines.result.now (length c.lines-lines.result.now) c.loop-place.place c.index-lines-place.result refl c.loop-place-test.true c.index-lines-place.is in
    rw (c.in_ok-add_line.ensures ∙ ap (λ lines. c.loop-place.list.items ++ faults_at c.args.raw.now (take c.loop-place.place lines) c.index-lines-place.result) c.lines-lines.ensures.value)
    (ListedTo-more c.args.raw.now c.loop-place.place c.loop-place.list.items c.index-lines-place.result (rw c.lines-lines.ensures.value at at) c.loop-place.invariant)

pub returns-clause-list : goal.returns-clause-list
unfolding faults_of
returns-clause-list c =
    c.in_ok-add_end.ensures
    ∙ ap (λ list. list ++ faults_at_end c.args.raw.now)
    (ListedTo-all c.args.raw.now c.loop-place.place c.loop-place.list.items (rw c.lines-lines.ensures.value at c.loop-place-test.false) c.loop-place.invariant)
