use Rattle.std.proofs.Common.{◌≡◌, sym, ◌∙◌}
use Rattle.chart_plans.specs.WantedWords.Pilots.{wants_pilot, pilots_of}
use Rattle.chart_plans.proofs.WantedWords.Reading.{IsTrue-ended, IsTrue-differs, IsReadTo-end_filter, IsReadTo-fails_filter}
use Rattle.chart_plans.proofs.wanted.pilot.are_pilots.Goals as goal

pub returns-in-None : goal.returns-in-None
returns-in-None c =
    IsTrue-differs (c.args.list.now ≡ pilots_of c.args.chart.now.lines)
    (rw c.fields-fields.ensures.value at
    (IsReadTo-fails_filter (wants_pilot c.args.chart.now.lines) (λ field. field.name) c.fields-fields.result.now c.args.list.now c.loop-field.rest.now
    c.loop-field.field-index c.field-item.result c.loop-field-test.true c.field-item.is c.loop-field.invariant (sym c.wants_pilot.ensures ∙ c.if-wants_pilot.true) c.in-None.ensures))

pub returns : goal.returns
returns c =
    IsTrue-ended c.loop-field.rest.now (c.args.list.now ≡ pilots_of c.args.chart.now.lines) c.is_empty.result c.is_empty.ensures
    (rw c.fields-fields.ensures.value at
    (IsReadTo-end_filter (wants_pilot c.args.chart.now.lines) (λ field. field.name) c.fields-fields.result.now c.args.list.now c.loop-field.rest.now
    c.loop-field.field-index c.loop-field-test.false c.loop-field.invariant))
