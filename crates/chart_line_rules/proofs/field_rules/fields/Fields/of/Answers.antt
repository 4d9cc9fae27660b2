use Rattle.std.proofs.Common.{◌∙◌, sym, take}
use Rattle.std.proofs.lemmas.List.{append-nil}
use Rattle.chart_line_rules.specs.FieldRules.Fields.{fields_of}
use Rattle.chart_line_rules.proofs.FieldRules.Places.{fields_of-more, fields_of-one, fields_of-none}
use Rattle.chart_line_rules.proofs.field_rules.fields.Fields.of.Goals as goal
use Rattle.chart_line_rules.proofs.field_rules.fields.Fields.of.Goals.{in-Some+in_ok-add_field, in_default}

pub loop-line-preserved : goal.loop-line-preserved
loop-line-preserved c =
    let more = fields_of-more c.args.lines.now c.loop-line.line-index c.line-item.result c.loop-line-test.true c.line-item.is in
    elim c.match-described_by.branch [
      | in-Some+in_ok-add_field w ↦
          let one = fields_of-one c.line-item.result w.in-Some.field (sym w.in-Some.ensures) in
          record { items = rw w.in_order-is (cc w.in_ok-add_field.ensures.items); index = rw (w.first-is, w.in_order-is) w.in_ok-add_field.ensures.index }
      | in_default w ↦
          let none = fields_of-none c.line-item.result (sym c.described_by.ensures ∙ w.in_default.is) in
          let nil = append-nil (fields_of (take c.loop-line.line-index c.args.lines.now)) in
          record { items = rw w.in_order-is (cc); index = rw (w.first-is, w.in_order-is) c.loop-line.invariant.index }
    ]
