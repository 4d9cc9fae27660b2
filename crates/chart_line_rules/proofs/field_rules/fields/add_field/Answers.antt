use Rattle.std.proofs.Common.{sym, rules}
use Rattle.chart_line_rules.proofs.FieldRules.Places.{IsIndexOf-kept, IsIndexOf-added}
use Rattle.chart_line_rules.proofs.field_rules.fields.add_field.Goals as goal

pub returns-then-contains_key-clause-index : goal.returns-then-contains_key-clause-index
returns-then-contains_key-clause-index c =
    rw c.in_ok-push.ensures.items
    (IsIndexOf-kept c.args.in_order.now.items c.args.field c.args.first.now c.requires (sym c.if-contains_key.ensures))

pub returns-clause-index : goal.returns-clause-index
returns-clause-index c =
    rw c.in_ok-push.ensures.items
    (IsIndexOf-added c.args.in_order.now.items c.args.field c.args.first.now c.insert.new.self c.len-place.result c.requires
    (sym c.if-contains_key.ensures) (search rules) c.in_ok-insert.ensures.updates.0)
