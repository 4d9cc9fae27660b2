use Rattle.std.proofs.Common.{refl, sym, ◌∙◌}
use Rattle.std.proofs.lemmas.Bool.{false≢true}
use Rattle.std.specs.String.{string_bytes}
use Rattle.hubs.proofs.SetupsWords.WireLists.{on_ok}
use Rattle.wire_chart.proofs.WireGains.{wire_gained, other_form}
use Rattle.wire_chart.proofs.write.write_wire.Goals as goal

pub returns-then-is_same_form : goal.returns-then-is_same_form
returns-then-is_same_form c =
    on_ok c.write_wire_line.result _ _
    (λ gained. wire_gained c.args.version c.args.form c.args.wire (string_bytes c.args.text.now)
    (string_bytes c.write_wire_line.new.text) gained (sym c.wire_form.ensures ∙ c.if-is_same_form.ensures.0 refl))
    c.write_wire_line.ensures

pub returns-else-is_same_form : goal.returns-else-is_same_form
returns-else-is_same_form c =
    other_form c.args.version c.args.form c.args.wire (string_bytes c.args.text.now)
    (λ same. false≢true (c.if-is_same_form.ensures.1 (c.wire_form.ensures ∙ same)))
