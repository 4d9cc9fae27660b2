use Rattle.std.proofs.Common.{length, refl, subst, sym}
use Rattle.std.proofs.lemmas.Option.{slice_get_read}
use Rattle.chart_rules.proofs.ControlFields.{controls-on_card}
use Rattle.chart_lines.specs.ChartsWords.Levels.{control_number}
use Rattle.chart_rules.specs.HelperOnCard.{AreOnCard}
use Rattle.cli_decks.proofs.deck_notes.key_returns.words.write_level.Goals as goal

pub write_field-requires : goal.write_field-requires
write_field-requires c =
    let fields = c.control_fields-field-items.result.now in
    let on = subst AreOnCard (sym c.control_fields-field-items.ensures.value)
    (controls-on_card c.args.chart.now (control_number c.args.level) c.control_fields-field-items.ensures.lawful) in
    on c.loop-field.field-index c.field-item.result
    (slice_get_read fields (length fields) c.loop-field.field-index c.field-item.result refl c.loop-field-test.true c.field-item.is)
