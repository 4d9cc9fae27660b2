use Rattle.std.proofs.Common.{refl}
use Rattle.std.proofs.lemmas.Option.{slice_get_read}
use Rattle.cli_decks.proofs.deck_notes.key_returns.keys.key_on.Goals as goal

pub add_sets-requires : goal.add_sets-requires
add_sets-requires c =
    c.requires c.loop-field.field-index c.field-item.result
    (slice_get_read c.args.fields.now _ c.loop-field.field-index c.field-item.result refl c.loop-field-test.true c.field-item.is)
