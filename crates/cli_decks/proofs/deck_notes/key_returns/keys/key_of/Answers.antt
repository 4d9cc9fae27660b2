use Rattle.std.proofs.Common.{subst, sym}
use Rattle.chart_rules.proofs.ControlFields.{controls-on_card}
use Rattle.chart_lines.specs.ChartsWords.Levels.{control_number}
use Rattle.chart_rules.specs.HelperOnCard.{AreOnCard}
use Rattle.cli_decks.proofs.deck_notes.key_returns.keys.key_of.Goals as goal

pub key_on-requires : goal.key_on-requires
key_on-requires c =
    subst AreOnCard (sym c.control_fields.ensures.value)
    (controls-on_card c.args.chart.now (control_number c.args.level) c.control_fields.ensures.lawful)
