use Rattle.std.proofs.Common.{codes, ◌^◌, ◌-◌}
use Rattle.chart_lines.specs.ChartsWords.Field.{decimals_of}
use Rattle.cli_decks.proofs.DeckNotes.MisfitTotals.Pieces.{then_more}
use Rattle.cli_decks.specs.DeckNotes.MisfitTotals.Large.{room_number}
use Rattle.cli_sheets.specs.SheetsWords.Fields.{number_told}
use Rattle.cli_decks.proofs.deck_notes.misfit_totals.words.write_room.Goals as goal

pub returns : goal.returns
unfolding room_number
returns c =
    then_more c.write_all.result c.args.text.now.items c.write_with_decimals.new.text.items c.write_all.new.self.items
    (number_told (10 ^ c.args.total.now.digits - 1) (decimals_of c.args.field.now.kind)) (codes "\n")
    (rw (c.room_of.ensures, c.from.ensures, c.decimals.ensures) at c.in_ok-write_with_decimals.ensures) c.write_all.ensures.bytes
