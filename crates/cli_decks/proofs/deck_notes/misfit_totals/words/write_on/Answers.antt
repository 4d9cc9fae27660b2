use Rattle.std.proofs.Common.{◌∙◌, sym}
use Rattle.cli_decks.proofs.deck_notes.misfit_totals.words.write_on.Goals as goal

pub write_if_large-requires-clause-good : goal.write_if_large-requires-clause-good
write_if_large-requires-clause-good c =
    c.requires.good c.in-TotalAmount.total c.in-Some.field c.in-TotalAmount.is (sym c.field.ensures ∙ c.in-Some.is)
