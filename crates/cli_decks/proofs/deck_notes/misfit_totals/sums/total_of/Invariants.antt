use Rattle.std.proofs.Common.{◌≡◌, ◌+ℤ◌, ◌*◌, drop}
use Rattle.report_misfits.specs.HelperTotals.{IsWithin, above_amounts}
use Rattle.report_definition.specs.Totals.{total_of}
use Rattle.cli_decks.proofs.deck_notes.misfit_totals.sums.total_of.Given as goal

-- the sum so far, and the total of the cards that are left
abbrev pub invariant-loop-card : goal.invariant-loop-card
invariant-loop-card l =
    record { whole : l.sum +ℤ total_of l.field (drop l.card-index l.group) ≡ total_of l.field l.group; small : IsWithin (l.card-index * above_amounts) l.sum }
