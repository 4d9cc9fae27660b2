use Rattle.std.proofs.Common.{◌∙◌, arith}
use Rattle.report_streams.proofs.DecksInRow.Reading.{first_taken, left_in_row}
use Rattle.report_streams.proofs.decks_in_row.row.DecksInRow.new.Goals as goal

pub returns-clause-known : goal.returns-clause-known
returns-clause-known g c = λ texts known.
    let taken = c.pop_front-deck.ensures in
    let left = g.R.Read.remaining in
    first_taken left c.pop_front-deck.result c.pop_front-deck.new.self.items c.args.decks.items
    (λ some. taken.variant.1 (omega (arith, c.args.decks.ok.0, some))) taken.items
    ∙ left_in_row left c.args.decks.items texts known
