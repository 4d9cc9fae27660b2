use Rattle.std.proofs.Common.{ap, sym, subst}
use Rattle.report_streams.proofs.CardLines.Next.{of_found}
use Rattle.report_streams.proofs.card_lines.reading.CardLines.next_into.Goals as goal
use Rattle.report_streams.specs.CardLines.Reading.{GivesCard, still_to_come}

pub returns-clause-card : goal.returns-clause-card
returns-clause-card g c =
    of_found _ _
    (λ card gave text known. subst (λ come. GivesCard c.args.self.now.given text card come)
    (ap (still_to_come g.S.Source.left) (sym c.self-2.view_is)) (gave text known))
    c.take_card-taken.result c.take_card-taken.new.next c.take_card-taken.ensures.card
