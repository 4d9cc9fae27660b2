use Rattle.std.proofs.Common.{◌∙◌, ◌+◌, ◌<◌, sym, ap, subst, arith}
use Rattle.card_code.specs.declared.deck.DeckFault.TheVariants.{CardTooLong}
use Rattle.report_streams.proofs.CardLines.Next.{long_many, long_told}
use Rattle.report_streams.proofs.card_lines.reading.CardLines.too_long.Goals as goal
use Rattle.report_streams.specs.CardLines.Faults.{IsLineAtFault}
use Rattle.report_streams.specs.CardLines.Front.{IsTooLong}
use Rattle.report_streams.specs.CardLines.Reading.{Reading, still_to_come}

pub returns-then-self-clause-fault : goal.returns-then-self-clause-fault
returns-then-self-clause-fault g c = λ text known.
    rw c.into.ensures
    (long_many _ c.args.self.now.held text _ (ap (λ r. r.given) (sym c.self.view_is) ∙ c.if-self.true) c.requires known)

pub returns-clause-fault : goal.returns-clause-fault
returns-clause-fault g c = λ text known.
    let of = c.self.inside in
    let front = subst (λ (r : Reading g.row.S.Denot). IsTooLong r.held) (sym c.self.view_is) c.requires in
    let few : of.given < 999999 = omega (arith, c.if-self.false, c.self.invariant.0) in
    subst (λ n. IsLineAtFault n text (CardTooLong (of.given + 1))) (ap (λ r. r.given) c.self.view_is)
    (long_told of.given of.held text (g.S.Source.left of.source) few front (ap (still_to_come g.S.Source.left) c.self.view_is ∙ known))
