use Rattle.std.proofs.Common.{◌≡◌, ◌∙◌, ◌<◌, ◌≤◌, ◌+◌, List, ℕ, Some, sym, ap, subst, arith}
use Rattle.std.proofs.lemmas.Result.{err_from_is_err_and}
use Rattle.std.specs.Io.KnownBytes.{prepend_known}
use Rattle.card_code.specs.Deck.{IsCardOf, HasLineFault}
use Rattle.card_code.specs.Lines.{without_cr}
use Rattle.report_streams.proofs.CardLines.Next.{characters-found, gives, many, of_card, told_next}
use Rattle.report_streams.proofs.card_lines.reading.CardLines.take_line.Goals as goal
use Rattle.report_streams.specs.CardLines.Faults.{HasFaultNext}
use Rattle.report_streams.specs.CardLines.Front.{line_end}
use Rattle.report_streams.specs.CardLines.Reading.{Reading, GivesCard, HasFirstLine, still_to_come}
use Rattle.report_streams.specs.declared.card_lines.fault.ReadFault.TheVariants as read

pub returns-then-self-clause-fault : goal.returns-then-self-clause-fault
returns-then-self-clause-fault g c = λ text known.
    rw c.into.ensures
    (many _ c.args.self.now.held text _ (ap (λ r. r.given) (sym c.self.view_is) ∙ c.if-self.true) c.requires.first known)

pub returns-in_err-put_card-clause-fault : goal.returns-in_err-put_card-clause-fault
returns-in_err-put_card-clause-fault g c =
    let of = c.self.inside in
    let few : of.given < 999999 = omega (arith, c.if-self.false, c.self.invariant.0) in
    let short : line_end of.held ≤ 81 = subst (λ (r : Reading g.row.S.Denot). line_end r.held ≤ 81) (sym c.self.view_is) c.requires.short in
    let first : (rest : List ℕ) → g.S.Source.left of.source ≡ Some rest → HasFirstLine of.held rest =
    λ rest is. subst (λ (r : Reading g.row.S.Denot). HasFirstLine r.held rest) (sym c.self.view_is)
    (c.requires.first rest (ap (λ r. g.S.Source.left r.source) (sym c.self.view_is) ∙ is)) in
    let line = c.without_cr.ensures.line ∙ ap without_cr (c.line.ensures short) in
    let p = err_from_is_err_and c.from_residual.result c.from_residual.ensures.1 in
    rw (p.1, p.2)
    (λ text known. subst (λ n. HasFaultNext n text (read.Deck c.in_err-put_card.field-0.0)) (ap (λ r. r.given) c.self.view_is)
    (told_next of.given of.held text (g.S.Source.left of.source) c.in_err-put_card.field-0.0 few first
    (ap (still_to_come g.S.Source.left) c.self.view_is ∙ known)
    (subst (λ (l : List ℕ). HasLineFault l (of.given + 1) c.in_err-put_card.field-0.0) line c.in_err-put_card.ensures.fault)))

pub returns-clause-card : goal.returns-clause-card
returns-clause-card g c =
    of_card _ _
    (λ card punched text known.
    let of = c.self.inside in
    let left = g.S.Source.left of.source in
    let few : of.given < 999999 = omega (arith, c.if-self.false, c.self.invariant.0) in
    let short : line_end of.held ≤ 81 = subst (λ (r : Reading g.row.S.Denot). line_end r.held ≤ 81) (sym c.self.view_is) c.requires.short in
    let first : (rest : List ℕ) → left ≡ Some rest → HasFirstLine of.held rest =
    λ rest is. subst (λ (r : Reading g.row.S.Denot). HasFirstLine r.held rest) (sym c.self.view_is)
    (c.requires.first rest (ap (λ r. g.S.Source.left r.source) (sym c.self.view_is) ∙ is)) in
    let line = c.without_cr.ensures.line ∙ ap without_cr (c.line.ensures short) in
    let gave =
    gives of.given of.held text card left few first
    (subst (λ (l : List ℕ). IsCardOf l card) line punched) (ap (still_to_come g.S.Source.left) c.self.view_is ∙ known) in
    subst (λ n. GivesCard n text card (prepend_known c.use_up_line.new.self left)) (ap (λ r. r.given) c.self.view_is)
    (subst (λ (held : List ℕ). GivesCard of.given text card (prepend_known held left)) (sym c.use_up_line.ensures) gave))
    c.put_card.new.next c.in_ok-put_card.ensures.card

pub returns-clause-punched : goal.returns-clause-punched
returns-clause-punched g c = characters-found c.put_card.new.next _ c.in_ok-put_card.ensures.card
