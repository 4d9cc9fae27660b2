use Rattle.std.proofs.Common.{◌≡◌, ◌∙◌, ◌<◌, ◌+◌, List, ℕ, length, drop, sym, ap, subst, arith}
use Rattle.std.proofs.lemmas.List.{nil_from_length}
use Rattle.std.proofs.lemmas.Bool.Decides.{nat_tests}
use Rattle.std.specs.Io.KnownBytes.{IsAtEnd, prepend_known}
use Rattle.card_code.specs.Lines.{without_cr}
use Rattle.report_streams.proofs.CardLines.Cuts.{end_of_all}
use Rattle.report_streams.proofs.CardLines.FirstLines.{held_line}
use Rattle.report_streams.proofs.CardLines.Next.{ended_line, given_as, last_first, line_of_part, none_left, of_found, of_used, still_known}
use Rattle.report_streams.proofs.card_lines.reading.CardLines.take_card.Goals as goal
use Rattle.report_streams.specs.CardLines.Front.{IsFront, IsPart, line_end}
use Rattle.report_streams.specs.CardLines.Reading.{Reading, TakesEndedLine}

pub take_line-requires-clause-first : goal.take_line-requires-clause-first
take_line-requires-clause-first g c = λ rest is.
    held_line c.fill.new.self.held rest (subst (IsFront c.fill.new.self.held) c.in-Line.is c.in-Ok.ensures.front)

pub take_line-requires-in-Part-2-clause-first : goal.take_line-requires-in-Part-2-clause-first
take_line-requires-in-Part-2-clause-first g c =
    let end =
    subst (λ (r : Reading g.row.S.Denot). IsAtEnd (g.S.Source.left r.source)) c.self.view_is
    (c.self.invariant.1 (ap (λ r. r.at_end) c.self.view_is ∙ c.in-Ok.ensures.end c.in-Part-2.is)) in
    let part = subst (IsFront c.fill.new.self.held) c.in-Part-2.is c.in-Ok.ensures.front in
    let held = ap (λ r. r.held) c.self.view_is in
    let line = c.without_cr.ensures.line ∙ ap without_cr (line_of_part c.self.inside.held _ (subst IsPart (sym held) part) c.line.ensures ∙ held) in
    (last_first c.fill.new.self.held _ part end
    (subst (λ (l : List ℕ). 0 < length l) line (grind (arith, nat_tests, c.if-is_empty.ensures))))

pub returns-in-Line-clause-card : goal.returns-in-Line-clause-card
returns-in-Line-clause-card g c =
    of_found _ _
    (λ card gave text known. given_as _ _ text card c.in-Ok.ensures.given
    (gave text (still_known _ _ text c.in-Ok.ensures.text known)))
    c.take_line.result c.take_line.new.next c.take_line.ensures.card

pub returns-in-Part-clause-none : goal.returns-in-Part-clause-none
returns-in-Part-clause-none g c = λ text known.
    let end =
    subst (λ (r : Reading g.row.S.Denot). IsAtEnd (g.S.Source.left r.source)) c.self.view_is
    (c.self.invariant.1 (ap (λ r. r.at_end) c.self.view_is ∙ c.in-Ok.ensures.end c.in-Part.is)) in
    let part = subst (IsFront c.fill.new.self.held) c.in-Part.is c.in-Ok.ensures.front in
    let held = ap (λ r. r.held) c.self.view_is in
    let line = c.without_cr.ensures.line ∙ ap without_cr (line_of_part c.self.inside.held _ (subst IsPart (sym held) part) c.line.ensures ∙ held) in
    none_left c.fill.new.self.held text _ part end
    (subst (λ (l : List ℕ). length l ≡ 0) line (grind (arith, nat_tests, c.if-is_empty.ensures)))
    (still_known _ _ text c.in-Ok.ensures.text known)

pub returns-in-Part-2-clause-card : goal.returns-in-Part-2-clause-card
returns-in-Part-2-clause-card g c =
    of_found _ _
    (λ card gave text known. given_as _ _ text card c.in-Ok.ensures.given
    (gave text (still_known _ _ text c.in-Ok.ensures.text known)))
    c.take_line-in-Part-2.result c.take_line-in-Part-2.new.next c.take_line-in-Part-2.ensures.card

pub returns-in-Line-clause-unended : goal.returns-in-Line-clause-unended
returns-in-Line-clause-unended g c = λ _.
    of_used _
    (λ used _ text known.
    let left = g.S.Source.left in
    subst (λ (held : List ℕ). TakesEndedLine text (prepend_known held (left c.take_line.new.self.source))) (sym used)
    (subst (λ (source : g.row.S.Denot). TakesEndedLine text (prepend_known (drop (line_end c.fill.new.self.held + 1) c.fill.new.self.held) (left source)))
    (sym c.take_line.ensures.unread)
    (ended_line c.fill.new.self.held text (left c.fill.new.self.source)
    (subst (IsFront c.fill.new.self.held) c.in-Line.is c.in-Ok.ensures.front) (still_known _ _ text c.in-Ok.ensures.text known))))
    c.take_line.result c.take_line.new.next c.take_line.ensures.used

pub take_line-requires-in-Part-2-clause-short : goal.take_line-requires-in-Part-2-clause-short
take_line-requires-in-Part-2-clause-short g c =
    let part = subst (IsFront c.fill.new.self.held) c.in-Part-2.is c.in-Ok.ensures.front in
    omega (arith, end_of_all c.fill.new.self.held part.unended, part.short)

pub returns-in-Part-clause-at_end : goal.returns-in-Part-clause-at_end
returns-in-Part-clause-at_end g c =
    let part = subst (IsFront c.fill.new.self.held) c.in-Part.is c.in-Ok.ensures.front in
    let held = ap (λ r. r.held) c.self.view_is in
    let line = c.without_cr.ensures.line ∙ ap without_cr (line_of_part c.self.inside.held _ (subst IsPart (sym held) part) c.line.ensures ∙ held) in (
      c.in-Ok.ensures.end c.in-Part.is,
      nil_from_length _ (subst (λ (l : List ℕ). length l ≡ 0) line (grind (arith, nat_tests, c.if-is_empty.ensures))),
    )
