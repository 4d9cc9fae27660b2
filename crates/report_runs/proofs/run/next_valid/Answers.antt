use Rattle.std.proofs.Common.{◌≡◌, subst, sym, ◌≤◌, ◌+◌, IfSome, arith}
use Rattle.card_code.specs.Deck.{HasCharacters}
use Rattle.card_code.specs.MostCards.{most_cards}
use Rattle.report_runs.proofs.NextCards.{fault_up_to, found_up_to, invalid_next, no_invalid_read, reads_on, up_to_other}
use Rattle.report_runs.specs.declared.fault.StreamCause.TheVariants as cause
use Rattle.report_runs.proofs.run.next_valid.Goals as goal

pub valid_read_card-requires : goal.valid_read_card-requires
valid_read_card-requires g c = subst (λ found. IfSome found HasCharacters) c.in-Some.is c.in_default.ensures.punched

pub returns-in-Err-valid_read_card-clause-read : goal.returns-in-Err-valid_read_card-clause-read
returns-in-Err-valid_read_card-clause-read g c = λ text before come counted.
    let one_more = subst (λ found. IfSome found (λ _. c.next_into.new.self.given ≡ c.args.cards.now.given + 1)) c.in-Some.is c.in_default.ensures.one_more in
    invalid_next g.S.Source.left c.args.chart.now text before c.next_into.new.self c.next_into.new.next c.in-Some.card c.in-Err-valid_read_card.fault
    c.args.number
    counted (omega (arith, one_more, c.in_default.ensures.few, c.requires.number)) c.in-Some.is c.in-Err-valid_read_card.ensures.first
    (reads_on g.S.Source.left text before c.args.cards.now c.next_into.new.self c.next_into.new.next
    (subst (λ n. n ≤ most_cards) (sym counted) c.requires.few) c.in_default.ensures.card c.in_default.ensures.none come)

pub returns-clause-read : goal.returns-clause-read
returns-clause-read g c = λ text before come counted.
    reads_on g.S.Source.left text before c.args.cards.now c.next_into.new.self c.next_into.new.next
    (subst (λ n. n ≤ most_cards) (sym counted) c.requires.few) c.in_default.ensures.card c.in_default.ensures.none come

pub returns-in-Err-clause-up_to : goal.returns-in-Err-clause-up_to
returns-in-Err-clause-up_to g c = λ text before come.
    rw c.into.ensures
    (fault_up_to g.S.Source.left text before c.args.cards.now c.next_into.new.self c.in-Err.fault c.in-Err.ensures.kept
    (c.in-Err.ensures.part c.requires.well) come)

pub returns-in-Err-valid_read_card-clause-up_to : goal.returns-in-Err-valid_read_card-clause-up_to
returns-in-Err-valid_read_card-clause-up_to g c = λ text before come.
    up_to_other text before cause.Write (cause.Invalid c.in-Err-valid_read_card.fault (c.args.number + 1)) _ no_invalid_read
    (found_up_to g.S.Source.left text before c.args.cards.now c.next_into.new.self c.next_into.new.next c.in_default.ensures.card c.in_default.ensures.kept come)

pub returns-clause-up_to : goal.returns-clause-up_to
returns-clause-up_to g c = λ text before come.
    found_up_to g.S.Source.left text before c.args.cards.now c.next_into.new.self c.next_into.new.next c.in_default.ensures.card c.in_default.ensures.kept come
