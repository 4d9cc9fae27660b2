use Rattle.std.proofs.Common.{◌∙◌, ◌+◌, ℕ, List, sym, ap, subst, option_to_list}
use Rattle.std.proofs.lemmas.Result.{err_from_is_err_and}
use Rattle.card_code.specs.Lines.{without_cr}
use Rattle.cli_decks.proofs.CheckCalls.DeckChecks.Steps.{ends, ends_unwritten, goes_on, goes_on_unwritten, has_too_many, is_unread}
use Rattle.cli_decks.specs.CheckCalls.DeckChecks.HelperStanding.{Takes}
use Rattle.cli_decks.proofs.check_calls.deck_checks.checking.step.Goals as goal

pub returns-in_default-clause-goes_on : goal.returns-in_default-clause-goes_on
returns-in_default-clause-goes_on g c = λ deck was stands. rw c.count.ensures (is_unread stands)

pub returns-in_err-list-clause-goes_on : goal.returns-in_err-list-clause-goes_on
returns-in_err-list-clause-goes_on g c = λ deck was stands.
    let p = err_from_is_err_and c.from_residual.result c.from_residual.ensures.1 in
    rw (p.1, p.2)
    (ends_unwritten stands _ _ _ (c.in-Ok.ensures.none c.if-not-is_there.true) (c.end.ensures.told stands.so_far stands.at)
    c.in_err-list.ensures.broken)

pub returns-then-not-is_there-clause-goes_on : goal.returns-then-not-is_there-clause-goes_on
returns-then-not-is_there-clause-goes_on g c = λ deck was stands.
    ends stands _ _ _ _ (c.in-Ok.ensures.none c.if-not-is_there.true) (c.end.ensures.told stands.so_far stands.at) c.end.ensures.count
    c.end.ensures.first c.end.ensures.last c.in_ok-list.ensures.written c.in_ok-list.ensures.first

pub returns-then-count-clause-goes_on : goal.returns-then-count-clause-goes_on
returns-then-count-clause-goes_on g c = λ deck was stands.
    rw c.into.ensures
    (has_too_many stands _ _ (sym c.count-2.ensures ∙ c.if-count.true) (c.in-Ok.ensures.line c.if-not-is_there.false))

pub returns-in_err-list-2-clause-goes_on : goal.returns-in_err-list-2-clause-goes_on
returns-in_err-list-2-clause-goes_on g c = λ deck was stands.
    let p = err_from_is_err_and c.from_residual-in_err-list-2.result c.from_residual-in_err-list-2.ensures.1 in
    let takes = subst
    (λ (l : List ℕ). Takes c.args.chart.now (c.args.standing.now.count + 1) l stands.so_far (option_to_list c.take-told.result) c.take-told.new.self)
    (c.without_cr.ensures.line ∙ ap without_cr c.as_slice.ensures.value) (c.take-told.ensures.takes stands.so_far stands.at) in
    rw (p.1, p.2)
    (goes_on_unwritten stands (c.in-Ok.ensures.line c.if-not-is_there.false) _ _ _ _ takes c.in_err-list-2.ensures.broken)

pub returns-clause-goes_on : goal.returns-clause-goes_on
returns-clause-goes_on g c = λ deck was stands.
    let takes = subst
    (λ (l : List ℕ). Takes c.args.chart.now (c.args.standing.now.count + 1) l stands.so_far (option_to_list c.take-told.result) c.take-told.new.self)
    (c.without_cr.ensures.line ∙ ap without_cr c.as_slice.ensures.value) (c.take-told.ensures.takes stands.so_far stands.at) in
    goes_on stands (c.in-Ok.ensures.line c.if-not-is_there.false) _ _ _ _
    (λ is. c.if-count.false (c.count-2.ensures ∙ is)) takes c.take-told.ensures.counted c.in_ok-list-2.ensures.written
    c.in_ok-list-2.ensures.first
