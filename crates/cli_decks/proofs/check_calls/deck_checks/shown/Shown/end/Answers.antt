use Rattle.std.proofs.Common.{◌∙◌, sym}
use Rattle.cli_decks.proofs.CheckCalls.DeckChecks.Showing.{ends_fine, ends_shown}
use Rattle.cli_decks.proofs.check_calls.deck_checks.shown.Shown.end.Goals as goal

pub returns-then-is_some-clause-shown : goal.returns-then-is_some-clause-shown
returns-then-is_some-clause-shown c = λ deck rest before none.
    ends_shown c.args.chart.now deck rest c.args.standing.now c.args.self.now c.add.new.self c.end-told.result before none
    (c.end-told.ensures.told before.so_far before.at) (record { first = c.in_ok-add.ensures.first; text = c.in_ok-add.ensures.text })
    (sym c.is_some.ensures ∙ c.if-is_some.true)

pub returns-in-Ok-clause-shown : goal.returns-in-Ok-clause-shown
returns-in-Ok-clause-shown c = λ deck rest before none.
    ends_fine c.args.chart.now deck rest c.args.standing.now c.args.self.now c.add.new.self c.end-told.result before none
    (c.end-told.ensures.told before.so_far before.at) (record { first = c.in_ok-add.ensures.first; text = c.in_ok-add.ensures.text })
    c.end-told.new.self _ (sym c.is_some.ensures ∙ c.if-is_some.false) c.end-told.ensures.count c.end-told.ensures.first
    c.end-told.ensures.last c.in-Ok.ensures
