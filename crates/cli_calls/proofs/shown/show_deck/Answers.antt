use Rattle.std.proofs.Common.{ℕ, List, Some, subst, sym, ◌∙◌, refl}
use Rattle.cli_calls.specs.Does.{faulty, of_chart, of_wiring}
use Rattle.fault_lists.specs.TextLists.Endings.{AnswersText}
use Rattle.cli_calls.proofs.shown.show_deck.Goals as goal

pub returns-in-Err : goal.returns-in-Err
returns-in-Err g c = let told = c.tell_listed.ensures in faulty told.0 told.1 told.2 told.3

pub returns-in-Ok : goal.returns-in-Ok
returns-in-Ok g c =
    let answers = subst (λ (none : List ℕ). AnswersText c.args.text.now (Some none) (Some c.list_text.new.out.items)) c.new-listed.ensures.items
    c.in-Ok.ensures.fine in
    let told = c.tell_deck_of_wiring.ensures in
    of_wiring _ (sym c.is_wiring_text.ensures ∙ c.if-is_wiring_text.true) answers told.status refl told.line

pub returns-in-Ok-2 : goal.returns-in-Ok-2
returns-in-Ok-2 g c =
    let answers = subst (λ (none : List ℕ). AnswersText c.args.text.now (Some none) (Some c.list_text.new.out.items)) c.new-listed.ensures.items
    c.in-Ok-2.ensures.fine in
    of_chart _ (sym c.is_wiring_text.ensures ∙ c.if-is_wiring_text.false) answers c.show_cards.ensures
