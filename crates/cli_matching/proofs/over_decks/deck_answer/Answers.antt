use Rattle.std.specs.String.{string_bytes}
use Rattle.cli_matching.proofs.Answering.{answered_over, memory_refuses_deck}
use Rattle.cli_matching.proofs.over_decks.deck_answer.Goals as goal

pub returns-clause-answer : goal.returns-clause-answer
returns-clause-answer c =
    answered_over c.unwired_answer.result (λ answer. answer.outcome) (λ answer. string_bytes answer.text) c.args.wiring.now c.args.deck.now
    c.as_slice.result.now c.in_ok-cards.cards.items c.args.panels.now.version c.args.panels.now.compiled c.args.panels.now.setup c.as_slice.ensures.value
    c.in_ok-cards.ensures.deck c.unwired_answer.ensures.answer

pub returns-clause-refused : goal.returns-clause-refused
returns-clause-refused c = memory_refuses_deck c.unwired_answer.result c.args.deck.now c.unwired_answer.ensures.memory
