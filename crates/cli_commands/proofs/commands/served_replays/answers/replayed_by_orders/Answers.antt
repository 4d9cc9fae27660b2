use Rattle.std.proofs.Common.{subst, sym, ◌∙◌}
use Rattle.std.proofs.lemmas.Result.{err_from_is_err_and}
use Rattle.cli_commands.proofs.CommandsWords.ServedReplays.Refusing.{refused_of_texts, served_of_texts}
use Rattle.cli_commands.specs.CommandsWords.ServedReplays.Refusals.{RefusesOrders, lists}
use Rattle.cli_commands.proofs.commands.served_replays.answers.replayed_by_orders.Goals as goal

pub returns-in_err-service-clause-refused : goal.returns-in_err-service-clause-refused
returns-in_err-service-clause-refused c =
    let exit = err_from_is_err_and c.from_residual-in_err-service.result c.from_residual-in_err-service.ensures.1 in
    rw exit.1 (λ not_memory. lists c.in_ok-setup.setup c.in_ok-setup.ensures.read
    (subst (RefusesOrders c.args.orders.now) (sym exit.2) (c.in_err-service.ensures.refused (λ is. not_memory (exit.2 ∙ is)))))

pub returns-clause-served : goal.returns-clause-served
returns-clause-served c =
    served_of_texts c.served_on.result c.args.wiring.now c.args.orders.now c.args.deck.now c.in_ok-setup.setup c.in_ok-service.service
    c.in_ok-setup.ensures.read c.in_ok-service.ensures.said (λ answer. answer.pages.items) (λ answer. answer.counts) c.served_on.ensures.served

pub returns-clause-refused : goal.returns-clause-refused
returns-clause-refused c =
    refused_of_texts c.served_on.result c.args.wiring.now c.args.orders.now c.args.deck.now c.in_ok-setup.setup c.in_ok-service.service
    c.in_ok-setup.ensures.read c.in_ok-service.ensures.said c.served_on.ensures.refused
