use Rattle.std.proofs.Common.{subst, sym, ◌∙◌}
use Rattle.std.proofs.lemmas.Result.{err_from_is_err_and}
use Rattle.cli_commands.specs.CommandsWords.ServedReplays.Refusals.{RefusesOrders, lists}
use Rattle.cli_commands.proofs.commands.served_replays.serving.check_orders.Goals as goal

pub returns-in_err-service_of-clause-refused : goal.returns-in_err-service_of-clause-refused
returns-in_err-service_of-clause-refused c =
    let exit = err_from_is_err_and c.from_residual-in_err-service_of.result c.from_residual-in_err-service_of.ensures.1 in
    rw exit.1 (λ not_memory deck. lists c.in_ok-read_setup.field-0 c.in_ok-read_setup.ensures.read
    (subst (RefusesOrders c.args.orders.now) (sym exit.2) (c.in_err-service_of.ensures.refused (λ is. not_memory (exit.2 ∙ is)))))
