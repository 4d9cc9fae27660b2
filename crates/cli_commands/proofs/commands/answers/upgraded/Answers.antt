use Rattle.std.proofs.lemmas.Result.{err_from_is_err_and}
use Rattle.std.specs.Prelude.{string_bytes}
use Rattle.cli_commands.proofs.CommandsWords.Upgrading.{memory_alone, text_refused, upgrade_alike, upgrade_made}
use Rattle.cli_commands.proofs.commands.answers.upgraded.Goals as goal

pub returns-in_err-setup-clause-refused : goal.returns-in_err-setup-clause-refused
returns-in_err-setup-clause-refused c =
    let exit = err_from_is_err_and c.from_residual.result c.from_residual.ensures.1 in
    rw exit.1 (text_refused c.args.wiring.now c.in_err-setup.field-0.0 exit.0 c.in_err-setup.ensures.fault exit.2)

pub returns-clause-upgraded : goal.returns-clause-upgraded
returns-clause-upgraded c =
    upgrade_made c.rewritten.result string_bytes c.args.wiring.now c.in_ok-setup.setup c.in_ok-setup.ensures.read
    c.rewritten.ensures.written

pub returns-clause-same_pages : goal.returns-clause-same_pages
returns-clause-same_pages c =
    upgrade_alike c.rewritten.result string_bytes c.args.wiring.now c.in_ok-setup.setup c.in_ok-setup.ensures.read
    c.rewritten.ensures.reads_back

pub returns-clause-refused : goal.returns-clause-refused
returns-clause-refused c = memory_alone c.rewritten.result c.args.wiring.now c.rewritten.ensures.memory
