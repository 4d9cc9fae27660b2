use Rattle.cli_commands.proofs.CommandsWords.Exclusions.{answered_texts_are_not_refused}
use Rattle.cli_commands.proofs.commands.laws.answered_texts_are_not_refused.Goals as goal

pub returns : goal.returns
returns c = answered_texts_are_not_refused
