use Rattle.cli_decks.proofs.CheckCalls.FirstFaults.{checks_tell_first_what_stops_runs}
use Rattle.cli_decks.proofs.check_calls.laws.checks_tell_first_what_stops_runs.Goals as goal

pub returns : goal.returns
returns c = checks_tell_first_what_stops_runs
