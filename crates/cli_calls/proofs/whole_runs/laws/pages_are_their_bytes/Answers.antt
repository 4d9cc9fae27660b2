use Rattle.cli_calls.proofs.WholeRuns.PageLaws as laws
use Rattle.cli_calls.proofs.whole_runs.laws.pages_are_their_bytes.Goals as goal

pub returns-clause-pages : goal.returns-clause-pages
returns-clause-pages c = laws.pages_are_their_bytes

pub returns-clause-there : goal.returns-clause-there
returns-clause-there c = laws.pages_are_there

pub returns-clause-all : goal.returns-clause-all
returns-clause-all c = laws.all_pages_are_the_text
