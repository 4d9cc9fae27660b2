use Rattle.compile407.proofs.Versions.{versions_compile_alike, versions_run_alike, versions_report_alike}
use Rattle.compile407.proofs.laws.versions_say_the_same.Goals as goal

pub returns : goal.returns
returns c = record { compiled = versions_compile_alike; decks = versions_run_alike; reports = versions_report_alike }
