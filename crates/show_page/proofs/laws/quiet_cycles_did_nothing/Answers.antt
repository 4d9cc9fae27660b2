use Rattle.show_page.proofs.QuietCycles.{quiet_behind}
use Rattle.show_page.proofs.laws.quiet_cycles_did_nothing.Goals as goal

pub returns : goal.returns
returns c = quiet_behind
