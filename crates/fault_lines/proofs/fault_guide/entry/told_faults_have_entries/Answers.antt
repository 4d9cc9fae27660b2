use Rattle.fault_lines.proofs.FaultGuide.Told.{told-have}
use Rattle.fault_lines.proofs.fault_guide.entry.told_faults_have_entries.Goals as goal

pub returns : goal.returns
returns c = told-have
