use Rattle.report_definition.proofs.ReadBack.{edits_read}
use Rattle.report_definition.proofs.laws.edits_read_back.Goals as goal

pub returns : goal.returns
returns c = edits_read
