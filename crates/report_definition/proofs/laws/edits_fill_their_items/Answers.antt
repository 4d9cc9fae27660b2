use Rattle.report_definition.proofs.EditLaws.{edits_fill}
use Rattle.report_definition.proofs.laws.edits_fill_their_items.Goals as goal

pub returns : goal.returns
returns c = edits_fill
