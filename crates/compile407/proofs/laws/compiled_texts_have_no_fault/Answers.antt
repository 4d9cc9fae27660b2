use Rattle.compile407.proofs.Exclusions.{compiled_texts_have_no_fault}
use Rattle.compile407.proofs.laws.compiled_texts_have_no_fault.Goals as goal

pub returns : goal.returns
returns c = compiled_texts_have_no_fault
