use Rattle.proof_laws.proofs.HoleLaws.Differences.{lines-tell}
use Rattle.proof_laws.proofs.HoleLaws.Reasons.{others-call-none}
use Rattle.proof_laws.proofs.hole_laws.law.lines_tell_differences.Goals as goal

pub returns-clause-told : goal.returns-clause-told
returns-clause-told c = lines-tell

pub returns-clause-others : goal.returns-clause-others
returns-clause-others c = others-call-none
