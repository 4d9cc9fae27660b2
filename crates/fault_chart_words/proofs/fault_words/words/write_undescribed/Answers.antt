use Rattle.fault_chart_words.specs.FaultWords.Words.{undescribed_words}
use Rattle.fault_chart_words.proofs.FaultWords.Writing.{then_writes}
use Rattle.fault_chart_words.proofs.fault_words.words.write_undescribed.Goals as goal

pub returns : goal.returns
unfolding undescribed_words
returns g c = then_writes c.write_subject.result _ _ _ _ _ c.in_ok-write_all.ensures.bytes c.write_subject.ensures
