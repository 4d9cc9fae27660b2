use Rattle.std.proofs.KnownBytes.{Appends-trans}
use Rattle.fault_chart_words.specs.FaultWords.Words.{shrink_words}
use Rattle.fault_chart_words.proofs.FaultWords.Writing.{then_writes}
use Rattle.fault_chart_words.proofs.fault_words.words.write_shrink.Goals as goal

pub returns : goal.returns
unfolding shrink_words
returns g c =
    then_writes c.write_all-2.result _ _ _ _ _
    (Appends-trans _ _ _ _ _ (Appends-trans _ _ _ _ _ c.in_ok-write_other.ensures c.in_ok-write_all.ensures.bytes) c.in_ok-write_subject.ensures)
    c.write_all-2.ensures.bytes
