use Rattle.std.proofs.KnownBytes.{Appends-trans}
use Rattle.fault_chart_words.specs.FaultWords.Words.{item_twice_words}
use Rattle.fault_chart_words.proofs.FaultWords.Writing.{then_writes}
use Rattle.fault_chart_words.proofs.fault_words.words.write_item_twice.Goals as goal

pub returns : goal.returns
unfolding item_twice_words
returns g c =
    then_writes c.write_other.result _ _ _ _ _
    (Appends-trans _ _ _ _ _
    (Appends-trans _ _ _ _ _ (Appends-trans _ _ _ _ _ c.in_ok-write_subject.ensures c.in_ok-write_all.ensures.bytes) c.in_ok-write_line_of_item.ensures)
    c.in_ok-write_all-2.ensures.bytes)
    c.write_other.ensures
