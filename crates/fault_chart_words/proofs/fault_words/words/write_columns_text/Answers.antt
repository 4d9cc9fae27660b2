use Rattle.fault_chart_words.specs.FaultWords.Words.{columns_text}
use Rattle.fault_chart_words.proofs.FaultWords.Writing.{then_writes}
use Rattle.fault_chart_words.proofs.fault_words.words.write_columns_text.Goals as goal

pub returns : goal.returns
unfolding columns_text
returns g c =
    then_writes c.write_range.result _ _ _ _ _ (rw c.as_bytes.ensures at c.in_ok-write_all.ensures.bytes)
    (rw (c.from.ensures, c.from-2.ensures) at c.write_range.ensures)
