use Rattle.std.proofs.KnownBytes.{Appends-trans}
use Rattle.fault_chart_words.proofs.FaultWords.Writing.{then_writes}
use Rattle.fault_lists.specs.TextEntries.{first_line_entry}
use Rattle.fault_lists.proofs.entries.write_first_line.Goals as goal

pub returns : goal.returns
unfolding first_line_entry
returns g c =
    then_writes c.write_all-4.result _ _ _ _ _
    (Appends-trans _ _ _ _ _ c.in_ok-write_all.ensures.bytes
    (Appends-trans _ _ _ _ _
    (Appends-trans _ _ _ _ _ c.in_ok-write_all-2.ensures.bytes (rw c.line_numbered.ensures at c.in_ok-write_printable.ensures))
    c.in_ok-write_all-3.ensures.bytes))
    c.write_all-4.ensures.bytes
