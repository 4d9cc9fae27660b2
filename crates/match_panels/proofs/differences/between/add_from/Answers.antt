use Rattle.std.proofs.Common.{arith}
use Rattle.std.proofs.lemmas.Option.{slice_get-get_or}
use Rattle.wiring_lines.proofs.LineWires.Steps.{adds-some, upto-more, upto-none}
use Rattle.match_panels.proofs.DifferencesWords.Wires.{from-all, from-nowhere}
use Rattle.match_panels.proofs.differences.between.add_from.Goals as goal

pub returns-in_default : goal.returns-in_default
returns-in_default c = from-nowhere c.in_default.ensures.found

pub loop-entry-init : goal.loop-entry-init
loop-entry-init c = upto-none

pub loop-entry-preserved : goal.loop-entry-preserved
loop-entry-preserved c =
    upto-more c.loop-entry.invariant
    (adds-some (slice_get-get_or c.entries_of-entries.result.now c.loop-entry.entry-index 0 (omega arith)) c.in_ok-add_to.ensures)

pub returns : goal.returns
returns c =
    from-all c.in-Some.exit c.entries_of-entries.result.now c.in-Some.ensures.numbered c.in-Some.ensures.found c.entries_of-entries.ensures.value
    (omega arith) c.loop-entry.invariant
