-- The laws of the counters and of the carriage.
use Rattle.proof_reports.specs.WiredPanels.CycleAsks.CycleLaws.{CarriageDoesWhatIsAsked, GroupsAreAskedForTotals}
use Rattle.proof_reports.proofs.WiredPanels.CycleAsks.CounterAsks.{asks}
use Rattle.proof_reports.proofs.WiredPanels.CycleAsks.ToCarriage.{carriage-after, carriage-after-other}

pub groups-asked : GroupsAreAskedForTotals
groups-asked chart plan wiring old pictures name level counter cycle kind at rise own is small =
    asks chart plan wiring rise old pictures name level counter own cycle kind at is small

pub carriage-told : CarriageDoesWhatIsAsked
carriage-told chart plan wiring cycle old new panel between whole = (
  carriage-after chart plan wiring cycle old new panel between whole,
  carriage-after-other chart plan wiring cycle old new panel between whole,
)
