-- A run is cut by feeds: both place the same lines.
use Rattle.std.proofs.Common.{ℕ, List, subst}
use Rattle.page_text.specs.declared.placed_lines.placed_line.PlacedLine.{PlacedLine}
use Rattle.hubs.specs.SetupsWords.Wiring.{Wiring}
use Rattle.machine.specs.Feeds.{LinesFrom}
use Rattle.machine.specs.Laws.{FeedsCutRuns}
use Rattle.machine.specs.Machine.{machine_at_start}
use Rattle.machine.specs.Runs.{MachineLines}
use Rattle.machine.proofs.FeedsInRuns.{feeds-in-run}
use Rattle.machine.proofs.OneOutcome.{MachineLines-one}
use Rattle.machine.proofs.SomeOutcome.{LinesFrom-some}

-- feeds place some lines, these are those of a run, and a run has no others
pub run-in-feeds : (wiring : Wiring) (cards : List (List ℕ)) (lines : List PlacedLine)
    → MachineLines wiring cards lines → LinesFrom wiring (machine_at_start wiring) cards lines
run-in-feeds wiring cards lines run =
    let fed = LinesFrom-some wiring (machine_at_start wiring) cards in
    subst (λ (l : List PlacedLine). LinesFrom wiring (machine_at_start wiring) cards l)
    (MachineLines-one wiring cards fed.0 lines (feeds-in-run wiring cards fed.0 fed.1) run) fed.1

pub feeds-cut-runs : FeedsCutRuns
feeds-cut-runs wiring cards lines = (run-in-feeds wiring cards lines, feeds-in-run wiring cards lines)
