-- Why the command doesn't end well on a planning chart and a wiring chart.
use Rattle.std.specs.Prelude.{◌≡◌, ℕ, List, Option}
use Rattle.fault_lines.specs.declared.faults.fault.Fault.{Fault}
use Rattle.fault_lines.specs.declared.faults.fault.Fault.TheVariants as fault
use Rattle.cli_matching.specs.Found.{IsUnwiredText, Prints}
use Rattle.cli_matching.specs.Panels.{RefusesPanels}
use Rattle.cli_matching.specs.Unmatched.{unmatched_status}
use Rattle.cli_matching.specs.declared.unmatched.Unmatched.{Unmatched}
use Rattle.cli_matching.specs.declared.unmatched.Unmatched.TheVariants as why
use Rattle.cli_matching.specs.declared.match_texts.counts.Counts.{Counts}
use Rattle.cli_matching.specs.declared.match_texts.telling.Telling.{Telling}

-- What is told of texts that don't match: the panel is not wired for the chart, and what is missing and extra was printed, or a hint; or a
-- text is refused, and nothing was printed.
pub data LeavesUnmatched (telling : Telling) (chart wiring : List ℕ) (told : Unmatched) (old new : Option (List ℕ)) (Unprinted : Type 0)
    : Type 0 where
  unwired : (counts : Counts) → told ≡ why.Unwired counts → Prints chart wiring (IsUnwiredText telling wiring counts) old new
      → LeavesUnmatched telling chart wiring told old new Unprinted
  refused : (fault : Fault) → told ≡ why.Failed fault → RefusesPanels chart wiring fault → Unprinted
      → LeavesUnmatched telling chart wiring told old new Unprinted

-- Why the command does not end well: that; or the output can't be written, or memory ran out.
pub data StopsMatch (telling : Telling) (chart wiring : List ℕ) (told : Unmatched) (old new : Option (List ℕ)) (Unprinted : Type 0)
    : Type 0 where
  unmatched : unmatched_status told ≡ 3 → LeavesUnmatched telling chart wiring told old new Unprinted
      → StopsMatch telling chart wiring told old new Unprinted
  unwritten : told ≡ why.Failed fault.Write → StopsMatch telling chart wiring told old new Unprinted
  memory_wanting : told ≡ why.Failed fault.Memory → StopsMatch telling chart wiring told old new Unprinted
