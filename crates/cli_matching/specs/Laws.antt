-- What is told of a panel that doesn't match a chart, and the guide to faults.
use Rattle.fault_lines.specs.FaultGuide.Lines.{NamesAFault}
use Rattle.cli_matching.specs.Unmatched.{unmatched_line}
use Rattle.cli_matching.specs.declared.unmatched.Unmatched.TheVariants as why
use Rattle.cli_matching.specs.declared.match_decks.lines.LinePlace.{LinePlace}
use Rattle.cli_matching.specs.declared.match_texts.counts.Counts.{Counts}

-- the line names a fault that has an entry, whether it tells how much is missing and extra or where a deck prints otherwise
pub record UnmatchedPanelsHaveEntries : Type 0 where
  pub of_unwired : (counts : Counts) → NamesAFault (unmatched_line (why.Unwired counts))
  pub of_others : (place : LinePlace) → NamesAFault (unmatched_line (why.PrintsOtherwise place))
