use Rattle.std.proofs.Common.{◌+◌, ◌≤◌, length}
use Rattle.std.specs.String.{string_bytes}
use Rattle.card_code.specs.Lines.{lines_of}
use Rattle.match_panels.specs.DifferencesWords.PanelProgress.Helper.{GoesOn}
use Rattle.match_panels.proofs.differences.panel_progress.surplus.extra_lines.Given as goal

abbrev pub invariant-loop-line : goal.invariant-loop-line
invariant-loop-line l = record {
  told : GoesOn l.version l.extra l.number (lines_of l.rest) (lines_of l.wiring) (string_bytes l.text);
  number : l.number + length l.rest ≤ length l.wiring;
}

abbrev pub decreases-loop-line : goal.decreases-loop-line
decreases-loop-line l = length l.rest
