use Rattle.std.proofs.Common.{drop, ◌++◌, ◌≡◌}
use Rattle.std.specs.List.{flat_map}
use Rattle.std.specs.String.{string_bytes}
use Rattle.match_panels.specs.DifferencesWords.PanelProgress.Standings.{count_line, counts_text}
use Rattle.match_panels.proofs.differences.panel_progress.standings.write_counts.Given as goal

abbrev pub invariant-loop-count : goal.invariant-loop-count
invariant-loop-count l =
    string_bytes l.text ++ flat_map count_line (drop l.count-index l.counts) ≡ string_bytes l.initial.text ++ counts_text l.counts
