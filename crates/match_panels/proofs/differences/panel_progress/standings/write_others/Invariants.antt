use Rattle.std.proofs.Common.{drop, ◌++◌, ◌≡◌}
use Rattle.std.specs.List.{flat_map}
use Rattle.std.specs.String.{string_bytes}
use Rattle.match_panels.specs.DifferencesWords.PanelProgress.Standings.{behind_comma}
use Rattle.match_panels.proofs.differences.panel_progress.standings.write_others.Given as goal

abbrev pub invariant-loop-number : goal.invariant-loop-number
invariant-loop-number l =
    string_bytes l.text ++ flat_map behind_comma (drop l.number-index l.numbers)
    ≡ string_bytes l.initial.text ++ flat_map behind_comma l.numbers
