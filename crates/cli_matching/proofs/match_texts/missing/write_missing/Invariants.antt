use Rattle.std.specs.String.{string_bytes}
use Rattle.cli_matching.specs.MatchTexts.Helper.{GainsBefore}
use Rattle.cli_matching.proofs.match_texts.missing.write_missing.Given as goal

abbrev pub invariant-loop-line : goal.invariant-loop-line
invariant-loop-line l =
    GainsBefore l.version l.chart.lines l.plan l.setup l.line-index (string_bytes l.initial.text) (string_bytes l.text)
