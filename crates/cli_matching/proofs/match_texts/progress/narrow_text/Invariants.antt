use Rattle.std.specs.String.{string_bytes}
use Rattle.cli_matching.specs.MatchTexts.Progress.{AreNarrow}
use Rattle.cli_matching.proofs.match_texts.progress.narrow_text.Given as goal

abbrev pub invariant-loop-line : goal.invariant-loop-line
invariant-loop-line l = AreNarrow l.chart.lines l.setup l.line-index (string_bytes l.text)
