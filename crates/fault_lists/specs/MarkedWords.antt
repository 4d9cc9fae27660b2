-- What it means that a word is marked in a line that no form derives: no form begins with the words up to that one.
use Rattle.std.specs.Prelude.{◌≡◌, ◌≢◌, ℕ, ◌+◌, List, [], ◌++◌, Some, take}
use Rattle.chart_text.specs.ChartText.{SaysIn}
use Rattle.chart_text.specs.declared.forms.Said.{Said}
use Rattle.chart_lines.specs.declared.charts.chart.Version.{Version}
use Rattle.fault_slips.specs.LineMarks.Spans.{word}
use Rattle.chart_lines.specs.TokensWords.Tokens.{HasTokens}
use Rattle.fault_slips.specs.WordSlips.Halts.{halt_of}
use Rattle.fault_slips.specs.declared.word_slips.halt.Halt.{Halt}

-- no words of a form begin with these, in no version of the language
abbrev pub BeginNoForm : List (List ℕ) → Type 0
BeginNoForm words = (version : Version) (others : List (List ℕ)) (said : Said) → ¬ SaysIn version (words ++ others) said

-- where a line leaves the forms at a word, no form begins with its words up to that one
abbrev pub MarkedWordsStandInNoForm : Type 0
MarkedWordsStandInNoForm =
    (line : List ℕ) (tokens : List (List ℕ)) (halt : Halt) → HasTokens line tokens → halt_of line ≡ Some halt → word halt.place line ≢ []
    → BeginNoForm (take (halt.place + 1) tokens)
