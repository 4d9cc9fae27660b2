-- For each line of a chart with its plan words for it, and what it asks for.
use Rattle.std.specs.Prelude.{◌≡◌, ℕ, ◌+◌, List, [], ◌∷◌, ◌++◌, Some, String, decimal, if◌then◌else◌, map, nat_lt, slice_get}
use Rattle.std.specs.String.{string_bytes}
use Rattle.std.specs.declared.alloc.Global.{Global}
use Rattle.card_code.specs.Deck.{line_at}
use Rattle.chart_lines.specs.declared.charts.chart.Line.{Line}
use Rattle.chart_plans.specs.PlansWords.Plans.{Lists}
use Rattle.hubs.specs.SetupsWords.Wiring.{Wiring}
use Rattle.wire_gen.specs.OfLine.{IsSetupOfLine}
use Rattle.wiring_legend.specs.declared.wording.TheConstants as wording

-- a byte as a character, a question mark for one that is none
abbrev pub plain : ℕ → ℕ
plain byte = if nat_lt byte 128 then byte else 63

-- the place of the line with a number
abbrev pub place_words : ℕ → List ℕ
place_words number = wording.BEFORE_THE_NUMBER.now ++ decimal number ++ wording.BEHIND_THE_NUMBER.now

-- the words for the line of a chart with a number
abbrev pub line_words : List ℕ → ℕ → List ℕ
line_words source number = map plain (line_at source number) ++ place_words number

-- A line of a chart has these words, and asks for what is in this setup.
pub record IsLineSetup (lines : List Line) (plan : Lists) (source : List ℕ) (line : Line) (said : String Global × Wiring) : Type 0 where
  pub words : string_bytes said.0 ≡ line_words source line.number
  pub asks : IsSetupOfLine lines plan line said.1

-- for the lines before a place of the chart, in their order, words and what each asks for
pub data AreLineSetups (lines : List Line) (plan : Lists) (source : List ℕ) : (place : ℕ) → List (String Global × Wiring) → Type 0 where
  none : AreLineSetups lines plan source 0 []
  next : (place : ℕ) (line : Line) (before : List (String Global × Wiring)) (said : String Global × Wiring)
      → AreLineSetups lines plan source place before → slice_get lines place ≡ Some line
      → IsLineSetup lines plan source line said → AreLineSetups lines plan source (place + 1) (before ++ said ∷ [])
