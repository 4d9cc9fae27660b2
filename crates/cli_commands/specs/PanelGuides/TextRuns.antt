-- The run of a text and a deck, as it is kept.
use Rattle.std.specs.Prelude.{ℕ, ◌≤◌, List, Option, Some, length}
use Rattle.card_code.specs.MostCards.{most_cards}
use Rattle.readback_charts.specs.KnownCharts.{KnownChart, known_in}
use Rattle.cli_commands.specs.PanelGuides.Known.{IsKnownRun, IsServed}
use Rattle.cli_commands.specs.declared.panel_guides.text_runs.TextRun.{TextRun}
use Rattle.cli_commands.specs.declared.panel_guides.text_runs.TextRun.TheVariants.{Planned, Wired}
use Rattle.hubs.specs.SetupsWords.Wiring.{Wiring}

-- its panel
abbrev pub setup_of : TextRun → Wiring
setup_of (Wired run read) = run.setup
setup_of (Planned run) = run.compiled.setup

-- its cards
abbrev pub cards_of : TextRun → List (List ℕ)
cards_of (Wired run read) = run.cards.items
cards_of (Planned run) = run.cards.items

-- the chart that is known of its panel: the one that was read off it, if one was; or the planning chart, whose text this is
abbrev pub known_of : (text : List ℕ) → TextRun → Option KnownChart
known_of text (Wired run read) = known_in read
known_of text (Planned run) = Some (record { text = text; compiled = run.compiled; plan = run.compiled.plan })

-- it is the run of this text and this deck
pub record IsTextRun (text deck : List ℕ) (run : TextRun) : Type 0 where
  pub is : IsKnownRun text deck (setup_of run) (cards_of run) (known_of text run)
  pub few : length (cards_of run) ≤ most_cards
  pub served : IsServed (known_of text run)
