-- The page for a browser of a text and a deck, from the bytes of both; or why there is none.
use Rattle.std.specs.Prelude.{◌≡◌, ◌↔◌, ℕ, true, false, List, Option, None, Some}
use Rattle.card_code.specs.Deck.{Deck}
use Rattle.cli_commands.specs.CommandsWords.Answers.{CompilesAs}
use Rattle.compile407.specs.Compilation.{Compilation}
use Rattle.compile407.specs.Runnable.{IsRunnable}
use Rattle.fault_lines.specs.declared.faults.fault.Fault.{Fault}
use Rattle.readback_charts.specs.KnownCharts.{IsReadOff, KnownChart}
use Rattle.cli_commands.specs.PanelGuides.Explained.{RefusesTexts}
use Rattle.cli_commands.specs.PanelGuides.Panels.{IsRunOf, is_wiring_text}
use Rattle.cli_commands.specs.declared.panel_guides.unexplained.Unexplained.{Unexplained}
use Rattle.cli_commands.specs.declared.panel_guides.unexplained.Unexplained.TheVariants as why
use Rattle.hubs.specs.SetupsWords.Wiring.{Wiring}
use Rattle.show_page.specs.Page.{ShowsChart, ShowsPanel}
use Rattle.show_page.specs.ReadPanel.{ShowsRead}
use Rattle.wire_chart.specs.WrittenText.{JoinsGroups}
use Rattle.wiring_text.specs.WiringText.{ReadsAs}
use Rattle.wiring_text.specs.declared.statement.Version.{Version}
use Rattle.wiring_text.specs.declared.statement.Version.TheVariants.{Second}
use Rattle.cli_calls.specs.BrowserPages.Asked.{IsThere, LacksAsked}

-- the page of a compiled chart, its legend in the version in which `wire` prints the chart's setup: the second where it joins groups, else
-- the first
pub record ShowsCompiled (compiled : Compilation) (text : List ℕ) (cards : List (List ℕ)) (around : Option ℕ)
    (page : List ℕ) : Type 0 where
  pub version : Version
  pub second : (version ≡ Second) ↔ JoinsGroups compiled.setup
  pub shows : ShowsChart version compiled.chart.lines compiled.plan compiled.setup text cards around page

-- The page of a panel by a chart that is known of it; its legend is in the version of the wiring chart whose text this is.
pub record ShowsReadOff (wiring : Wiring) (chart : KnownChart) (text : List ℕ) (cards : List (List ℕ)) (around : Option ℕ)
    (page : List ℕ) : Type 0 where
  pub version : Version
  pub spelled : (reads : ReadsAs text wiring) → version ≡ reads.chart.reads.version
  pub shows : ShowsRead version chart.compiled.chart.lines chart.plan wiring chart.text text cards around page

-- the page of a panel by the chart that is known of it, or by its wires alone if none is
abbrev pub ShowsKnown : Wiring → Option KnownChart → (text : List ℕ) → List (List ℕ) → (around : Option ℕ) → (page : List ℕ) → Type 0
ShowsKnown wiring None text cards around page = ShowsPanel wiring text cards around page
ShowsKnown wiring (Some chart) text cards around page = ShowsReadOff wiring chart text cards around page

-- the page of a panel that is wired as a wiring chart says, and of cards: by the chart that is read off it, if the panel is wired for that one
pub record ShowsWired (wiring : Wiring) (text : List ℕ) (cards : List (List ℕ)) (around : Option ℕ) (page : List ℕ) : Type 0 where
  pub known : Option KnownChart
  pub read : IsReadOff wiring known
  pub shows : ShowsKnown wiring known text cards around page

-- A wiring chart is shown with the pages of the deck on its panel, whatever is on the cards; a planning chart, by its own plan and setup,
-- with its report of the deck, whose cards it can be run with. Either is shown around a page of the report, which is there, or around none.
pub data IsShown (text deck : List ℕ) (around : Option ℕ) (page : List ℕ) : Type 0 where
  wired : is_wiring_text text ≡ true → (wiring : Wiring) → ReadsAs text wiring → (cards : List (List ℕ)) → Deck deck cards
      → IsThere wiring cards around → ShowsWired wiring text cards around page → IsShown text deck around page
  planned : is_wiring_text text ≡ false → (compiled : Compilation) → CompilesAs text compiled → (cards : List (List ℕ))
      → Deck deck cards → IsRunnable compiled.chart cards → IsThere compiled.setup cards around
      → ShowsCompiled compiled text cards around page → IsShown text deck around page

-- Why there is no page: the fault of the text or of the deck; else their run ends before the page around which pages are to be shown.
pub data IsUnshown (text deck : List ℕ) (around : Option ℕ) (told : Unexplained) : Type 0 where
  texts : (fault : Fault) → RefusesTexts text deck fault → told ≡ why.Failed fault → IsUnshown text deck around told
  no_such_page : (wiring : Wiring) (cards : List (List ℕ)) → IsRunOf text deck cards wiring → LacksAsked wiring cards around told
      → IsUnshown text deck around told
