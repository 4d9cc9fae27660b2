-- The ledger of the figure on a wheel of a line that the run of a text and a deck prints, from the bytes of both.
use Rattle.std.specs.Prelude.{ℕ, ◌-◌, ◌^◌, Bool, List, Option, if◌then◌else◌}
use Rattle.readback_charts.specs.KnownCharts.{KnownChart}
use Rattle.cli_commands.specs.PanelGuides.Known.{IsKnownRun, totals_known}
use Rattle.cli_commands.specs.declared.panel_guides.place.Place.{Place}
use Rattle.hubs.specs.SetupsWords.Wiring.{Wiring}
use Rattle.explain_wheel_ledgers.specs.ToldLedgers.{TellsLedger}
use Rattle.explain_wheel_ledgers.specs.declared.chart_totals.TitledAccount.{TitledAccount}

-- on a panel, over cards, by the totals of a chart: the text tells the ledger of the figure on the wheel of the line at this place
abbrev pub TellsPlace : Wiring → List (List ℕ) → List TitledAccount → (ends : ℕ) → Place → List ℕ → Type 0
TellsPlace wiring cards totals ends place = TellsLedger wiring cards totals ends place.page place.line place.wheel

-- the text tells the ledger of the figure on the wheel at this place of the run of a text and a deck, with so many entries at both ends of a
-- long one
pub record IsLedgerText (text deck : List ℕ) (ends : ℕ) (place : Place) (answer : List ℕ) : Type 0 where
  pub wiring : Wiring
  pub cards : List (List ℕ)
  pub known : Option KnownChart
  pub run : IsKnownRun text deck wiring cards known
  pub tells : TellsPlace wiring cards (totals_known known) ends place answer

-- how many entries at both ends of a long ledger are told: 20, or all that are there
abbrev pub ends_told : Bool → ℕ
ends_told all = if all then 2 ^ 64 - 1 else 20
