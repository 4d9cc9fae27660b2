-- The explanation of a wheel with all that it is printed of, from the bytes of a text and a deck.
use Rattle.std.specs.Prelude.{◌≡◌, ℕ, Bool, List, ◌++◌, if◌then◌else◌}
use Rattle.explain_wheels.specs.declared.explanations.explanation.Explanation.{Explanation}
use Rattle.cli_commands.specs.PanelGuides.Explained.{IsExplained}
use Rattle.cli_commands.specs.PanelGuides.Known.{totals_known}
use Rattle.cli_commands.specs.declared.panel_guides.place.Place.{Place}
use Rattle.hubs.specs.SetupsWords.Wiring.{Wiring}
use Rattle.explain_wheel_ledgers.specs.Scopes.{TellsScope}
use Rattle.explain_wheel_ledgers.specs.declared.chart_totals.TitledAccount.{TitledAccount}
use Rattle.explain_wheel_ledgers.specs.declared.scope.Scope.{Scope}
use Rattle.explain_wheel_ledgers.specs.declared.scope.Scope.TheVariants.{Basis, Whole}

-- what is told below an explanation: all that the wheel is printed of, with the entries of ledgers, or down to the holes
abbrev pub scope_told : Bool → Scope
scope_told whole = if whole then Whole else Basis

-- on a panel, over cards, by the totals of a chart: the text tells what the wheel of the line at this place is printed of by its explanation,
-- with 20 entries at both ends of a long ledger
abbrev pub TellsBelow : Wiring → List (List ℕ) → List TitledAccount → Scope → Place → Explanation → List ℕ → Type 0
TellsBelow wiring cards totals scope place told = TellsScope scope wiring cards totals 20 place.page place.line told

-- the explanation, and below it what the wheel is printed of by this explanation and the chart by which it is told
pub record IsExplainedWithBasis (text deck : List ℕ) (whole : Bool) (place : Place) (answer : List ℕ) : Type 0 where
  pub explanation : List ℕ
  pub explained : IsExplained text deck place explanation
  pub basis : List ℕ
  pub below : TellsBelow explained.wiring explained.cards (totals_known explained.known) (scope_told whole) place explained.told basis
  pub written : answer ≡ explanation ++ basis
