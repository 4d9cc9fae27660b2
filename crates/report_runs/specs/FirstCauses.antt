-- That a streamed run has stopped at the first cause: no group that ended before has a misfit.
use Rattle.std.specs.Prelude.{◌≡◌, ℕ, ⊤, List, [], ◌∷◌, ◌++◌, Option, Some, None, length, option_to_list}
use Rattle.card_code.specs.Deck.{Deck}
use Rattle.chart_lines.specs.ChartsWords.Chart.{Chart}
use Rattle.chart_lines.specs.declared.charts.chart.Line.{Line}
use Rattle.report_definition.specs.FollowedDecks.FitSoFar.{FitSoFar, misfits_of_last}
use Rattle.report_misfits.specs.ToldMisfits.{told}
use Rattle.report_misfits.specs.declared.misfit.Misfit.{Misfit as Found}
use Rattle.report_definition.specs.Misfits.{first_of}
use Rattle.report_runs.specs.declared.fault.StreamCause.{StreamCause}
use Rattle.report_runs.specs.declared.fault.StreamCause.TheVariants as cause

-- No group that ended before the last of some cards has a misfit, whatever cards come later.
abbrev pub HaveFitSoFar : List Line → List (List ℕ) → Type 0
HaveFitSoFar lines [] = ⊤
HaveFitSoFar lines (card ∷ cards) = FitSoFar lines card cards

-- The misfit is the first of the groups that end with a card, given the next card that was read, or the end of the deck; no group that
-- ended before has one.
pub record IsFirstMisfit (chart : Chart) (text : List ℕ) (cards : List (List ℕ)) (misfit : Found) : Type 0 where
  pub card : List ℕ
  pub others : List (List ℕ)
  pub next : Option (List ℕ)
  pub are : cards ≡ (card ∷ others) ++ option_to_list next
  pub ended : next ≡ None → Deck text (card ∷ others)
  pub fit : FitSoFar chart.lines card others
  pub number : misfit.card ≡ length (card ∷ others)
  pub is_first : first_of (misfits_of_last chart.lines card others next) ≡ Some (told misfit)

-- No cause that is met earlier is one of the cards that were read: no group that ended before has a misfit.
abbrev pub IsFirstCause : Chart → (text : List ℕ) → (cards : List (List ℕ)) → StreamCause → Type 0
IsFirstCause chart text cards (cause.Misfit misfit) = IsFirstMisfit chart text cards misfit
IsFirstCause chart text cards other = HaveFitSoFar chart.lines cards
