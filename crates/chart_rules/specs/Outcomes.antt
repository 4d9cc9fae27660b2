-- Laws of what is told of charts and of cards.
use Rattle.std.specs.Prelude.{◌≡◌, ℕ, List}
use Rattle.chart_lines.specs.ChartsWords.Chart.{Chart}
use Rattle.chart_lines.specs.declared.charts.statement.Field.{Field}
use Rattle.chart_rules.specs.RuleFaults.{IsTold}
use Rattle.chart_rules.specs.ValidCard.{IsFirstInvalid}
use Rattle.chart_rules.specs.declared.card.CardFault.{CardFault}
use Rattle.chart_rules.specs.declared.fault.RuleFault.{RuleFault}

-- at most one fault is told of a chart
abbrev pub ChartsHaveOneFault : Type 0
ChartsHaveOneFault = (chart : Chart) (one other : RuleFault) → IsTold chart one → IsTold chart other → one ≡ other

-- at most one fault is told of the fields of a card
abbrev pub CardsHaveOneFault : Type 0
CardsHaveOneFault =
    (fields : List Field) (card : List ℕ) (one other : CardFault) → IsFirstInvalid fields card one
    → IsFirstInvalid fields card other → one ≡ other
