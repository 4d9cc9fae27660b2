-- A helper of the code: the rules in the order in which they are asked.
use Rattle.std.specs.Prelude.{◌≡◌, ℕ, ◌<◌, ◌≤◌, List, [], ◌∷◌, Some, slice_get}
use Rattle.chart_lines.specs.ChartsWords.Chart.{Chart}
use Rattle.chart_rules.specs.declared.rule.Rule.{Rule}
use Rattle.chart_rules.specs.declared.rule.Rule.TheVariants as rule
use Rattle.chart_rules.specs.Rules.{Broken, IsKept}

-- the rules, from the lowest number on
unfoldable pub in_order : List Rule
in_order =
    rule.NameTwice ∷ rule.Columns ∷ rule.AmountSize ∷ rule.UnknownName ∷ rule.WrongKind ∷ rule.LineTwice ∷ rule.NoControl
    ∷ rule.TotalTextNotControl ∷ rule.DigitsRange ∷ rule.DigitsShrink ∷ rule.MarkMismatch ∷ rule.WheelRange ∷ rule.WheelOverlap
    ∷ rule.WheelClash ∷ rule.PrintKind ∷ rule.Form ∷ rule.Tape ∷ rule.CoupledMark ∷ []

-- no line breaks the first rules of a list
abbrev pub AreKept : List Rule → ℕ → Chart → Type 0
AreKept rules count chart = (place : ℕ) (kept : Rule) → place < count → slice_get rules place ≡ Some kept → IsKept kept chart

-- a rule is the first of a list that a chart breaks, and a line is the lowest that breaks it
pub record IsFirstAmong (rules : List Rule) (chart : Chart) (first : Rule) (line : ℕ) : Type 0 where
  pub place : ℕ
  pub is_there : slice_get rules place ≡ Some first
  pub kept : AreKept rules place chart
  pub broken : Broken first chart line
  pub lowest_line : (other : ℕ) → Broken first chart other → line ≤ other
