-- Helper words of the code: the amounts that are totalled, each once, and the places of the totals' amounts among them.
use Rattle.std.specs.Prelude.{◌≡◌, ◌⊎◌, ℕ, pos, List, [], ◌∷◌, ◌++◌, Some, map, slice_get}
use Rattle.chart_lines.specs.declared.charts.chart.Line.{Line}
use Rattle.chart_lines.specs.declared.charts.statement.Field.{Field}
use Rattle.chart_line_rules.specs.FieldRules.Fields.{field_named}
use Rattle.report_misfits.specs.HelperAmounts.{IsGoodAmount}
use Rattle.report_misfits.specs.declared.open_total.Amount.{Amount}
use Rattle.report_misfits.specs.declared.open_total.OpenTotal.{OpenTotal}

-- the fields of amounts
abbrev pub fields_of_amounts : List Amount → List Field
fields_of_amounts amounts = map (λ amount. amount.field) amounts

-- the amounts at some places are those of some totals, in order
abbrev pub AreNumbered : List OpenTotal → List ℕ → List Amount → Type 0
AreNumbered totals places amounts =
    map (λ place. slice_get (fields_of_amounts amounts) place) places ≡ map (λ total. Some total.field) totals

-- an amount before the first card
abbrev pub new_amount : Field → Amount
new_amount field = record { field = field; pending = pos 0 }

-- amounts as they were, or with an amount put after them
abbrev pub AreWith : Field → (old new : List Amount) → Type 0
AreWith field old new = (new ≡ old) ⊎ (new ≡ old ++ new_amount field ∷ [])

-- An amount is good, it is what its name stands for, and nothing of it is pending.
pub record IsNamedAmount (lines : List Line) (amount : Amount) : Type 0 where
  pub good : IsGoodAmount amount.field
  pub named : field_named lines amount.field.name ≡ Some amount.field
  pub none : amount.pending ≡ pos 0
