-- One fault at most is told of a chart, and one of a card.
use Rattle.std.proofs.Common.{◌≡◌, ◌∙◌, sym, ap, subst, ℕ, ◌-◌, ◌≤◌, ◌<◌, ◌⊎◌, inl, inr, List, Some, slice_get, arith}
use Rattle.std.proofs.lemmas.Bool.{cases_lt}
use Rattle.chart_lines.specs.ChartsWords.Chart.{Chart}
use Rattle.chart_lines.specs.declared.charts.statement.Field.{Field}
use Rattle.chart_rules.specs.declared.card.CardFault.{CardFault}
use Rattle.chart_rules.specs.declared.fault.RuleFault.TheVariants as fault
use Rattle.chart_rules.specs.declared.rule.Rule.{Rule}
use Rattle.chart_rules.specs.HelperOrder.{in_order}
use Rattle.chart_rules.specs.Outcomes.{ChartsHaveOneFault, CardsHaveOneFault}
use Rattle.chart_rules.specs.Rules.{rule_number, Broken, IsKept, IsFirstBroken}
use Rattle.chart_rules.specs.ValidCard.{IsFirstInvalid, fault_of}
use Rattle.chart_rules.proofs.InOrder.{in_order-at}

-- a rule is told by its number
same_rule : (one other : Rule) → rule_number one ≡ rule_number other → one ≡ other
same_rule one other same =
    let e : Some one ≡ Some other =
    sym (in_order-at one) ∙ ap (λ number. slice_get in_order (number - 21)) same ∙ in_order-at other
    in cc

-- no rule that a chart breaks is below the first
first-lowest : (chart : Chart) (first other : Rule) (line its_line : ℕ) → IsFirstBroken chart first line
    → Broken other chart its_line → rule_number first ≤ rule_number other
unfolding IsKept
first-lowest chart first other line its_line is broken = by (cases_lt (rule_number other) (rule_number first))
  where
    by : ((rule_number other < rule_number first) ⊎ (rule_number first ≤ rule_number other)) → rule_number first ≤ rule_number other
    by (inl below) = absurd (is.lowest_rule other below its_line broken)
    by (inr above) = above

-- the lowest rules of a chart are one
same_first : (chart : Chart) (one other : Rule) (line its_line : ℕ) → IsFirstBroken chart one line
    → IsFirstBroken chart other its_line → one ≡ other
same_first chart one other line its_line is also =
    let below = first-lowest chart one other line its_line is also.broken in
    let above = first-lowest chart other one its_line line also is.broken in
    same_rule one other (omega (arith, below, above))

-- and so are the lowest lines that break it
same_line : (chart : Chart) (one other : Rule) (line its_line : ℕ) → IsFirstBroken chart one line
    → IsFirstBroken chart other its_line → one ≡ other → line ≡ its_line
same_line chart one other line its_line is also same =
    let below = is.lowest_line its_line (subst (λ rule. Broken rule chart its_line) (sym same) also.broken) in
    let above = also.lowest_line line (subst (λ rule. Broken rule chart line) same is.broken) in
    omega (arith, below, above)

pub charts_have_one_fault : ChartsHaveOneFault
charts_have_one_fault chart (fault.Rule one line) (fault.Rule other its_line) is also =
    let rules = same_first chart one other line its_line is also in
    let lines = same_line chart one other line its_line is also rules in
    cc
charts_have_one_fault chart (fault.Rule one line) fault.Memory is also = absurd also
charts_have_one_fault chart fault.Memory other is also = absurd is

-- no field that is not valid on a card stands before the first
place-lowest : (fields : List Field) (card : List ℕ) (one other : CardFault) (is : IsFirstInvalid fields card one)
    (also : IsFirstInvalid fields card other) → is.place ≤ also.place
place-lowest fields card one other is also = by (cases_lt also.place is.place)
  where
    by : ((also.place < is.place) ⊎ (is.place ≤ also.place)) → is.place ≤ also.place
    by (inl before) = absurd (also.invalid (is.valid_before also.place before also.field also.is_there))
    by (inr after) = after

pub cards_have_one_fault : CardsHaveOneFault
cards_have_one_fault fields card one other is also =
    let below = place-lowest fields card one other is also in
    let above = place-lowest fields card other one also is in
    let places : is.place ≡ also.place = omega (arith, below, above) in
    let found : Some is.field ≡ Some also.field = sym is.is_there ∙ ap (slice_get fields) places ∙ also.is_there in
    let field : is.field ≡ also.field = cc in
    is.tells ∙ ap (λ each. fault_of each.kind each.first) field ∙ sym also.tells
