-- The list of the rules has each rule at the place that its number gives.
use Rattle.std.proofs.Common.{◌≡◌, ℕ, zero, suc, ◌+◌, ◌-◌, List, [], ◌∷◌, length, Option, Some, None, slice_get, IfNone, IfSome, refl, ap, arith}
use Rattle.std.proofs.lemmas.Option.{slice_get_within}
use Rattle.chart_lines.specs.ChartsWords.Chart.{Chart}
use Rattle.chart_rules.specs.declared.rule.Rule.{Rule}
use Rattle.chart_rules.specs.declared.rule.Rule.TheVariants as rule
use Rattle.chart_rules.specs.Rules.{rule_number, IsLawful, IsFirstBroken}
use Rattle.chart_rules.specs.HelperOrder.{in_order, AreKept, IsFirstAmong}

-- each rule stands in the list at its number, counted from 21
pub in_order-at : (each : Rule) → slice_get in_order (rule_number each - 21) ≡ Some each
unfolding in_order
in_order-at rule.NameTwice = refl
in_order-at other = refl

-- the rules of a list have numbers in a row
abbrev pub AreNumbered : ℕ → List Rule → Type 0
AreNumbered number [] = Unit {0}
AreNumbered number (each ∷ others) = (rule_number each ≡ number) × AreNumbered (number + 1) others

-- so the number of a rule tells its place
pub rule_number-at : (number : ℕ) (rules : List Rule) (place : ℕ) (each : Rule) → AreNumbered number rules → slice_get rules place ≡ Some each → rule_number each ≡ number + place
rule_number-at number [] place each numbered at = cc
rule_number-at number (first ∷ others) zero each numbered at = let e : first ≡ each = cc in let n = ap rule_number e in omega (arith, numbered.0)
rule_number-at number (first ∷ others) (suc place) each numbered at = omega (arith, rule_number-at (number + 1) others place each numbered.1 at)

-- the rules in order are numbered from 21
pub AreNumbered-in_order : AreNumbered 21 in_order
unfolding in_order
AreNumbered-in_order = (refl, (refl, (refl, (refl, (refl, (refl, (refl, (refl, (refl, (refl, (refl, (refl, (refl, (refl, (refl, (refl, (refl, (refl, tt))))))))))))))))))

-- a chart that keeps each rule of the list is lawful
pub IsLawful-kept : (chart : Chart) → AreKept in_order (length in_order) chart → IsLawful chart
unfolding IsLawful
IsLawful-kept chart kept each =
    kept (rule_number each - 21) each (slice_get_within in_order (rule_number each - 21) each (in_order-at each)) (in_order-at each)

-- the first of the list that a chart breaks is the lowest that it breaks
pub IsFirstBroken-among : (chart : Chart) (first : Rule) (line : ℕ) → IsFirstAmong in_order chart first line → IsFirstBroken chart first line
IsFirstBroken-among chart first line found = record {
  broken = found.broken;
  lowest_rule = λ lower below.
      let here = rule_number-at 21 in_order found.place first AreNumbered-in_order found.is_there in
      let there = rule_number-at 21 in_order (rule_number lower - 21) lower AreNumbered-in_order (in_order-at lower) in
      found.kept (rule_number lower - 21) lower (omega arith) (in_order-at lower);
  lowest_line = found.lowest_line;
}

-- what the search among the rules in order tells
pub IfNone-lawful : {X : Type 0} (chart : Chart) (found : Option X) → IfNone found (AreKept in_order (length in_order) chart) → IfNone found (IsLawful chart)
IfNone-lawful chart None kept = IsLawful-kept chart kept
IfNone-lawful chart (Some other) kept = tt

pub IfSome-first : (chart : Chart) (found : Option (Rule × ℕ)) → IfSome found (λ pair. IsFirstAmong in_order chart pair.0 pair.1)
    → IfSome found (λ pair. IsFirstBroken chart pair.0 pair.1)
IfSome-first chart None first = tt
IfSome-first chart (Some pair) first = IsFirstBroken-among chart pair.0 pair.1 first
