-- A counter group serves one total, one group has the balance of a total, and each signed amount with a total has a pilot.
use Rattle.std.proofs.Common.{◌≡◌, ◌∙◌, refl, sym, ap, ℕ, ◌≤◌, true, List, Some, None, is_some, position, arith}
use Rattle.wiring_table.specs.Below.chart_plans.WantedWords.Pilots.{shows}
use Rattle.wiring_table.specs.Below.chart_plans.PlansWords.Plans.{Lists, ServesChart}
use Rattle.wiring_table.proofs.Below.chart_line_rules.FieldRules.Places.{is_same_name-equal}
use Rattle.wiring_table.specs.Below.chart_rules.Rules.{IsLawful}
use Rattle.wiring_table.specs.Below.chart_lines.ChartsWords.Chart.{Chart, NumbersRise}
use Rattle.wiring_table.specs.Below.chart_lines.ChartsWords.Field.{sign_column}
use Rattle.wiring_table.specs.Below.chart_lines.ChartsWords.Levels.{level_number}
use Rattle.wiring_table.specs.Below.chart_lines.declared.charts.chart.Line.{Line}
use Rattle.wiring_table.specs.Below.chart_lines.declared.charts.level.Level.{Level}
use Rattle.wiring_table.specs.Below.chart_lines.declared.charts.level.Level.TheVariants as level
use Rattle.wiring_table.specs.Below.chart_lines.declared.charts.statement.FieldKind.{FieldKind}
use Rattle.wiring_table.specs.Below.chart_lines.declared.charts.statement.FieldKind.TheVariants as holds
use Rattle.wiring_table.specs.Below.chart_lines.declared.charts.statement.SignRule.{SignRule}
use Rattle.wiring_table.specs.Below.chart_lines.declared.charts.statement.Statement.TheVariants as says
use Rattle.proof_cycles.specs.Below.hubs.declared.hub.Group.{Group}
use Rattle.wiring_table.specs.Figures.{IsSigned, rule_of}
use Rattle.wiring_table.specs.Parts.{HasTotal, pilot_for, top_for}
use Rattle.proof_reports.specs.WiredPanels.Groups.{IsGroupOf, IsPlaceFor, IsTopOf}
use Rattle.wiring_table.proofs.Below.chart_lines.ChartsWords.Rising.{one-line}
use Rattle.wiring_table.proofs.Groups.{position-serves, serves-own, top-serves}
use Rattle.wiring_table.proofs.Parts.{pilot-given}
use Rattle.wiring_table.proofs.Totals.{one-total}

-- levels are 1 to 4
pub level_some : (its : Level) → 1 ≤ level_number its
level_some level.Minor = omega arith
level_some level.Intermediate = omega arith
level_some level.Major = omega arith
level_some level.Final = omega arith

-- each amount with a sign rule and a total has a pilot
pub has_pilot : (lines : List Line) (plan : Lists) (name : List ℕ) (its_level number : ℕ) (rule : SignRule) → ServesChart lines plan
    → HasTotal lines name its_level number → IsSigned lines name rule → (pilot : ℕ) × (pilot_for plan name ≡ Some pilot)
has_pilot lines plan name its_level number rule planned total signed =
    let given = pilot-given lines plan planned total.line name signed.field total.listed
    (ap (shows name) total.says_total ∙ total.same_name) signed.named (sign_there signed.field.kind rule signed.ruled) in
    (given.n, given.is)
  where
    sign_there : (kind : FieldKind) (given : SignRule) → rule_of kind ≡ Some given → is_some (sign_column kind) ≡ true
    sign_there holds.Text given is = cc
    sign_there (holds.Amount decimals None) given is = cc
    sign_there (holds.Amount decimals (Some its)) given is = refl

-- the owner of a counter group is one total
pub record IsSameTotal (one other : List ℕ) (one_level other_level : ℕ) : Type 0 where
  pub name : one ≡ other
  pub level : one_level ≡ other_level

pub one_owner : (chart : Chart) (plan : Lists) (one other : List ℕ) (level other_level : ℕ) (group : Group)
    → NumbersRise chart.lines chart.end → ServesChart chart.lines plan → IsGroupOf chart.lines plan one level group
    → IsGroupOf chart.lines plan other other_level group → IsSameTotal one other level other_level
one_owner chart plan one other its_level other_level group rise planned a b =
    let number = serves-own chart.lines plan planned a.number b.number group a.served b.served in
    let numbers : a.total.line.number ≡ b.total.line.number = a.total.is_number ∙ number ∙ sym b.total.is_number in
    let line = one-line chart.lines chart.end a.total.line b.total.line rise a.total.listed b.total.listed numbers in
    let says_same : says.TotalAmount a.total.asked ≡ says.TotalAmount b.total.asked = sym a.total.says_total ∙ ap (λ (l : Line). l.statement) line ∙ b.total.says_total in
    let names : a.total.asked.name ≡ b.total.asked.name = cc in
    let levels : a.total.asked.level ≡ b.total.asked.level = cc in
    record {
      name =
          sym (is_same_name-equal a.total.asked.name one a.total.same_name) ∙ names
          ∙ is_same_name-equal b.total.asked.name other b.total.same_name;
      level = sym a.total.same_level ∙ ap level_number levels ∙ b.total.same_level;
    }

-- the group with the balance of a total is one of its groups
pub of_top : (lines : List Line) (plan : Lists) (name : List ℕ) (level : ℕ) (top : Group) → IsTopOf lines plan name level top
    → IsGroupOf lines plan name level top
of_top lines plan name its_level top is =
    record { number = is.number; total = is.total; served = top-serves lines plan is.number top is.served }

-- a group with a position of a total is one of its groups
pub of_place : (lines : List Line) (plan : Lists) {name : List ℕ} {level position : ℕ} {group : Group} {place : ℕ}
    → IsPlaceFor lines plan name level position group place → IsGroupOf lines plan name level group
of_place lines plan {position = position} {group = group} {place = place} is =
    record { number = is.number; total = is.total; served = position-serves lines plan is.number position group place is.served }

-- a total has one group with its balance
pub one_top : (chart : Chart) (plan : Lists) (name : List ℕ) (level : ℕ) (top other : Group) → IsLawful chart
    → IsTopOf chart.lines plan name level top → IsTopOf chart.lines plan name level other → top ≡ other
one_top chart plan name its_level top other lawful a b =
    let number = one-total chart name lawful its_level a.number b.number a.total b.total in
    let same : Some top ≡ Some other = sym a.served ∙ ap (top_for chart.lines plan) number ∙ b.served in
    cc
