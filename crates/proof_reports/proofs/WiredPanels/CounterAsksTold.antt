-- Cycles as the control hubs of counter groups tell them apart, and wires from the lines of totals.
use Rattle.std.proofs.Common.{◌≡◌, ◌∙◌, refl, sym, ap, subst, ℕ, ◌<◌, Bool, true, false, List, Some}
use Rattle.wiring_table.specs.Below.chart_plans.PlansWords.Plans.{Lists, ServesChart}
use Rattle.wiring_table.proofs.Below.chart_line_rules.FieldRules.Places.{is_same_name-equal}
use Rattle.wiring_table.specs.Below.chart_lines.ChartsWords.Chart.{Chart, NumbersRise}
use Rattle.wiring_table.specs.Below.chart_lines.declared.charts.chart.Line.{Line}
use Rattle.wiring_table.specs.Below.chart_lines.declared.charts.statement.Statement.TheVariants as says
use Rattle.wiring_table.specs.Below.chart_lines.declared.charts.statement.TotalLine.{TotalLine}
use Rattle.proof_cycles.specs.Below.hubs.Hubs.{number_of}
use Rattle.proof_cycles.specs.Below.hubs.declared.hub.Group.{Group}
use Rattle.proof_cycles.specs.Below.hubs.declared.hub.Hub.{Hub}
use Rattle.proof_cycles.specs.Below.hubs.declared.hub.Hub.TheVariants.{CC, PX, HX}
use Rattle.proof_cycles.specs.Below.net.Cycles.{level_number, ordinal_number}
use Rattle.proof_cycles.specs.Below.net.declared.cycle.Cycle.{Cycle}
use Rattle.proof_cycles.specs.Below.net.declared.cycle.Cycle.TheVariants.{RunIn, Card, Prog, Head}
use Rattle.proof_cycles.specs.WholeCycles.WholeCycles.{control_emits}
use Rattle.wiring_table.specs.Parts.{HasTotal, IsNextHigher}
use Rattle.wiring_table.specs.Wires.{LineWire, ChartWire}
use Rattle.proof_reports.proofs.WiredPanels.PlanOwners.{IsSameTotal, one_owner}
use Rattle.proof_reports.proofs.WiredPanels.Sending.{telling}
use Rattle.proof_reports.proofs.WiredPanels.ToCounters.{GoesUp}
use Rattle.proof_reports.specs.WiredPanels.Groups.{IsGroupOf}
use Rattle.proof_reports.specs.WiredPanels.Sources.{EmitsAtControl}
use Rattle.proof_reports.specs.WiredPanels.Sources.EmitsAtControl.{card as tells_card, prog as tells_prog, head as tells_head}

-- a cycle is the card cycle
abbrev pub IsCardCycle : Cycle → Type 0
IsCardCycle RunIn = ⊥
IsCardCycle Card = Unit {0}
IsCardCycle (Prog level ordinal) = ⊥
IsCardCycle (Head heading) = ⊥

-- a cycle is the program cycle of a level with a number
abbrev pub IsStep : Cycle → ℕ → ℕ → Type 0
IsStep RunIn level step = ⊥
IsStep Card level step = ⊥
IsStep (Prog its ordinal) level step = (level_number its ≡ level) × (ordinal_number ordinal ≡ step)
IsStep (Head heading) level step = ⊥

-- what tells of a card cycle, and of a program cycle
pub told_card : {cycle : Cycle} → EmitsAtControl cycle CC → IsCardCycle cycle
told_card tells_card = tt

pub told_step : {cycle : Cycle} {level step : ℕ} → EmitsAtControl cycle (PX level step) → IsStep cycle level step
told_step (tells_prog level ordinal) = (refl, refl)

-- whether a hub can tell of a cycle
abbrev pub can_tell : Hub → Bool
can_tell CC = true
can_tell (PX level step) = true
can_tell (HX heading) = true
can_tell other = false

pub telling_hub : {cycle : Cycle} {hub : Hub} → EmitsAtControl cycle hub → can_tell hub ≡ true
telling_hub tells_card = refl
telling_hub (tells_prog level ordinal) = refl
telling_hub (tells_head heading) = refl

-- no other hub tells
pub untold : {A : Type 0} {cycle : Cycle} {hub : Hub} → EmitsAtControl cycle hub → can_tell hub ≡ false → A
untold tells none = let on = telling_hub tells in absurd (no_both none on)
  where
    no_both : {b : Bool} → b ≡ false → b ≡ true → ⊥
    no_both a b = cc

-- the exits that emit in these cycles
pub card_emits : (cycle : Cycle) → IsCardCycle cycle → control_emits cycle CC ≡ true
card_emits RunIn is = absurd is
card_emits Card is = refl
card_emits (Prog its ordinal) is = absurd is
card_emits (Head heading) is = absurd is

pub step_emits : (cycle : Cycle) (level step n : ℕ) → IsStep cycle level step → number_of (PX level step) ≡ Some n
    → control_emits cycle (PX level step) ≡ true
step_emits RunIn level step n is there = absurd is
step_emits Card level step n is there = absurd is
step_emits (Prog its ordinal) level step n is there =
    by level step is.0 is.1 there
  where
    by : (a b : ℕ) → level_number its ≡ a → ordinal_number ordinal ≡ b → number_of (PX a b) ≡ Some n
        → control_emits (Prog its ordinal) (PX a b) ≡ true
    by a b one other there =
        subst (λ x. control_emits (Prog its ordinal) (PX x b) ≡ true) one
        (subst (λ y. control_emits (Prog its ordinal) (PX (level_number its) y) ≡ true) other
        (telling n (tells_prog its ordinal)
        (ap (λ x. number_of (PX x (ordinal_number ordinal))) one ∙ ap (λ y. number_of (PX a y)) other ∙ there)))
step_emits (Head heading) level step n is there = absurd is

-- what holds of a total holds of the same total
pub moved : {one other : List ℕ} {one_level other_level : ℕ} (P : List ℕ → ℕ → Type 0) → IsSameTotal one other one_level other_level
    → P one one_level → P other other_level
moved {one} {other} {one_level} {other_level} P same given =
    subst (λ n. P n other_level) same.name (subst (λ l. P one l) same.level given)

-- The next lower total of an amount below a level: it has one at a lower level, and none between.
pub record IsUnder (lines : List Line) (name : List ℕ) (low level : ℕ) : Type 0 where
  pub number : ℕ
  pub total : HasTotal lines name low number
  pub below : low < level
  pub between : (middle other : ℕ) → low < middle → middle < level → ¬ HasTotal lines name middle other

-- a total goes up to the total whose group it enters
pub goes_under :
    (chart : Chart) (plan : Lists) (name its_name : List ℕ) (low level : ℕ) (group : Group) → NumbersRise chart.lines chart.end
    → ServesChart chart.lines plan → IsGroupOf chart.lines plan name level group → (up : GoesUp chart.lines plan its_name low group)
    → (same : IsSameTotal its_name name up.next.higher level) × (under : IsUnder chart.lines name low level)
    × (under.total.asked.digits ≡ up.lower_total.asked.digits)
goes_under chart plan name its_name low level group rise planned own up =
    let its : IsGroupOf chart.lines plan its_name up.next.higher group =
    record { number = up.number; total = up.next.total; served = up.served } in
    let same = one_owner chart plan its_name name up.next.higher level group rise planned its own in
    let under = moved (λ n l. (u : IsUnder chart.lines n low l) × (u.total.asked.digits ≡ up.lower_total.asked.digits)) same
    (record { number = up.lower_number; total = up.lower_total; below = up.next.above; between = up.next.next }, refl) in
    (same, under.0, under.1)

-- the next higher total, by the one below it
pub next_higher : (lines : List Line) (plan : Lists) (name : List ℕ) (low level : ℕ) (group : Group)
    → (own : IsGroupOf lines plan name level group) → IsUnder lines name low level → IsNextHigher lines name low own.number
next_higher lines plan name low level group own under =
    record { higher = level; total = own.total; above = under.below; next = under.between }

-- what a line asks for that has a total of an amount, by the name of the amount
abbrev pub named_so : {lines : List Line} {name : List ℕ} {level number : ℕ} → HasTotal lines name level number → TotalLine
named_so {lines} {name} total = record total.asked { name = name }

-- a wire of the line of a total
pub wire_of :
    (lines : List Line) (plan : Lists) (name : List ℕ) (level number : ℕ) (x e : Hub) (total : HasTotal lines name level number)
    → LineWire lines plan number (says.TotalAmount (named_so total)) x e → ChartWire lines plan x e
wire_of lines plan name level number x e total wire =
    let same = is_same_name-equal total.asked.name name total.same_name in
    let says_it : says.TotalAmount (named_so total) ≡ total.line.statement =
    ap (λ n. says.TotalAmount (record total.asked { name = n })) (sym same) ∙ sym total.says_total in
    record {
      line = total.line;
      listed = total.listed;
      wire =
          subst (λ n. LineWire lines plan n total.line.statement x e) (sym total.is_number)
          (subst (λ s. LineWire lines plan number s x e) says_it wire);
    }
