-- The counter of a total: its groups serve the total, its top group has the balance, its positions stand at their places, and what is
-- asked of each of its groups is asked of the counter.
use Rattle.std.proofs.Common.{◌≡◌, ◌∙◌, refl, sym, ap, subst, ℕ, ◌+◌, ◌≤◌, ◌==◌, Bool, List, Option, Some, None, option_map, inl, inr, arith}
use Rattle.std.proofs.lemmas.Option.{same_Some}
use Rattle.proof_reports.specs.Below.card_code.Rows.{row_number}
use Rattle.proof_reports.specs.Below.card_code.declared.row.Row.{Row as CardRow}
use Rattle.proof_reports.specs.Below.chart_rules.Rules.{IsLawful}
use Rattle.proof_reports.specs.Below.chart_lines.ChartsWords.Chart.{Chart}
use Rattle.proof_reports.specs.Below.chart_lines.declared.charts.chart.Line.{Line}
use Rattle.proof_cycles.specs.TotalsWords.CounterCycles.Acts.{Act, Entered, Held, Spells, act_controls}
use Rattle.proof_cycles.specs.TotalsWords.CounterCycles.Pairs.{EnteredInBoth, SpellInBoth}
use Rattle.proof_cycles.specs.Below.counters.Numbers.{number}
use Rattle.proof_cycles.specs.WholeCycles.Units.{group_at}
use Rattle.proof_reports.specs.Below.hubs.declared.hub.Group.{Group}
use Rattle.proof_reports.specs.Below.hubs.declared.hub.Hub.{Hub}
use Rattle.proof_reports.specs.Below.hubs.declared.hub.Hub.TheVariants.{GE}
use Rattle.proof_reports.specs.Below.machine.Machine.{MachineState}
use Rattle.proof_cycles.specs.Below.net.declared.cycle.Point.{Point}
use Rattle.proof_cycles.specs.Below.net.declared.cycle.Point.TheVariants.{Row}
use Rattle.proof_reports.specs.Below.chart_plans.PlansWords.Plans.{Lists, ServesChart}
use Rattle.proof_reports.specs.Below.chart_plans.declared.plans.counter.TotalCounter.{TotalCounter}
use Rattle.proof_reports.specs.Below.chart_plans.declared.plans.counter.TotalCounter.TheVariants as of
use Rattle.wiring_table.specs.Parts.{HasPanelGroup, IsPlaceOf, ServesPosition, StandsAt, counter_for, panel_group, top_for, top_group}
use Rattle.wiring_table.proofs.Groups.{position-own, position-serves, serves-own}
use Rattle.proof_reports.specs.WiredPanels.Groups.{IsCounterOf, IsGroupOf, IsPlaceFor, IsTopOf}
use Rattle.proof_reports.proofs.WiredPanels.CycleAsks.AmountFacts.{counter_at}
use Rattle.proof_reports.proofs.WiredPanels.CycleAsks.CounterAsksKinds.{AreTold, alone}
use Rattle.proof_reports.specs.WiredPanels.CycleAsks.CounterStates.{AsksCounter, held_in, state_of}
use Rattle.proof_reports.proofs.WiredPanels.Contacts.{is_set}

module _ (lines : List Line) (plan : Lists) {name : List ℕ} {level : ℕ} {counter : TotalCounter}
    (own : IsCounterOf lines plan name level counter) where
  -- its groups serve the total, and its top group has the balance
  abbrev pub grouped : (group : Group) → HasPanelGroup counter group → IsGroupOf lines plan name level group
  grouped group has =
      record { number = own.number; total = own.total; served = record { counter = counter; there = own.served; has = has } }

  pub balanced : top_for lines plan own.number ≡ Some (top_group counter)
  balanced = ap (option_map top_group) own.served

  abbrev pub topped : IsTopOf lines plan name level (top_group counter)
  topped = record { number = own.number; total = own.total; served = balanced }

  -- and its positions are the total's
  abbrev pub placed : (position : ℕ) (group : Group) (place : ℕ) → IsPlaceOf counter position group place
      → IsPlaceFor lines plan name level position group place
  placed position group place at =
      record { number = own.number; total = own.total; served = record { counter = counter; there = own.served; at = at } }

-- the top group of a counter is one of its groups
pub top_has : (counter : TotalCounter) → HasPanelGroup counter (top_group counter)
top_has (of.Single group) = refl
top_has (of.Coupled lower upper) = inr refl

-- a place of a group is one of a group of the counter
pub place_has : (counter : TotalCounter) (position : ℕ) (group : Group) (place : ℕ) → IsPlaceOf counter position group place
    → HasPanelGroup counter group
place_has counter position group place at = by counter at.at
  where
    by : (its : TotalCounter) → StandsAt its position group place → HasPanelGroup its group
    by (of.Single own) stands = stands.0
    by (of.Coupled lower upper) (inl stands) = inl stands.0
    by (of.Coupled lower upper) (inr stands) = inr stands.0

-- positions are counted from 1
pub position_some : (counter : TotalCounter) (position : ℕ) (group : Group) (place : ℕ) → IsPlaceOf counter position group place
    → 1 ≤ position
position_some counter position group place at = by counter at.from at.at
  where
    by : (its : TotalCounter) → 1 ≤ place → StandsAt its position group place → 1 ≤ position
    by (of.Single own) from stands = let same = stands.1 in omega (arith, same, from)
    by (of.Coupled lower upper) from (inl stands) = let same = stands.1 in omega (arith, same, from)
    by (of.Coupled lower upper) from (inr stands) = let same = stands.1 in omega (arith, same, from)

-- a place serves one position of a total
pub same_position : (lines : List Line) (plan : Lists) {name : List ℕ} {level position other : ℕ} {group : Group} {place : ℕ}
    → ServesChart lines plan → IsPlaceFor lines plan name level position group place → IsPlaceFor lines plan name level other group place
    → position ≡ other
same_position lines plan {position = position} {other = other} {group = group} {place = place} planned one and_other =
    let numbers = serves-own lines plan planned one.number and_other.number group
    (position-serves lines plan one.number position group place one.served)
    (position-serves lines plan and_other.number other group place and_other.served) in
    position-own lines plan planned one.number position other group place one.served
    (subst (λ n. ServesPosition lines plan n other group place) (sym numbers) and_other.served)

-- what a total holds is held by its counter
pub counter_held : (machine : MachineState) (chart : Chart) (plan : Lists) (name : List ℕ) (level : ℕ) (counter : TotalCounter)
    → IsLawful chart → IsCounterOf chart.lines plan name level counter
    → state_of machine chart.lines plan name level ≡ held_in machine (Some counter)
counter_held machine chart plan name level counter lawful own =
    ap (held_in machine) (counter_at chart plan name level own.number lawful own.total ∙ own.served)

-- the number in a counter group
abbrev pub number_at : MachineState → Group → ℕ
number_at machine group = number (group_at machine group).digits

-- what a counter group holds
abbrev pub held_at : MachineState → Group → Held
held_at machine group = record { number = number_at machine group; latch = is_set machine group }

-- the latch of a total is that of the group with its balance
pub top_latch : (machine : MachineState) (chart : Chart) (plan : Lists) (name : List ℕ) (level : ℕ) (top : Group) → IsLawful chart
    → IsTopOf chart.lines plan name level top → (state_of machine chart.lines plan name level).latch ≡ is_set machine top
top_latch machine chart plan name level top lawful own =
    ap (λ o. (held_in machine o).latch) (counter_at chart plan name level own.number lawful own.total)
    ∙ by (counter_for chart.lines plan own.number) own.served
  where
    by : (o : Option TotalCounter) → option_map top_group o ≡ Some top → (held_in machine o).latch ≡ is_set machine top
    by None same = cc
    by (Some counter) same = ap (is_set machine) (same_Some (top_group counter) top same)

-- the entries of a counter spell digits, by its positions
abbrev pub SpellsCounter : TotalCounter → (ℕ → ℕ) → (Point → Hub → Bool) → Type 0
SpellsCounter (of.Single group) digit pictures = Spells (panel_group group) digit pictures
SpellsCounter (of.Coupled lower upper) digit pictures = SpellInBoth (panel_group upper) (panel_group lower) digit pictures

pub places_spell : (counter : TotalCounter) (digit : ℕ → ℕ) (pictures : Point → Hub → Bool)
    → ((row : CardRow) → 1 ≤ row_number row → row_number row ≤ 9 → (position : ℕ) (group : Group) (place : ℕ)
    → IsPlaceOf counter position group place → pictures (Row row) (GE group place) ≡ (digit position == row_number row))
    → SpellsCounter counter digit pictures
places_spell (of.Single group) digit pictures spelled =
    λ row some few place from to.
    spelled row some few place (panel_group group) place (record { from = from; to = to; at = (refl, refl) })
places_spell (of.Coupled lower upper) digit pictures spelled = record {
  below = λ row some few place from to.
      spelled row some few place (panel_group lower) place (record { from = from; to = to; at = inl (refl, refl) });
  above = λ row some few place from to.
      spelled row some few (lower.width + place) (panel_group upper) place (record { from = from; to = to; at = inr (refl, refl) });
}

-- what is to be entered for what is asked of a counter
abbrev pub EnteredCounter : Act → ℕ → TotalCounter → (Point → Hub → Bool) → Type 0
EnteredCounter act held (of.Single group) pictures = Entered act held (panel_group group) pictures
EnteredCounter act held (of.Coupled lower upper) pictures = EnteredInBoth act held (panel_group upper) (panel_group lower) pictures

-- what is told to each of its groups is asked of a counter
pub asks_of : (counter : TotalCounter) (act : Act) (held : ℕ) (pictures : Point → Hub → Bool)
    → ((group : Group) → HasPanelGroup counter group → AreTold group (top_group counter) (act_controls act) pictures)
    → EnteredCounter act held counter pictures → AsksCounter act held counter pictures
asks_of (of.Single group) act held pictures told entered =
    record { controls = alone (panel_group group) (act_controls act) pictures (told (panel_group group) refl); entered = entered }
asks_of (of.Coupled lower upper) act held pictures told entered =
    let below = told (panel_group lower) (inl refl) in
    record {
      controls = alone (panel_group upper) (act_controls act) pictures (told (panel_group upper) (inr refl));
      plus = below.plus;
      minus = below.minus;
      read_out = below.read_out;
      entered = entered;
    }
