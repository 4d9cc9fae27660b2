-- On a panel that is wired for a chart the number of a total's groups moves in each cycle as the totals of the amount have it.
use Rattle.std.proofs.Common.{◌≡◌, ◌∙◌, refl, sym, ap, subst, ℕ, ◌+◌, List, Option, Some, None, inl, inr}
use Rattle.capacity.specs.declared.group.CounterGroup.{CounterGroup}
use Rattle.chart_lines.specs.ChartsWords.Chart.{Chart, NumbersRise}
use Rattle.chart_lines.specs.declared.charts.statement.Field.{Field}
use Rattle.counters.specs.Counters.{Counter, wheels_in}
use Rattle.counters.specs.Laws.{number_of_both}
use Rattle.counters.specs.Numbers.{number}
use Rattle.counters.specs.Rings.{CarryThrough}
use Rattle.counters.specs.WholeCycles.{ComesRound, after_its_points}
use Rattle.hubs.specs.declared.hub.Group.{Group}
use Rattle.hubs.specs.declared.hub.Hub.TheVariants.{CI, CO}
use Rattle.explain_ledgers.specs.LedgersWords.Accounts.{counter_at, movement_of}
use Rattle.explain_ledgers.specs.LedgersWords.Entries.{movement_of_both, movement_of_one}
use Rattle.explain_ledgers.specs.declared.ledgers.account.Account.{Account}
use Rattle.explain_ledgers.specs.declared.ledgers.account.Account.TheVariants.{One, Coupled}
use Rattle.machine.specs.Cycles.{Reached}
use Rattle.machine.specs.Machine.{MachineState, ended}
use Rattle.net.specs.declared.cycle.Cycle.{Cycle}
use Rattle.net.specs.declared.cycle.Cycle.TheVariants.{RunIn, Card, Prog, Head}
use Rattle.net.specs.declared.cycle.Point.TheVariants.{K}
use Rattle.proof_reports.proofs.WiredPanels.CycleAsks.AmountFacts.{counter_at as counter_there, total_level}
use Rattle.proof_reports.proofs.WiredPanels.CycleAsks.AmountsLawful.{lawful_amount}
use Rattle.proof_reports.proofs.WiredPanels.CycleAsks.CounterAsks.{asks_card, asks_heading, asks_run_in, asks_step}
use Rattle.proof_reports.proofs.WiredPanels.CycleAsks.Rings.{fed_lower, fed_single, fed_upper, goes_through}
use Rattle.proof_reports.proofs.WiredPanels.CycleAsks.WheelRowsUnits.{group-named}
use Rattle.proof_reports.specs.WiredPanels.CycleAsks.ChartAmounts.{amount_of, positions_of, total_counter}
use Rattle.proof_reports.specs.WiredPanels.CycleAsks.CounterStates.{AsksCounter, held_in, number_held}
use Rattle.chart_plans.specs.PlansWords.Plans.{Lists}
use Rattle.chart_plans.specs.declared.plans.counter.TotalCounter.{TotalCounter}
use Rattle.chart_plans.specs.declared.plans.counter.TotalCounter.TheVariants as of
use Rattle.proof_reports.proofs.PrintedReports.Facts.{IsRead}
use Rattle.proof_reports.specs.PrintedReports.Content.{held, kind_for}
use Rattle.hubs.specs.SetupsWords.Wiring.{Wiring, is_wired}
use Rattle.proof_cycles.proofs.TotalsWords.Passing.{have_room}
use Rattle.proof_cycles.specs.TotalsWords.Amounts.{IsSmall, act_of}
use Rattle.proof_cycles.specs.TotalsWords.CounterCycles.Acts.{Act, Asks, IsWithinGroup}
use Rattle.proof_cycles.specs.TotalsWords.CounterCycles.Pairs.{AsksBoth}
use Rattle.explain_wheel_ledgers.specs.Places.{place_of}
use Rattle.explain_wheel_ledgers.specs.Totals.{account_of, both_account, one_account}
use Rattle.proof_cycles.proofs.WholeCycles.Carries.{carries-come}
use Rattle.proof_cycles.proofs.WholeCycles.Units.{units-by_name}
use Rattle.proof_cycles.specs.WholeCycles.Between.{IsReady}
use Rattle.proof_cycles.specs.WholeCycles.Units.{IsGroup, group_at}
use Rattle.proof_cycles.specs.WholeCycles.WholeCycles.{WholeCycle}
use Rattle.proof_reports.proofs.WiredPanels.AfterCycles.{cycle-of}
use Rattle.proof_reports.proofs.WiredPanels.Ways.{leads}
use Rattle.proof_reports.specs.WiredPanels.Groups.{IsCounterOf}
use Rattle.proof_reports.specs.WiredPanels.Panel.{IsPanel}
use Rattle.wiring_table.specs.Figures.{IsAmount}
use Rattle.wiring_table.specs.Parts.{ServesTotal, panel_group}
use Rattle.proof_cycles.proofs.WholeCycles.Wholes.{IsBehind, whole-behind}
use Rattle.proof_laws.proofs.LedgerAmounts.Counters.{both-moves, one-moves}
use Rattle.proof_laws.proofs.LedgerAmounts.Groups.{at-place}
use Rattle.proof_laws.proofs.LedgerAmounts.Moves.{Moves}

-- the places of an account
pub one-place : (place : Option ℕ) (account : Account) → one_account place ≡ Some account
    → (own : ℕ) × (place ≡ Some own) × (account ≡ One own)
one-place None account is = cc
one-place (Some own) account is = let same : One own ≡ account = cc in (own, refl, sym same)

pub both-places : (upper lower : Option ℕ) (account : Account) → both_account upper lower ≡ Some account
    → (high : ℕ) × (low : ℕ) × (upper ≡ Some high) × (lower ≡ Some low) × (account ≡ Coupled high low)
both-places None lower account is = cc
both-places (Some high) None account is = cc
both-places (Some high) (Some low) account is = let same : Coupled high low ≡ account = cc in (high, low, refl, refl, sym same)

module _ (chart : Chart) (plan : Lists) (wiring : Wiring) (panel : IsPanel chart plan wiring) (rise : NumbersRise chart.lines chart.end)
  where
    -- what is asked of the counter of a total
    asked :
        (cycle : Cycle) (card : List ℕ) (old new : MachineState) (name : List ℕ) (field : Field) (level : ℕ) (counter : TotalCounter)
        → IsReady wiring old → (all : WholeCycle wiring cycle old new) → IsRead chart plan cycle card old → IsAmount chart.lines name field
        → IsSmall (amount_of chart.lines plan name) (kind_for cycle card field) (held chart plan old name)
        → IsCounterOf chart.lines plan name level counter
        → AsksCounter (act_of (amount_of chart.lines plan name) (kind_for cycle card field) (held chart plan old name) level)
        (held chart plan old name level).number counter all.pictures
    asked RunIn card old new name field level counter is all read amount small own =
        asks_run_in chart plan wiring rise old all.pictures name level counter own (cycle-of chart plan wiring RunIn old new panel is.between all)
    asked Card card old new name field level counter is all read amount small own =
        asks_card chart plan wiring rise old all.pictures name level counter own (cycle-of chart plan wiring Card old new panel is.between all)
        card read field amount
    asked (Prog l ordinal) card old new name field level counter is all read amount small own =
        asks_step chart plan wiring rise old all.pictures name level counter own l ordinal
        (cycle-of chart plan wiring (Prog l ordinal) old new panel is.between all) small
    asked (Head heading) card old new name field level counter is all read amount small own =
        asks_heading chart plan wiring rise old all.pictures name level counter own heading
        (cycle-of chart plan wiring (Head heading) old new panel is.between all)

    module _ (cycle : Cycle) (old behind : MachineState) (name : List ℕ) (level : ℕ) (act : Act) (is : IsReady wiring old)
        (at : IsBehind wiring cycle old behind) where
      -- the group of a name, which serves a total
      of-panel : (number : ℕ) (group : Group) → ServesTotal chart.lines plan number group → IsGroup group
      of-panel number group serves = group-named chart.lines plan number group panel.planned serves

      -- one group
      single-moves : (group : CounterGroup) (place : ℕ) → (own : IsCounterOf chart.lines plan name level (of.Single group))
          → place_of (panel_group group) ≡ Some place → IsWithinGroup group.width act
          → Asks act (number (group_at old (panel_group group)).digits) (panel_group group) at.all.pictures
          → Moves act (number (group_at old (panel_group group)).digits) (movement_of behind.groups cycle (One place))
      single-moves group place own placed fits asks =
          let its : Group = panel_group group in
          let on : IsGroup its = of-panel own.number its (record { counter = of.Single group; there = own.served; has = refl }) in
          let by = units-by_name.groups old its is.between on in
          let counter : Counter = group_at old its in
          let named : counter.name ≡ its = by.named in
          let by_wire = carries-come.single wiring cycle old (ended behind cycle) its at.all is.between (leads chart plan wiring panel) on
          (fed_single chart plan wiring panel rise group own) in
          let round : ComesRound (is_wired wiring (CO its) (CI its)) counter cycle at.all.pictures = by_wire in
          subst (λ (c : Counter). Moves act (number counter.digits) (movement_of_one c cycle))
          (sym (ap (λ gs. counter_at gs place) at.groups ∙ at-place old (after_its_points cycle at.all.pictures) place its is.between placed))
          (one-moves (is_wired wiring (CO its) (CI its)) act counter cycle at.all.pictures by.idle
          (subst (λ (g : Group). IsWithinGroup g.width act) (sym named) fits)
          (subst (λ (g : Group). Asks act (number counter.digits) g at.all.pictures) (sym named) asks)
          round)

      -- two groups
      pair-moves : (lower upper : CounterGroup) (low high : ℕ) → (own : IsCounterOf chart.lines plan name level (of.Coupled lower upper))
          → place_of (panel_group upper) ≡ Some high → place_of (panel_group lower) ≡ Some low
          → IsWithinGroup (upper.width + lower.width) act
          → AsksBoth act
          (number_of_both (group_at old (panel_group upper)).digits (group_at old (panel_group lower)).digits)
          (panel_group upper) (panel_group lower) at.all.pictures
          → Moves act (number_of_both (group_at old (panel_group upper)).digits (group_at old (panel_group lower)).digits)
          (movement_of behind.groups cycle (Coupled high low))
      pair-moves lower upper low high own placed and_placed fits asks =
          let above : Group = panel_group upper in
          let below : Group = panel_group lower in
          let on : IsGroup above = of-panel own.number above (record { counter = of.Coupled lower upper; there = own.served; has = inr refl }) in
          let and_on : IsGroup below = of-panel own.number below (record { counter = of.Coupled lower upper; there = own.served; has = inl refl }) in
          let by = units-by_name.groups old above is.between on in
          let and_by = units-by_name.groups old below is.between and_on in
          let over : Counter = group_at old above in
          let under : Counter = group_at old below in
          let through = carries-come.pair wiring cycle old (ended behind cycle) above below at.all is.between (leads chart plan wiring panel) on and_on
          (fed_upper chart plan wiring panel rise lower upper own) (fed_lower chart plan wiring panel rise lower upper own)
          (goes_through chart plan wiring panel rise lower upper own) in
          let P : Group → Group → Type 0 = λ g h.
          IsWithinGroup (g.width + h.width) act
          × AsksBoth act (number_of_both over.digits under.digits) g h at.all.pictures
          × CarryThrough (is_wired wiring (CO above) (CI below)) (at.all.pictures K) g h
          (wheels_in (after_its_points cycle at.all.pictures over)) (wheels_in (after_its_points cycle at.all.pictures under)) in
          let all : P over.name under.name = subst (λ (g : Group). P g under.name) (sym by.named)
          (subst (λ (h : Group). P above h) (sym and_by.named) (fits, asks, through)) in
          let moves = both-moves (is_wired wiring (CO above) (CI below)) act over under cycle at.all.pictures by.idle and_by.idle
          all.0 all.1 all.2 in
          subst (λ (c : Counter). Moves act (number_of_both over.digits under.digits) (movement_of_both c (counter_at behind.groups low) cycle))
          (sym (ap (λ gs. counter_at gs high) at.groups ∙ at-place old (after_its_points cycle at.all.pictures) high above is.between placed))
          (subst (λ (c : Counter). Moves act (number_of_both over.digits under.digits)
          (movement_of_both (after_its_points cycle at.all.pictures over) c cycle))
          (sym (ap (λ gs. counter_at gs low) at.groups ∙ at-place old (after_its_points cycle at.all.pictures) low below is.between and_placed))
          moves)

      -- the groups of a counter, by its account
      counter-moves : (counter : TotalCounter) (account : Account) → IsCounterOf chart.lines plan name level counter
          → account_of counter ≡ Some account → IsWithinGroup (positions_of (Some counter)) act
          → AsksCounter act (number_held old counter) counter at.all.pictures
          → Moves act (number_held old counter) (movement_of behind.groups cycle account)
      counter-moves (of.Single group) account own told fits asks =
          let (place, placed, is_account) = one-place (place_of (panel_group group)) account told in
          subst (λ (a : Account). Moves act (number (group_at old (panel_group group)).digits) (movement_of behind.groups cycle a)) (sym is_account)
          (single-moves group place own placed fits asks)
      counter-moves (of.Coupled lower upper) account own told fits asks =
          let (high, low, placed, and_placed, is_account) =
          both-places (place_of (panel_group upper)) (place_of (panel_group lower)) account told in
          subst (λ (a : Account). Moves act
          (number_of_both (group_at old (panel_group upper)).digits (group_at old (panel_group lower)).digits)
          (movement_of behind.groups cycle a)) (sym is_account)
          (pair-moves lower upper low high own placed and_placed fits asks)

    -- The number of a total moves in each cycle as the totals of its amount have it.
    pub total-moves :
        (cycle : Cycle) (card : List ℕ) (old behind : MachineState) (name : List ℕ) (field : Field) (level : ℕ) (counter : TotalCounter)
        (account : Account) → IsReady wiring old → Reached wiring cycle 14 old behind → IsRead chart plan cycle card old
        → IsAmount chart.lines name field
        → IsSmall (amount_of chart.lines plan name) (kind_for cycle card field) (held chart plan old name)
        → IsCounterOf chart.lines plan name level counter → account_of counter ≡ Some account
        → Moves (act_of (amount_of chart.lines plan name) (kind_for cycle card field) (held chart plan old name) level)
        (held chart plan old name level).number (movement_of behind.groups cycle account)
    total-moves cycle card old behind name field level counter account is reached read amount small own told =
        let at = whole-behind wiring cycle old behind is.between reached in
        let its = amount_of chart.lines plan name in
        let act = act_of its (kind_for cycle card field) (held chart plan old name) level in
        let is_counter : total_counter chart.lines plan name level ≡ Some counter =
        counter_there chart plan name level own.number panel.lawful own.total ∙ own.served in
        let width : its.width level ≡ positions_of (Some counter) = ap positions_of is_counter in
        let room = have_room its (kind_for cycle card field) (held chart plan old name)
        (lawful_amount chart plan name panel.lawful rise panel.planned) small level (total_level own.total) in
        let fits : IsWithinGroup (positions_of (Some counter)) act = subst (λ w. IsWithinGroup w act) width room in
        let same : (held chart plan old name level).number ≡ number_held old counter = ap (λ o. (held_in old o).number) is_counter in
        let asks : AsksCounter act (number_held old counter) counter at.all.pictures =
        subst (λ (n : ℕ). AsksCounter act n counter at.all.pictures) same
        (asked cycle card old (ended behind cycle) name field level counter is at.all read amount small own) in
        subst (λ (n : ℕ). Moves act n (movement_of behind.groups cycle account)) (sym same)
        (counter-moves cycle old behind name level act is at counter account own told fits asks)
