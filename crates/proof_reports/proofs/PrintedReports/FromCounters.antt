-- What a cycle leaves of the totals of an amount: each holds what its act makes of what it held.
use Rattle.std.proofs.Common.{◌≡◌, ◌∙◌, refl, sym, ap, subst, ℕ, ◌≤◌, Bool, true, false, List, Contains, Option, Some, None, is_some, option_and_then, if◌then◌else◌, arith, ◌+◌, inl, inr}
use Rattle.std.proofs.lemmas.List.Elements.{All-contains}
use Rattle.proof_cycles.proofs.TotalsWords.CounterCycles.ActLemmas.{acts-done}
use Rattle.proof_cycles.specs.TotalsWords.CounterCycles.Acts.{Act, Asks, Held, IsWithinGroup, held_after, held_by}
use Rattle.proof_cycles.specs.TotalsWords.CounterCycles.Acts.Act.{Still}
use Rattle.proof_reports.specs.Below.chart_plans.PlansWords.Plans.{Lists}
use Rattle.report_definition.specs.Below.chart_lines.ChartsWords.Chart.{Chart, NumbersRise}
use Rattle.report_definition.specs.Below.chart_lines.ChartsWords.Levels.{level_number}
use Rattle.report_definition.specs.Below.chart_lines.declared.charts.chart.Line.{Line}
use Rattle.report_definition.specs.Below.chart_lines.declared.charts.level.Level.{Level as ChartLevel}
use Rattle.report_definition.specs.Below.chart_lines.declared.charts.level.Level.TheVariants as chart_level
use Rattle.report_definition.specs.Below.chart_lines.declared.charts.statement.Field.{Field}
use Rattle.proof_reports.specs.Below.counters.Counters.{Counter, wheels_in}
use Rattle.proof_reports.specs.Below.counters.Numbers.{number}
use Rattle.proof_reports.specs.Below.counters.Rings.{CarryThrough, IsFedAlone}
use Rattle.proof_reports.specs.Below.counters.WholeCycles.{ComesRound, after_cycle, after_its_points}
use Rattle.proof_reports.specs.Below.hubs.SetupsWords.Wiring.{LeadsToEntries, Wiring, is_wired}
use Rattle.proof_reports.specs.Below.hubs.declared.hub.Group.{Group}
use Rattle.proof_reports.specs.Below.hubs.declared.hub.Hub.TheVariants.{CO, CI}
use Rattle.proof_reports.proofs.WiredPanels.CycleAsks.AmountFacts.{counter_at, has_from}
use Rattle.proof_reports.proofs.WiredPanels.CycleAsks.Counters.{held_at}
use Rattle.proof_reports.proofs.WiredPanels.CycleAsks.CounterAsks.{asks_card, asks_heading, asks_run_in, asks_step}
use Rattle.proof_reports.proofs.WiredPanels.CycleAsks.AmountsLawful.{lawful_amount}
use Rattle.proof_reports.proofs.WiredPanels.CycleAsks.Rings.{fed_lower, fed_single, fed_upper, goes_through, ring_pair, ring_single}
use Rattle.proof_reports.proofs.WiredPanels.CycleAsks.WheelRowsUnits.{group-own}
use Rattle.proof_reports.proofs.WiredPanels.Ways.{leads}
use Rattle.proof_reports.proofs.WiredPanels.CounterUnits.{at_unit, counter_there, planned_unit}
use Rattle.proof_reports.proofs.WiredPanels.AfterCycles.{cycle-of}
use Rattle.proof_reports.specs.WiredPanels.CycleAsks.ChartAmounts.{amount_of, positions_of, total_counter}
use Rattle.proof_reports.specs.WiredPanels.CycleAsks.CounterStates.{AsksCounter, held_in}
use Rattle.proof_reports.proofs.WiredPanels.Contacts.{is_set}
use Rattle.proof_reports.specs.WiredPanels.Groups.{IsCounterOf}
use Rattle.proof_reports.specs.Below.chart_line_rules.FieldRules.Coupled.{has_sign}
use Rattle.proof_reports.specs.Below.chart_line_rules.FieldRules.Fields.{field_named}
use Rattle.proof_reports.specs.Below.chart_plans.declared.plans.counter.TotalCounter.{TotalCounter}
use Rattle.proof_reports.specs.Below.chart_plans.declared.plans.counter.TotalCounter.TheVariants as of
use Rattle.proof_cycles.proofs.TotalsWords.CounterCycles.PairLemmas.{pairs-done}
use Rattle.proof_cycles.specs.TotalsWords.CounterCycles.Pairs.{AsksBoth, held_by_both}
use Rattle.proof_reports.specs.Below.counters.Laws.{number_of_both}
use Rattle.proof_reports.specs.Below.net.declared.cycle.Point.{Point}
use Rattle.proof_reports.specs.Below.net.declared.cycle.Point.TheVariants.{K}
use Rattle.proof_reports.specs.Below.hubs.declared.hub.Hub.{Hub}
use Rattle.wiring_table.proofs.Groups.{counter-given}
use Rattle.report_definition.proofs.Below.chart_lines.ChartsWords.Listed.{listed-map}
use Rattle.proof_reports.specs.WiredPanels.Panel.{IsPanel}
use Rattle.proof_reports.specs.Below.machine.Cycles.{CycleRun}
use Rattle.proof_reports.specs.Below.machine.Machine.{MachineState}
use Rattle.proof_reports.specs.Below.net.Panel.{unit_of}
use Rattle.proof_reports.specs.Below.net.declared.cycle.Cycle.{Cycle}
use Rattle.proof_reports.specs.Below.net.declared.cycle.Cycle.TheVariants.{RunIn, Card, Prog, Head}
use Rattle.proof_cycles.proofs.TotalsWords.Passing.{have_room}
use Rattle.proof_cycles.specs.TotalsWords.Amounts.{IsSmall, act_of, state_after, total_act}
use Rattle.proof_cycles.proofs.WholeCycles.Carries.{carries-come}
use Rattle.proof_cycles.proofs.WholeCycles.Ready.{machines-ready}
use Rattle.proof_cycles.specs.WholeCycles.Between.{IsBetween, IsIdle, IsReady}
use Rattle.proof_cycles.specs.WholeCycles.Units.{group_at}
use Rattle.proof_cycles.specs.WholeCycles.WholeCycles.{WholeCycle}
use Rattle.wiring_table.specs.Figures.{IsAmount}
use Rattle.wiring_table.specs.Parts.{counter_for, panel_group, total_line}
use Rattle.proof_reports.specs.PrintedReports.Content.{held, kind_for}
use Rattle.proof_reports.proofs.PrintedReports.Facts.{IsRead}
use Rattle.proof_reports.proofs.PrintedReports.FromCycles.{whole}

-- what the counter of a name holds is held in the machine for its group
pub held_there : (machine : MachineState) (counter : Counter) (group : Group) → IsBetween machine → Contains machine.groups counter
    → counter.name ≡ group → held_at machine group ≡ held_by counter
held_there machine counter group between listed named =
    let digits = ap (λ (c : Counter). number c.digits) (sym (group-own machine between counter listed)) in
    let latch = at_unit (λ (c : Counter). c.latch) false machine.groups counter between.ordered listed in
    ap (held_at machine) (sym named)
    ∙ (λ i. record { number = digits i; latch = latch i })

-- one group through a cycle
group_done :
    (wiring : Wiring) (cycle : Cycle) (old new : MachineState) (group : Group) (act : Act) (signed : Bool)
    → IsReady wiring old → IsReady wiring new → (all : WholeCycle wiring cycle old new) → 3 ≤ unit_of group
    → is_wired wiring (CO group) (CI group) ≡ signed → IsWithinGroup group.width act
    → Asks act (held_at old group).number group all.pictures
    → LeadsToEntries wiring → IsFedAlone wiring group group
    → held_at new group ≡ held_after signed group.width act (held_at old group)
group_done wiring cycle old new group act signed is is_new all there ring fits asks leading fed =
    let (counter, listed, named) = counter_there old.groups group is.between.ordered there in
    let idle = All-contains IsIdle old.groups counter is.between.groups listed in
    let by_wire : ComesRound (is_wired wiring (CO counter.name) (CI counter.name)) (group_at old counter.name) cycle all.pictures
    = carries-come.single wiring cycle old new counter.name all is.between leading
    (record { width = idle.lawful.width; number = idle.lawful.named })
    (subst (λ (g : Group). IsFedAlone wiring g g) (sym named) fed) in
    let round : ComesRound signed counter cycle all.pictures
    = subst (λ (b : Bool). ComesRound b counter cycle all.pictures) (ap (λ (g : Group). is_wired wiring (CO g) (CI g)) named ∙ ring)
    (subst (λ (c : Counter). ComesRound (is_wired wiring (CO counter.name) (CI counter.name)) c cycle all.pictures)
    (sym (group-own old is.between counter listed)) by_wire) in
    let holds = held_there old counter group is.between listed named in
    let asked : Asks act (number counter.digits) counter.name all.pictures
    = subst (λ (g : Group). Asks act (number counter.digits) g all.pictures) (sym named)
    (subst (λ (h : Held). Asks act h.number group all.pictures) holds asks) in
    let room : IsWithinGroup counter.name.width act = subst (λ (g : Group). IsWithinGroup g.width act) (sym named) fits in
    let done = acts-done signed act counter cycle all.pictures (record { is_counter = idle.lawful; entered = idle.entered }) room asked round in
    let after = after_cycle cycle all.pictures counter in
    let listed_new : Contains new.groups after
    = subst (λ (gs : List Counter). Contains gs after) (sym all.groups) (listed-map (after_cycle cycle all.pictures) old.groups counter listed) in
    held_there new after group is_new.between listed_new (done.name ∙ named)
    ∙ done.held
    ∙ ap (λ (g : Group). held_after signed g.width act (held_by counter)) named
    ∙ ap (λ (h : Held). held_after signed group.width act h) (sym holds)

-- what two groups of a machine hold as one
abbrev pub held_pair : MachineState → (upper lower : Group) → Held
held_pair machine upper lower =
    record { number = number_of_both (group_at machine upper).digits (group_at machine lower).digits; latch = is_set machine upper }

pub pair_there : (machine : MachineState) (upper lower : Counter) → IsBetween machine → Contains machine.groups upper
    → Contains machine.groups lower → held_pair machine upper.name lower.name ≡ held_by_both upper lower
pair_there machine upper lower between listed and_listed =
    let above = sym (group-own machine between upper listed) in
    let below = sym (group-own machine between lower and_listed) in
    let latch = at_unit (λ (c : Counter). c.latch) false machine.groups upper between.ordered listed in
    (λ i. record { number = number_of_both (above i).digits (below i).digits; latch = latch i })

-- two groups through a cycle, by what is asked of both
abbrev PairDoes : (wiring : Wiring) (old new : MachineState) → (Point → Hub → Bool) → Act → Bool → (upper lower : Group) → Type 0
PairDoes wiring old new pictures act signed upper lower =
    is_wired wiring (CO lower) (CI upper) ≡ true → is_wired wiring (CO upper) (CI lower) ≡ signed
    → IsFedAlone wiring lower upper → IsFedAlone wiring upper lower → IsWithinGroup (upper.width + lower.width) act
    → AsksBoth act (held_pair old upper lower).number upper lower pictures
    → held_pair new upper lower ≡ held_after signed (upper.width + lower.width) act (held_pair old upper lower)

counters_done :
    (wiring : Wiring) (cycle : Cycle) (old new : MachineState) (upper lower : Counter) (act : Act) (signed : Bool)
    → IsReady wiring old → IsReady wiring new → (all : WholeCycle wiring cycle old new) → Contains old.groups upper
    → Contains old.groups lower → LeadsToEntries wiring → PairDoes wiring old new all.pictures act signed upper.name lower.name
counters_done wiring cycle old new upper lower act signed is is_new all listed and_listed leading up ring fed and_fed fits asks =
    let idle = All-contains IsIdle old.groups upper is.between.groups listed in
    let and_idle = All-contains IsIdle old.groups lower is.between.groups and_listed in
    let by_wire = carries-come.pair wiring cycle old new upper.name lower.name all is.between leading
    (record { width = idle.lawful.width; number = idle.lawful.named })
    (record { width = and_idle.lawful.width; number = and_idle.lawful.named }) fed and_fed up in
    let through : CarryThrough signed (all.pictures K) upper.name lower.name (wheels_in (after_its_points cycle all.pictures upper))
    (wheels_in (after_its_points cycle all.pictures lower))
    = subst (λ (b : Bool). CarryThrough b (all.pictures K) upper.name lower.name (wheels_in (after_its_points cycle all.pictures upper))
    (wheels_in (after_its_points cycle all.pictures lower))) ring
    (subst (λ (c : Counter). CarryThrough (is_wired wiring (CO upper.name) (CI lower.name)) (all.pictures K) upper.name lower.name
    (wheels_in (after_its_points cycle all.pictures upper)) (wheels_in (after_its_points cycle all.pictures c)))
    (sym (group-own old is.between lower and_listed))
    (subst (λ (c : Counter). CarryThrough (is_wired wiring (CO upper.name) (CI lower.name)) (all.pictures K) upper.name lower.name
    (wheels_in (after_its_points cycle all.pictures c)) (wheels_in (after_its_points cycle all.pictures (group_at old lower.name))))
    (sym (group-own old is.between upper listed)) by_wire)) in
    let holds = pair_there old upper lower is.between listed and_listed in
    let asked : AsksBoth act (number_of_both upper.digits lower.digits) upper.name lower.name all.pictures
    = subst (λ (h : Held). AsksBoth act h.number upper.name lower.name all.pictures) holds asks in
    let done = pairs-done signed act upper lower cycle all.pictures (record { is_counter = idle.lawful; entered = idle.entered })
    (record { is_counter = and_idle.lawful; entered = and_idle.entered }) fits asked through in
    let listed_new : Contains new.groups (after_cycle cycle all.pictures upper)
    = subst (λ (gs : List Counter). Contains gs (after_cycle cycle all.pictures upper)) (sym all.groups)
    (listed-map (after_cycle cycle all.pictures) old.groups upper listed) in
    let and_listed_new : Contains new.groups (after_cycle cycle all.pictures lower)
    = subst (λ (gs : List Counter). Contains gs (after_cycle cycle all.pictures lower)) (sym all.groups)
    (listed-map (after_cycle cycle all.pictures) old.groups lower and_listed) in
    (λ i. held_pair new (sym done.upper_name i) (sym done.lower_name i))
    ∙ pair_there new (after_cycle cycle all.pictures upper) (after_cycle cycle all.pictures lower) is_new.between listed_new and_listed_new
    ∙ done.held
    ∙ ap (λ (h : Held). held_after signed (upper.name.width + lower.name.width) act h) (sym holds)

pair_done :
    (wiring : Wiring) (cycle : Cycle) (old new : MachineState) (upper lower : Group) (act : Act) (signed : Bool)
    → IsReady wiring old → IsReady wiring new → (all : WholeCycle wiring cycle old new) → 3 ≤ unit_of upper → 3 ≤ unit_of lower
    → LeadsToEntries wiring → PairDoes wiring old new all.pictures act signed upper lower
pair_done wiring cycle old new upper lower act signed is is_new all there and_there leading =
    let (above, listed, named) = counter_there old.groups upper is.between.ordered there in
    let (below, and_listed, and_named) = counter_there old.groups lower is.between.ordered and_there in
    subst (λ (g : Group). PairDoes wiring old new all.pictures act signed g lower) named
    (subst (λ (g : Group). PairDoes wiring old new all.pictures act signed above.name g) and_named
    (counters_done wiring cycle old new above below act signed is is_new all listed and_listed leading))

-- levels are numbered from 1
some_level : (its : ChartLevel) → 1 ≤ level_number its
some_level chart_level.Minor = omega arith
some_level other = omega arith

module _ (chart : Chart) (plan : Lists) (wiring : Wiring) (panel : IsPanel chart plan wiring) (rise : NumbersRise chart.lines chart.end)
  where
    -- what is asked of the counter of a total
    asked_of_counter :
        (cycle : Cycle) (card : List ℕ) (old new : MachineState) (name : List ℕ) (field : Field) (level : ℕ) (counter : TotalCounter)
        → IsReady wiring old → (all : WholeCycle wiring cycle old new) → IsRead chart plan cycle card old → IsAmount chart.lines name field
        → IsSmall (amount_of chart.lines plan name) (kind_for cycle card field) (held chart plan old name)
        → IsCounterOf chart.lines plan name level counter
        → AsksCounter (act_of (amount_of chart.lines plan name) (kind_for cycle card field) (held chart plan old name) level)
        (held chart plan old name level).number counter all.pictures
    asked_of_counter RunIn card old new name field level counter is all read amount small own =
        asks_run_in chart plan wiring rise old all.pictures name level counter own (cycle-of chart plan wiring RunIn old new panel is.between all)
    asked_of_counter Card card old new name field level counter is all read amount small own =
        asks_card chart plan wiring rise old all.pictures name level counter own (cycle-of chart plan wiring Card old new panel is.between all) card read field amount
    asked_of_counter (Prog l ordinal) card old new name field level counter is all read amount small own =
        asks_step chart plan wiring rise old all.pictures name level counter own l ordinal (cycle-of chart plan wiring (Prog l ordinal) old new panel is.between all) small
    asked_of_counter (Head heading) card old new name field level counter is all read amount small own =
        asks_heading chart plan wiring rise old all.pictures name level counter own heading (cycle-of chart plan wiring (Head heading) old new panel is.between all)

    -- a counter through a cycle
    counter_done :
        (cycle : Cycle) (old new : MachineState) (name : List ℕ) (level : ℕ) (counter : TotalCounter) (act : Act)
        → IsReady wiring old → IsReady wiring new → (all : WholeCycle wiring cycle old new)
        → (own : IsCounterOf chart.lines plan name level counter) → IsWithinGroup (positions_of (Some counter)) act
        → AsksCounter act (held_in old (Some counter)).number counter all.pictures
        → held_in new (Some counter)
        ≡ held_after (has_sign (field_named chart.lines name)) (positions_of (Some counter)) act (held_in old (Some counter))
    counter_done cycle old new name level (of.Single group) act is is_new all own fits asks =
        let there = planned_unit chart.lines plan own.number (panel_group group) panel.planned
        (record { counter = of.Single group; there = own.served; has = refl }) in
        group_done wiring cycle old new (panel_group group) act (has_sign (field_named chart.lines name)) is is_new all there
        (ring_single chart plan wiring panel rise group own) fits asks (leads chart plan wiring panel)
        (fed_single chart plan wiring panel rise group own)
    counter_done cycle old new name level (of.Coupled lower upper) act is is_new all own fits asks =
        let there = planned_unit chart.lines plan own.number (panel_group upper) panel.planned
        (record { counter = of.Coupled lower upper; there = own.served; has = inr refl }) in
        let and_there = planned_unit chart.lines plan own.number (panel_group lower) panel.planned
        (record { counter = of.Coupled lower upper; there = own.served; has = inl refl }) in
        pair_done wiring cycle old new (panel_group upper) (panel_group lower) act (has_sign (field_named chart.lines name)) is is_new all
        there and_there (leads chart plan wiring panel) (goes_through chart plan wiring panel rise lower upper own)
        (ring_pair chart plan wiring panel rise lower upper own) (fed_upper chart plan wiring panel rise lower upper own)
        (fed_lower chart plan wiring panel rise lower upper own) fits asks

    -- a level with a total
    with_total :
        (cycle : Cycle) (card : List ℕ) (old new : MachineState) (name : List ℕ) (field : Field) (level : ℕ) (counter : TotalCounter)
        → IsReady wiring old → IsReady wiring new → (all : WholeCycle wiring cycle old new) → IsRead chart plan cycle card old
        → IsAmount chart.lines name field
        → IsSmall (amount_of chart.lines plan name) (kind_for cycle card field) (held chart plan old name)
        → IsCounterOf chart.lines plan name level counter
        → held chart plan new name level
        ≡ state_after (amount_of chart.lines plan name) (kind_for cycle card field) (held chart plan old name) level
    with_total cycle card old new name field level counter is is_new all read amount small own =
        let its = amount_of chart.lines plan name in
        let act = act_of its (kind_for cycle card field) (held chart plan old name) level in
        let is_counter : total_counter chart.lines plan name level ≡ Some counter =
        counter_at chart plan name level own.number panel.lawful own.total ∙ own.served in
        let width : its.width level ≡ positions_of (Some counter) = ap positions_of is_counter in
        let room = have_room its (kind_for cycle card field) (held chart plan old name) (lawful_amount chart plan name panel.lawful rise panel.planned)
        small level (from_one own) in
        let fits : IsWithinGroup (positions_of (Some counter)) act = subst (λ w. IsWithinGroup w act) width room in
        let asks = asked_of_counter cycle card old new name field level counter is all read amount small own in
        let asked : AsksCounter act (held_in old (Some counter)).number counter all.pictures
        = subst (λ (h : Held). AsksCounter act h.number counter all.pictures) (ap (held_in old) is_counter) asks in
        ap (held_in new) is_counter
        ∙ counter_done cycle old new name level counter act is is_new all own fits asked
        ∙ (λ i. held_after its.is_signed (sym width i) act (held_in old (sym is_counter i)))
      where
        from_one : IsCounterOf chart.lines plan name level counter → 1 ≤ level
        from_one o = subst (λ n. 1 ≤ n) o.total.same_level (some_level o.total.asked.level)

    -- the totals of an amount after a cycle
    pub totals :
        (cycle : Cycle) (card : List ℕ) (old new : MachineState) → IsReady wiring old → CycleRun wiring cycle old new
        → IsRead chart plan cycle card old → (name : List ℕ) (field : Field) → IsAmount chart.lines name field
        → IsSmall (amount_of chart.lines plan name) (kind_for cycle card field) (held chart plan old name)
        → held chart plan new name ≡ state_after (amount_of chart.lines plan name) (kind_for cycle card field) (held chart plan old name)
    totals cycle card old new is run read name field amount small =
        λ i level. each level i
      where
        each : (level : ℕ) → held chart plan new name level
            ≡ state_after (amount_of chart.lines plan name) (kind_for cycle card field) (held chart plan old name) level
        each level = by (total_line chart.lines name level) refl
          where
            by : (o : Option Line) → total_line chart.lines name level ≡ o → held chart plan new name level
                ≡ state_after (amount_of chart.lines plan name) (kind_for cycle card field) (held chart plan old name) level
            by None none =
                let no_counter : total_counter chart.lines plan name level ≡ None
                = ap (option_and_then (λ (line : Line). counter_for chart.lines plan line.number)) none in
                let still : act_of (amount_of chart.lines plan name) (kind_for cycle card field) (held chart plan old name) level ≡ Still
                = ap (λ (o : Option Line). if is_some o then total_act (amount_of chart.lines plan name) (kind_for cycle card field) (held chart plan old name) level else Still) none in
                ap (held_in new) no_counter
                ∙ (λ i. held_after (amount_of chart.lines plan name).is_signed ((amount_of chart.lines plan name).width level)
                (sym still i) (held_in old (sym no_counter i)))
            by (Some line) some =
                let has : (amount_of chart.lines plan name).has level ≡ true = ap is_some some in
                let (number, total) = has_from chart.lines plan name level has in
                let (counter, served) = counter-given chart.lines plan name level number panel.planned total in
                with_total cycle card old new name field level counter is (machines-ready.kept wiring cycle old new is run)
                (whole wiring cycle old new is run) read amount small
                (record { number = number; total = total; served = served })
