-- On a panel that is wired for a chart by a plan, the wires that name a counter name that of the plan.
use Rattle.std.proofs.Common.{◌≡◌, ◌∙◌, refl, sym, ap, subst, ℕ, ◌≤◌, true, Contains, Some, inl, inr, arith, option_map}
use Rattle.std.proofs.lemmas.Option.{same_Some}
use Rattle.capacity.specs.Capacities.{standard}
use Rattle.capacity.specs.declared.group.CounterGroup.{CounterGroup}
use Rattle.chart_rules.specs.Rules.{IsLawful}
use Rattle.chart_lines.specs.ChartsWords.Chart.{Chart, NumbersRise}
use Rattle.chart_lines.specs.ChartsWords.Field.{decimals_of}
use Rattle.chart_lines.specs.ChartsWords.Levels.{level_number}
use Rattle.chart_lines.specs.declared.charts.chart.Line.{Line}
use Rattle.chart_lines.specs.declared.charts.level.Level.{Level}
use Rattle.chart_lines.specs.declared.charts.level.Level.TheVariants as level
use Rattle.chart_lines.specs.declared.charts.statement.BodyLine.TheVariants as body
use Rattle.chart_lines.specs.declared.charts.statement.Field.{Field}
use Rattle.chart_lines.specs.declared.charts.statement.Statement.TheVariants as says
use Rattle.chart_lines.proofs.ChartsWords.Rising.{one-line as line-by-number}
use Rattle.chart_line_rules.specs.FieldRules.Fields.{field_named, fields_of}
use Rattle.hubs.specs.declared.hub.Group.{Group}
use Rattle.hubs.specs.declared.hub.Hub.TheVariants.{CI, CO, GX, PX, RO, W}
use Rattle.chart_plans.specs.PlansWords.Counters.{HasCounter, IsEnoughFor}
use Rattle.chart_plans.specs.PlansWords.Plans.{Lists, ServesChart}
use Rattle.chart_plans.specs.declared.plans.counter.TotalCounter.{TotalCounter}
use Rattle.chart_plans.specs.declared.plans.counter.TotalCounter.TheVariants as of
use Rattle.chart_line_rules.specs.PrintRules.Items.{is_same_line, item_of, total_item}
use Rattle.chart_line_rules.specs.PrintRules.Wheels.{HasWheel}
use Rattle.chart_line_rules.specs.declared.print_rules.items.PrintedLine.TheVariants.{Body}
use Rattle.proof_reports.proofs.PrintedLines.Meeting.{one-line}
use Rattle.hubs.specs.SetupsWords.Wiring.{Wiring}
use Rattle.chart_plans.specs.WantedWords.ChartTotals.{need_of}
use Rattle.wiring_table.specs.Figures.{digit_wheel}
use Rattle.wiring_table.specs.Parts.{HasPanelGroup, ServesPosition, ServesTotal, StandsAt, counter_for, panel_group}
use Rattle.wiring_table.specs.WiredFor.{WiredFor}
use Rattle.wiring_table.specs.Wires.{ChartWire, LineWire}
use Rattle.wiring_table.specs.Wires.LineWire.{carry_up, read_out, total_digit}
use Rattle.wiring_table.proofs.Groups.{pair-apart, position-serves, serves-own}
use Rattle.match_plans.specs.Wired.{TotalOn, units_wheel}
use Rattle.match_plans.specs.Shown.{CarriesTo, IsShown, ShowsUnits, units_group}
use Rattle.match_plans.proofs.Asked.{asks}
use Rattle.match_plans.proofs.Inverse.{CarryOf, DigitOf, around, carry-of, digit-of, read-out-of, round, up}
use Rattle.match_plans.proofs.Rows.{width-most}
use Rattle.match_plans.proofs.Wheels.{on-wheels, own-position}

-- two groups of a plan that are one on the panel are one
same-group : (one other : CounterGroup) → panel_group one ≡ panel_group other → one ≡ other
same-group one other same = ap (λ (g : Group). record { width = g.width; number = g.number }) same

-- total lines of levels with one number are one printed line
pub same-line : (one other : Level) → level_number one ≡ level_number other → is_same_line (Body (body.Total one)) (Body (body.Total other)) ≡ true
same-line level.Minor level.Minor same = refl
same-line level.Intermediate level.Intermediate same = refl
same-line level.Major level.Major same = refl
same-line level.Final level.Final same = refl
same-line one other same = cc

module _ (chart : Chart) (plan : Lists) (setup : Wiring) (lawful : IsLawful chart) (rise : NumbersRise chart.lines chart.end)
    (planned : ServesChart chart.lines plan) (wired : WiredFor chart.lines plan setup) where
  -- the item that a total is, and the wheels of its digits
  its-item : (line : Line) (total : TotalOn chart.lines line)
      → item_of (fields_of chart.lines) line.statement ≡ Some (total_item total.asked total.field.kind)
  its-item line total =
      ap (item_of (fields_of chart.lines)) total.says_total
      ∙ ap (λ o. option_map (λ (field : Field). total_item total.asked field.kind) o) total.amount.named

  digit-on : (line : Line) (total : TotalOn chart.lines line) (position : ℕ) → 1 ≤ position → position ≤ total.asked.digits
      → HasWheel (total_item total.asked total.field.kind)
      (digit_wheel total.asked.wheel total.asked.digits (decimals_of total.field.kind) position)
  digit-on line total position from to =
      let on = on-wheels total.asked.wheel total.asked.digits (decimals_of total.field.kind) position from to in
      (on.0, omega (arith, on.1))

  -- the total of a digit's wire
  abbrev of-digit : (wire_line : Line) (group : Group) (v : ℕ)
      → DigitOf chart.lines plan wire_line.number wire_line.statement group v → TotalOn chart.lines wire_line
  of-digit wire_line group v d = record {
    asked = d.asked;
    field = d.field;
    says_total = d.says_total;
    amount = d.amount;
  }

  module _ (line : Line) (listed : Contains chart.lines line) (total : TotalOn chart.lines line) where
    abbrev pub units : ℕ
    units = units_wheel chart.lines line total

    -- a group that shows the units serves the first position of the total
    serves-units : (group : CounterGroup) → 1 ≤ total.asked.digits → ShowsUnits setup (level_number total.asked.level) units group
        → ServesPosition chart.lines plan line.number 1 (panel_group group) 1
    serves-units group some shows =
        let digit : ChartWire chart.lines plan (GX (panel_group group) 1) (W units) = (wired.wires (GX (panel_group group) 1) (W units)).0 shows.units in
        let d = digit-of chart.lines plan (panel_group group) units digit.wire refl refl in
        let reads : ChartWire chart.lines plan (PX (level_number total.asked.level) 3) (RO (panel_group group)) =
        (wired.wires (PX (level_number total.asked.level) 3) (RO (panel_group group))).0 shows.read_out in
        let r = read-out-of chart.lines plan (level_number total.asked.level) (panel_group group) reads.wire refl refl in
        let numbers = serves-own chart.lines plan planned digit.line.number reads.line.number (panel_group group)
        (position-serves chart.lines plan digit.line.number d.position (panel_group group) 1 d.served) r.served in
        let lines = line-by-number chart.lines chart.end digit.line reads.line rise digit.listed reads.listed numbers in
        let says_same : says.TotalAmount d.asked ≡ says.TotalAmount r.asked =
        sym d.says_total ∙ ap (λ (l : Line). l.statement) lines ∙ r.says_total in
        let levels : d.asked.level ≡ r.asked.level = cc in
        let same_level : level_number d.asked.level ≡ level_number total.asked.level = ap level_number levels ∙ r.at in
        let its = of-digit digit.line (panel_group group) units d in
        let here = one-line chart lawful line digit.line _ _ units listed digit.listed (its-item line total) (its-item digit.line its)
        (same-line total.asked.level d.asked.level (sym same_level)) (same-line d.asked.level total.asked.level same_level)
        (digit-on line total 1 (omega arith) some)
        (subst (HasWheel (total_item d.asked d.field.kind)) d.at (digit-on digit.line its d.position d.from d.to)) in
        let said : says.TotalAmount total.asked ≡ says.TotalAmount d.asked =
        sym total.says_total ∙ ap (λ (l : Line). l.statement) here ∙ d.says_total in
        let wheels : total.asked.wheel ≡ d.asked.wheel = cc in
        let names : total.asked.name ≡ d.asked.name = cc in
        let counts : total.asked.digits ≡ d.asked.digits = cc in
        let fields : total.field ≡ d.field =
        same_Some total.field d.field (sym total.amount.named ∙ ap (field_named chart.lines) names ∙ d.amount.named) in
        let at : digit_wheel total.asked.wheel total.asked.digits (decimals_of total.field.kind) 1
        ≡ digit_wheel total.asked.wheel total.asked.digits (decimals_of total.field.kind) d.position =
        sym d.at ∙ ap (λ w. digit_wheel w d.asked.digits (decimals_of d.field.kind) d.position) (sym wheels)
        ∙ ap (λ n. digit_wheel total.asked.wheel n (decimals_of d.field.kind) d.position) (sym counts)
        ∙ ap (λ (f : Field). digit_wheel total.asked.wheel total.asked.digits (decimals_of f.kind) d.position) (sym fields) in
        let position : 1 ≡ d.position =
        own-position total.asked.wheel total.asked.digits (decimals_of total.field.kind) 1 d.position (omega arith) some d.from
        (subst (λ n. d.position ≤ n) (sym counts) d.to) at in
        subst (λ n. ServesPosition chart.lines plan n 1 (panel_group group) 1) (ap (λ (l : Line). l.number) (sym here))
        (subst (λ p. ServesPosition chart.lines plan digit.line.number p (panel_group group) 1) (sym position) d.served)

    -- so it is the group of the units of the total's counter
    pub units-own : (counter : TotalCounter) → 1 ≤ total.asked.digits → counter_for chart.lines plan line.number ≡ Some counter
        → IsEnoughFor (need_of (field_named chart.lines total.asked.name) total.asked.digits) counter
        → (group : CounterGroup) → ShowsUnits setup (level_number total.asked.level) units group → group ≡ units_group counter
    units-own counter some served enough group shows =
        let serves = serves-units group some shows in
        by counter enough (subst (λ c. StandsAt c 1 (panel_group group) 1) (same_Some serves.counter counter (sym serves.there ∙ served)) serves.at.at)
      where
        by : (counter : TotalCounter) → IsEnoughFor (need_of (field_named chart.lines total.asked.name) total.asked.digits) counter
            → StandsAt counter 1 (panel_group group) 1 → group ≡ units_group counter
        by (of.Single own) enough stands = sym (same-group own group stands.0)
        by (of.Coupled lower upper) enough (inl stands) = sym (same-group lower group stands.0)
        by (of.Coupled lower upper) enough (inr stands) =
            let wide = enough.lower_width in
            let at = stands.1 in
            absurd (omega (arith, wide, at))

    -- and the carry names the upper group
    pub upper-own : (lower upper its : CounterGroup) → counter_for chart.lines plan line.number ≡ Some (of.Coupled lower upper)
        → CarriesTo setup lower its → its ≡ upper
    upper-own lower upper its served carries =
        let carry : ChartWire chart.lines plan (CO (panel_group lower)) (CI (panel_group its)) =
        (wired.wires (CO (panel_group lower)) (CI (panel_group its))).0 carries.carry in
        by (carry-of chart.lines plan (panel_group lower) (panel_group its) carry.wire refl refl)
      where
        its_own : ServesTotal chart.lines plan line.number (panel_group lower)
        its_own = record { counter = of.Coupled lower upper; there = served; has = inl refl }

        one-upper : (number : ℕ) (low high : CounterGroup) → counter_for chart.lines plan number ≡ Some (of.Coupled low high)
            → HasPanelGroup (of.Coupled low high) (panel_group lower) → high ≡ upper
        one-upper number low high there has =
            let same : number ≡ line.number =
            serves-own chart.lines plan planned number line.number (panel_group lower)
            (record { counter = of.Coupled low high; there = there; has = has }) its_own in
            let counters : Some (of.Coupled low high) ≡ Some (of.Coupled lower upper) =
            sym there ∙ ap (counter_for chart.lines plan) same ∙ served in
            cc

        by : {number : ℕ} → CarryOf chart.lines plan number (panel_group lower) (panel_group its) → its ≡ upper
        by {number} (up low high there is_low is_high) = sym (same-group high its is_high) ∙ one-upper number low high there (inl is_low)
        by (around same) = absurd (carries.apart (same-group lower its same))
        by {number} (round low high there is_high is_low) =
            absurd (pair-apart chart.lines plan planned line.number lower upper served
            (sym is_high ∙ ap panel_group (one-upper number low high there (inr is_high))))

    -- the wires that name the group of the units are there
    shows : (group : CounterGroup) → ServesTotal chart.lines plan line.number (panel_group group)
        → ServesPosition chart.lines plan line.number 1 (panel_group group) 1 → 1 ≤ total.asked.digits
        → ShowsUnits setup (level_number total.asked.level) units group
    shows group serves position some = record {
      read_out = asks wired line listed total.says_total (read_out total.asked (panel_group group) serves);
      units = asks wired line listed total.says_total
          (total_digit total.asked total.field (panel_group group) 1 1 position total.amount (omega arith) some);
    }

    -- so the counter of the plan is shown
    pub its-shown : (counter : TotalCounter) → 1 ≤ total.asked.digits → counter_for chart.lines plan line.number ≡ Some counter
        → HasCounter standard counter → IsEnoughFor (need_of (field_named chart.lines total.asked.name) total.asked.digits) counter
        → IsShown setup (level_number total.asked.level) units (need_of (field_named chart.lines total.asked.name) total.asked.digits) counter
    its-shown (of.Single own) some served there enough =
        let wide : 1 ≤ own.width = omega (arith, some, enough) in
        let most = width-most own there in (
          omega (arith, enough, most),
          there,
          shows own (record { counter = of.Single own; there = served; has = refl })
              (record { counter = of.Single own; there = served; at = record { from = omega arith; to = wide; at = (refl, refl) } }) some,
        )
    its-shown (of.Coupled lower upper) some served there enough =
        let width = enough.lower_width in (
          enough.from,
          there.0,
          there.1,
          shows lower (record { counter = of.Coupled lower upper; there = served; has = inl refl })
              (record {
                counter = of.Coupled lower upper;
                there = served;
                at = record { from = omega arith; to = omega (arith, width); at = inl (refl, refl) };
              }) some,
          record {
            apart = λ same. pair-apart chart.lines plan planned line.number lower upper served (ap panel_group same);
            carry = (wired.wires (CO (panel_group lower)) (CI (panel_group upper))).1 (record {
              line = line;
              listed = listed;
              wire = subst (λ s. LineWire chart.lines plan line.number s (CO (panel_group lower)) (CI (panel_group upper))) (sym total.says_total)
                  (carry_up total.asked lower upper served);
            });
          },
        )

    -- and no other is
    pub only-shown : (counter other : TotalCounter) → 1 ≤ total.asked.digits → counter_for chart.lines plan line.number ≡ Some counter
        → HasCounter standard counter → IsEnoughFor (need_of (field_named chart.lines total.asked.name) total.asked.digits) counter
        → IsShown setup (level_number total.asked.level) units (need_of (field_named chart.lines total.asked.name) total.asked.digits) other → other ≡ counter
    only-shown (of.Single own) (of.Single group) some served there enough (narrow, of_machine, its) =
        ap of.Single (units-own (of.Single own) some served enough group its)
    only-shown (of.Single own) (of.Coupled low high) some served there enough (wide, low_there, high_there, its, carries) =
        let most = width-most own there in
        absurd (omega (arith, wide, enough, most))
    only-shown (of.Coupled lower upper) (of.Single group) some served there enough (narrow, of_machine, its) =
        let more = enough.from in
        absurd (omega (arith, narrow, more))
    only-shown (of.Coupled lower upper) (of.Coupled low high) some served there enough (wide, low_there, high_there, its, carries) =
        let lows : low ≡ lower = units-own (of.Coupled lower upper) some served enough low its in
        let highs : high ≡ upper = upper-own lower upper high served (subst (λ g. CarriesTo setup g high) lows carries) in
        ap (λ g. of.Coupled g high) lows ∙ ap (of.Coupled lower) highs
