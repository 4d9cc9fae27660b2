-- What is entered spells what is asked: the number of a card, the number of the total itself, or that of the next lower total.
use Rattle.std.proofs.Common.{◌≡◌, ◌∙◌, refl, sym, ap, subst, ℕ, ◌+◌, ◌-◌, ◌^◌, ◌<◌, ◌≤◌, ◌==◌, nat_le, ◌&&◌, Bool, true, false, List, Contains, Some, length, All, arith, option_map, inl, inr}
use Rattle.std.proofs.lemmas.Bool.Decides.{nat_tests}
use Rattle.std.proofs.lemmas.Option.{same_Some, slice_get_read}
use Rattle.proof_cycles.proofs.TotalsWords.CounterCycles.DigitLemmas.{digit_of-above, digit_of-below, number-within}
use Rattle.proof_cycles.proofs.TotalsWords.CounterCycles.PairLemmas.{digit_of-above_width}
use Rattle.std.proofs.lemmas.Nat.{div-mul-add}
use Rattle.proof_cycles.proofs.TotalsWords.CounterCycles.ShownLemmas.{digits-tell}
use Rattle.proof_cycles.specs.TotalsWords.CounterCycles.Acts.{digit_of}
use Rattle.proof_reports.specs.Below.chart_plans.PlansWords.Plans.{Lists}
use Rattle.proof_reports.specs.Below.card_code.CardCode.{has_row}
use Rattle.proof_reports.specs.Below.card_code.Rows.{row_number}
use Rattle.proof_reports.specs.Below.card_code.declared.row.Row.{Row as CardRow}
use Rattle.proof_reports.proofs.Below.chart_rules.Laws.{AreOnCard-lawful}
use Rattle.proof_reports.specs.Below.chart_line_rules.FieldRules.Fields.{field_named, fields_of}
use Rattle.proof_reports.specs.Below.chart_rules.HelperOnCard.{IsOnCard}
use Rattle.proof_reports.specs.Below.chart_rules.Rules.{IsLawful}
use Rattle.proof_reports.specs.Below.chart_rules.ValidCard.{column_of}
use Rattle.proof_reports.specs.Below.chart_lines.ChartsWords.Chart.{Chart, NumbersRise}
use Rattle.proof_reports.specs.Below.chart_lines.ChartsWords.Field.{columns_of}
use Rattle.proof_reports.specs.Below.chart_lines.ChartsWords.Name.{is_same_name}
use Rattle.proof_reports.specs.Below.chart_lines.declared.charts.statement.Field.{Field}
use Rattle.proof_reports.specs.Below.chart_lines.declared.charts.statement.SignRule.{SignRule}
use Rattle.proof_cycles.specs.Below.counters.Counters.{Counter}
use Rattle.proof_cycles.specs.Below.counters.Laws.{IsCounter}
use Rattle.proof_cycles.specs.Below.counters.Numbers.{number}
use Rattle.proof_reports.specs.Below.hubs.HubTable.Ranges.{is_within}
use Rattle.proof_reports.specs.Below.hubs.SetupsWords.Wiring.{Wiring}
use Rattle.proof_reports.specs.Below.hubs.declared.hub.Group.{Group}
use Rattle.proof_reports.specs.Below.hubs.declared.hub.Hub.{Hub}
use Rattle.proof_reports.specs.Below.hubs.declared.hub.Hub.TheVariants.{GE, RO}
use Rattle.proof_reports.specs.Below.machine.Machine.{MachineState}
use Rattle.proof_cycles.specs.Below.net.Cycles.{level_number}
use Rattle.proof_cycles.specs.Below.net.declared.cycle.Cycle.{Cycle}
use Rattle.proof_cycles.specs.Below.net.declared.cycle.Cycle.TheVariants.{Card, Prog}
use Rattle.proof_cycles.specs.Below.net.declared.cycle.ProgramLevel.{ProgramLevel}
use Rattle.proof_cycles.specs.Below.net.declared.cycle.Ordinal.TheVariants.{Second, Third}
use Rattle.proof_cycles.specs.Below.net.declared.cycle.Point.{Point}
use Rattle.proof_cycles.specs.Below.net.declared.cycle.Point.TheVariants.{C, Row}
use Rattle.report_definition.specs.Amounts.{digits_on, number_in}
use Rattle.proof_reports.specs.Below.stations.Punches.{is_punched_at, is_punched}
use Rattle.proof_cycles.specs.WholeCycles.Between.{IsIdle}
use Rattle.proof_cycles.specs.WholeCycles.Units.{group_at}
use Rattle.wiring_table.specs.Figures.{IsAmount, IsSigned}
use Rattle.wiring_table.proofs.Groups.{position-given, position-serves}
use Rattle.wiring_table.proofs.Totals.{one-total}
use Rattle.proof_reports.specs.Below.chart_plans.declared.plans.counter.TotalCounter.{TotalCounter}
use Rattle.proof_reports.specs.Below.chart_plans.declared.plans.counter.TotalCounter.TheVariants as of
use Rattle.wiring_table.specs.Parts.{HasPanelGroup, HasTotal, IsLowest, IsPlaceOf, ServesPosition, ServesTotal, StandsAt, counter_for, panel_group, top_group}
use Rattle.proof_reports.proofs.WiredPanels.Ways.{same_tests}
use Rattle.proof_reports.proofs.WiredPanels.CycleAsks.CounterAsksCards.{number_small, position_digit, column_row, few_digits}
use Rattle.proof_reports.proofs.WiredPanels.CounterAsksControls.{shut, ReadsOut, read_is}
use Rattle.proof_reports.proofs.WiredPanels.CounterAsksControls.ReadsOut.{shows_it, turns_it}
use Rattle.proof_reports.proofs.WiredPanels.CounterAsksGiven.{gives_read}
use Rattle.proof_reports.proofs.WiredPanels.CounterAsksRows.{ReadsDigit, Enters, enters_is, gives_entry}
use Rattle.proof_reports.proofs.WiredPanels.CounterAsksRows.Enters.{card as enters_card, own_digit, lower_digit}
use Rattle.proof_reports.proofs.WiredPanels.CounterAsksTold.{IsUnder}
use Rattle.proof_reports.proofs.WiredPanels.CounterUnits.{counter_there, planned_unit}
use Rattle.proof_reports.proofs.Below.chart_lines.ChartsWords.Listed.{found-listed}
use Rattle.proof_reports.proofs.WiredPanels.PlanOwners.{of_place}
use Rattle.proof_reports.specs.WiredPanels.Groups.{IsCounterOf, IsGroupOf, IsPlaceFor}
use Rattle.proof_reports.specs.WiredPanels.PanelCycles.{IsPanelCycle, IsCardRead}
use Rattle.proof_reports.proofs.WiredPanels.CycleAsks.Counters.{SpellsCounter, grouped, number_at, place_has, placed, places_spell, position_some, same_position}
use Rattle.proof_reports.specs.WiredPanels.CycleAsks.CounterStates.{number_held}
use Rattle.proof_reports.proofs.WiredPanels.CycleAsks.WheelRowsUnits.{group-own}

-- tests
second_holds : (a b : Bool) → (a && b) ≡ true → b ≡ true
second_holds true b on = on
second_holds false b on = cc

-- the field of a name is on the card
pub field_on_card : (chart : Chart) (name : List ℕ) (field : Field) → IsLawful chart → field_named chart.lines name ≡ Some field → IsOnCard field
field_on_card chart name field lawful named =
    let ((k, within, is), same) = found-listed (λ (f : Field). is_same_name f.name name) (fields_of chart.lines) field named in
    AreOnCard-lawful chart lawful k field
    (slice_get_read (fields_of chart.lines) (length (fields_of chart.lines)) k field refl within (sym is))

-- a group of the machine is a counter
is_counter : (groups : List Counter) (counter : Counter) → All IsIdle groups → Contains groups counter → IsCounter counter
is_counter groups counter all (k, within, is) = subst IsCounter is (all k counter within).lawful

module _ (chart : Chart) (plan : Lists) (wiring : Wiring) (old : MachineState) (cycle : Cycle) (pictures : Point → Hub → Bool)
    (at : IsPanelCycle chart plan wiring old cycle pictures) where
  -- the number in a group is that of its counter
  pub number_is : (counter : Counter) (group : Group) → Contains old.groups counter → counter.name ≡ group
      → number_at old group ≡ number counter.digits
  number_is counter group listed named =
      ap (number_at old) (sym named) ∙ ap (λ (c : Counter). number c.digits) (sym (group-own old at.between counter listed))

  -- a digit that is read out is one of the number in the group
  digit_read : (row : CardRow) (group : Group) (position : ℕ) → ReadsDigit old pictures row group position
      → (digit_of (number_at old group) position == row_number row) ≡ true
  digit_read row group position reads =
      let lawful = is_counter old.groups reads.counter at.between.groups reads.listed in
      let told = digits-tell.of_list reads.counter.digits position lawful.digits reads.from reads.to in
      let is : digit_of (number_at old group) position ≡ row_number row =
      ap (λ n. digit_of n position) (number_is reads.counter group reads.listed reads.named) ∙ sym told ∙ reads.is in
      grind (arith, nat_tests, is)

  -- and a digit of the number in a group that reads out is read out
  read_digit : (row : CardRow) (group : Group) (position number : ℕ) → 1 ≤ row_number row → 1 ≤ position
      → ServesTotal chart.lines plan number group → pictures C (RO group) ≡ true
      → (digit_of (number_at old group) position == row_number row) ≡ true → ReadsDigit old pictures row group position
  read_digit row group position line some from served reads same =
      let (counter, listed, named) =
      counter_there old.groups group at.between.ordered (planned_unit chart.lines plan line group at.panel.planned served) in
      by counter listed named (nat_le position (length counter.digits)) refl
    where
      by : (counter : Counter) → Contains old.groups counter → counter.name ≡ group → (b : Bool)
          → nat_le position (length counter.digits) ≡ b → ReadsDigit old pictures row group position
      by counter listed named true within =
          let lawful = is_counter old.groups counter at.between.groups listed in
          let to : position ≤ length counter.digits = grind (arith, nat_tests, within) in
          let told = digits-tell.of_list counter.digits position lawful.digits from to in
          let is : digit_of (number_at old group) position ≡ row_number row = grind (arith, nat_tests, same) in
          record {
            counter = counter;
            listed = listed;
            named = named;
            reads = reads;
            from = from;
            to = to;
            is = told ∙ ap (λ n. digit_of n position) (sym (number_is counter group listed named)) ∙ is;
          }
      by counter listed named false above =
          let lawful = is_counter old.groups counter at.between.groups listed in
          let is : digit_of (number_at old group) position ≡ row_number row = grind (arith, nat_tests, same) in
          let more : counter.name.width < position = let long = lawful.positions in grind (arith, nat_tests, above, long) in
          let none = digit_of-above (number counter.digits) counter.name.width position (number-within counter lawful) more in
          let zero_digit : digit_of (number_at old group) position ≡ 0 =
          ap (λ n. digit_of n position) (number_is counter group listed named) ∙ none in
          absurd (omega (arith, zero_digit, is, some))

  -- a group of the plan holds a number of as many digits as it has positions
  within_group : (number : ℕ) (group : Group) → ServesTotal chart.lines plan number group → number_at old group < 10 ^ group.width
  within_group line group serves =
      let (counter, listed, named) =
      counter_there old.groups group at.between.ordered (planned_unit chart.lines plan line group at.panel.planned serves) in
      let lawful = is_counter old.groups counter at.between.groups listed in
      subst (λ n. n < 10 ^ group.width) (sym (number_is counter group listed named))
      (subst (λ (g : Group). number counter.digits < 10 ^ g.width) named (number-within counter lawful))

  -- and it has as many digits as positions
  group_long : (number : ℕ) (group : Group) → ServesTotal chart.lines plan number group → length (group_at old group).digits ≡ group.width
  group_long line group serves =
      let (counter, listed, named) =
      counter_there old.groups group at.between.ordered (planned_unit chart.lines plan line group at.panel.planned serves) in
      let lawful = is_counter old.groups counter at.between.groups listed in
      ap (λ (g : Group). length (group_at old g).digits) (sym named)
      ∙ ap (λ (c : Counter). length c.digits) (sym (group-own old at.between counter listed))
      ∙ lawful.positions ∙ ap (λ (g : Group). g.width) named

  -- the digits of the number in a counter are those of its groups, at their places
  pub counter_digit : (number : ℕ) (counter : TotalCounter) → counter_for chart.lines plan number ≡ Some counter
      → (position : ℕ) (group : Group) (place : ℕ) → IsPlaceOf counter position group place
      → digit_of (number_held old counter) position ≡ digit_of (number_at old group) place
  counter_digit line counter there position group place is = by counter there is.from is.to is.at
    where
      by : (its : TotalCounter) → counter_for chart.lines plan line ≡ Some its → 1 ≤ place → place ≤ group.width
          → StandsAt its position group place
          → digit_of (number_held old its) position ≡ digit_of (number_at old group) place
      by (of.Single own) served from to stands =
          ap (λ g. digit_of (number_at old g) position) stands.0 ∙ ap (digit_of (number_at old group)) stands.1
      by (of.Coupled lower upper) served from to (inl stands) =
          let same = stands.1 in
          let long = group_long line (panel_group lower) (record { counter = of.Coupled lower upper; there = served; has = inl refl }) in
          let width : lower.width ≡ group.width = ap (λ (g : Group). g.width) stands.0 in
          digit_of-below (number_at old (panel_group upper)) (number_at old (panel_group lower))
          (length (group_at old (panel_group lower)).digits) position (omega (arith, same, from)) (omega (arith, same, to, width, long))
          ∙ ap (λ g. digit_of (number_at old g) position) stands.0 ∙ ap (digit_of (number_at old group)) same
      by (of.Coupled lower upper) served from to (inr stands) =
          let lower_serves : ServesTotal chart.lines plan line (panel_group lower)
          = record { counter = of.Coupled lower upper; there = served; has = inl refl } in
          let long = group_long line (panel_group lower) lower_serves in
          let small : number_at old (panel_group lower) < 10 ^ length (group_at old (panel_group lower)).digits
          = subst (λ w. number_at old (panel_group lower) < 10 ^ w) (sym long) (within_group line (panel_group lower) lower_serves) in
          ap (digit_of (number_held old (of.Coupled lower upper))) (stands.1 ∙ ap (λ w. w + place) (sym long))
          ∙ digit_of-above_width (number_held old (of.Coupled lower upper)) (length (group_at old (panel_group lower)).digits) place from
          ∙ ap (λ n. digit_of n place) (div-mul-add (number_at old (panel_group upper))
          (10 ^ length (group_at old (panel_group lower)).digits) (number_at old (panel_group lower)) small)
          ∙ ap (λ g. digit_of (number_at old g) place) stands.0

module _ (chart : Chart) (plan : Lists) (wiring : Wiring) (rise : NumbersRise chart.lines chart.end) (old : MachineState)
    (pictures : Point → Hub → Bool) (name : List ℕ) (level : ℕ) (group : Group) (own : IsGroupOf chart.lines plan name level group) where
  -- no total reads out in a card cycle
  pub card_silent : IsPanelCycle chart plan wiring old Card pictures → pictures C (RO group) ≡ true → ⊥
  card_silent at on = by (read_is chart plan wiring old Card pictures at rise name level group own
      (top_group own.served.counter) (ap (option_map top_group) own.served.there) on)
    where
      by : ReadsOut chart.lines (shut old Card) Card name level (top_group own.served.counter) → ⊥
      by (shows_it is) = is
      by (turns_it rule is its_sign closed) = is

  -- in the second and third program cycles of a level no total of another level reads out
  pub second_reads : (l : ProgramLevel) → IsPanelCycle chart plan wiring old (Prog l Second) pictures → pictures C (RO group) ≡ true
      → level_number l ≡ level
  second_reads l at on = by (read_is chart plan wiring old (Prog l Second) pictures at rise name level group own
      (top_group own.served.counter) (ap (option_map top_group) own.served.there) on)
    where
      by : ReadsOut chart.lines (shut old (Prog l Second)) (Prog l Second) name level (top_group own.served.counter) → level_number l ≡ level
      by (shows_it is) = is.0
      by (turns_it rule is its_sign closed) = is.0

  pub third_reads : (l : ProgramLevel) → IsPanelCycle chart plan wiring old (Prog l Third) pictures → pictures C (RO group) ≡ true
      → level_number l ≡ level
  third_reads l at on = by (read_is chart plan wiring old (Prog l Third) pictures at rise name level group own
      (top_group own.served.counter) (ap (option_map top_group) own.served.there) on)
    where
      by : ReadsOut chart.lines (shut old (Prog l Third)) (Prog l Third) name level (top_group own.served.counter) → level_number l ≡ level
      by (shows_it is) = is.0
      by (turns_it rule is its_sign closed) = is.0

module _ (chart : Chart) (plan : Lists) (wiring : Wiring) (rise : NumbersRise chart.lines chart.end) (old : MachineState)
    (pictures : Point → Hub → Bool) (name : List ℕ) (level : ℕ) (counter : TotalCounter)
    (own : IsCounterOf chart.lines plan name level counter) where
  -- a card enters its number
  card_enters : IsPanelCycle chart plan wiring old Card pictures → (card : List ℕ) → IsCardRead chart plan old card
      → (field : Field) → IsAmount chart.lines name field → IsLowest chart.lines name level
      → (row : CardRow) → 1 ≤ row_number row → row_number row ≤ 9 → (position : ℕ) (group : Group) (place : ℕ)
      → IsPlaceOf counter position group place
      → pictures (Row row) (GE group place) ≡ (digit_of (number_in (digits_on field card)) position == row_number row)
  card_enters at card read field amount low row some few position group place at_place =
      same_tests _ _
      (λ on. told (enters_is chart plan wiring old Card pictures at rise name level group its_group row place on)) given
    where
      its_group : IsGroupOf chart.lines plan name level group
      its_group = grouped chart.lines plan own group (place_has counter position group place at_place)

      from : 1 ≤ position
      from = position_some counter position group place at_place

      on_card : IsOnCard field
      on_card = field_on_card chart name field at.panel.lawful amount.named

      -- the row of a column
      row_of_digit : position ≤ columns_of field → has_row (column_of card (field.last + 1 - position)) (row_number row)
          ≡ (digit_of (number_in (digits_on field card)) position == row_number row)
      row_of_digit within =
          let order = on_card.order in
          let first = from in
          column_row (column_of card (field.last + 1 - position)) row some few
          (few_digits chart card name field (field.last + 1 - position) read.valid amount (omega (arith, first, within))
          (omega (arith, first, within, order)))
          ∙ ap (λ d. d == row_number row) (sym (position_digit field card position from within))

      told_card : (its : Field) → Card ≡ Card → IsAmount chart.lines name its → position ≤ columns_of its
          → is_punched_at old.stations.second row (its.last + 1 - position) ≡ true
          → (digit_of (number_in (digits_on field card)) position == row_number row) ≡ true
      told_card its is its_amount within punched =
          let same_some : Some its ≡ Some field = sym its_amount.named ∙ amount.named in
          let same : its ≡ field = cc in
          let on : is_punched card row (its.last + 1 - position) ≡ true =
          sym (ap (λ o. is_punched_at o row (its.last + 1 - position)) read.second) ∙ punched in
          let there : has_row (column_of card (field.last + 1 - position)) (row_number row) ≡ true =
          ap (λ (f : Field). has_row (column_of card (f.last + 1 - position)) (row_number row)) (sym same)
          ∙ second_holds (is_within (its.last + 1 - position) 80) _ on in
          sym (row_of_digit (subst (λ (f : Field). position ≤ columns_of f) same within)) ∙ there

      told : Enters chart.lines plan old pictures Card row name level group place
          → (digit_of (number_in (digits_on field card)) position == row_number row) ≡ true
      told (enters_card its its_position its_place is lowest its_amount its_from within punched) =
          let same = same_position chart.lines plan at.panel.planned its_place (placed chart.lines plan own position group place at_place) in
          told_card its is its_amount (subst (λ p. p ≤ columns_of its) same within)
          (subst (λ p. is_punched_at old.stations.second row (its.last + 1 - p) ≡ true) same punched)
      told (own_digit rule its_sign its_from its_to reads) =
          absurd (card_silent chart plan wiring rise old pictures name level group its_group at reads.reads)
      told (lower_digit lower_level its_position lower lower_place under its_place lower_at its_to its_from reads) =
          absurd (card_silent chart plan wiring rise old pictures name lower_level lower (of_place chart.lines plan lower_at) at reads.reads)

      given : (digit_of (number_in (digits_on field card)) position == row_number row) ≡ true
          → pictures (Row row) (GE group place) ≡ true
      given same =
          gives_entry chart plan wiring old Card pictures at rise name level group its_group row place
          (by (nat_le position (columns_of field)) refl)
        where
          is : digit_of (number_in (digits_on field card)) position ≡ row_number row
          is = grind (arith, nat_tests, same)

          by : (b : Bool) → nat_le position (columns_of field) ≡ b → Enters chart.lines plan old pictures Card row name level group place
          by false above =
              let more : columns_of field < position = grind (arith, nat_tests, above) in
              let none = digit_of-above (number_in (digits_on field card)) (columns_of field) position (number_small field card) more in
              absurd (omega (arith, none, is, some))
          by true below =
              let within : position ≤ columns_of field = grind (arith, nat_tests, below) in
              let first = from in
              let first_column = on_card.from in
              let order = on_card.order in
              let last_column = on_card.to in
              let low_end : 1 ≤ field.last + 1 - position = omega (arith, first, within, first_column, order) in
              let high_end : field.last + 1 - position ≤ 80 = omega (arith, first, within, last_column) in
              let column : is_within (field.last + 1 - position) 80 ≡ true = grind (arith, nat_tests, low_end, high_end) in
              let punched : is_punched card row (field.last + 1 - position) ≡ true =
              rw (column, row_of_digit within ∙ same) refl in
              enters_card field position (placed chart.lines plan own position group place at_place) refl low amount from within
              (ap (λ o. is_punched_at o row (field.last + 1 - position)) read.second ∙ punched)

  pub card_spells : IsPanelCycle chart plan wiring old Card pictures → (card : List ℕ) → IsCardRead chart plan old card
      → (field : Field) → IsAmount chart.lines name field → IsLowest chart.lines name level
      → SpellsCounter counter (digit_of (number_in (digits_on field card))) pictures
  card_spells at card read field amount low =
      places_spell counter (digit_of (number_in (digits_on field card))) pictures (card_enters at card read field amount low)

  -- in the second program cycle of its level a total enters its own number
  turn_enters : (l : ProgramLevel) → IsPanelCycle chart plan wiring old (Prog l Second) pictures → level_number l ≡ level
      → (rule : SignRule) → IsSigned chart.lines name rule
      → ((group : Group) → HasPanelGroup counter group → pictures C (RO group) ≡ true)
      → (row : CardRow) → 1 ≤ row_number row → row_number row ≤ 9 → (position : ℕ) (group : Group) (place : ℕ)
      → IsPlaceOf counter position group place
      → pictures (Row row) (GE group place) ≡ (digit_of (number_held old counter) position == row_number row)
  turn_enters l at is_level rule its_sign reads_out row some few position group place at_place =
      same_tests _ _
      (λ on. ap (λ d. d == row_number row) its_digit
      ∙ told (enters_is chart plan wiring old (Prog l Second) pictures at rise name level group its_group row place on))
      (λ same. given (sym (ap (λ d. d == row_number row) its_digit) ∙ same))
    where
      has : HasPanelGroup counter group
      has = place_has counter position group place at_place

      its_group : IsGroupOf chart.lines plan name level group
      its_group = grouped chart.lines plan own group has

      its_digit : digit_of (number_held old counter) position ≡ digit_of (number_at old group) place
      its_digit = counter_digit chart plan wiring old (Prog l Second) pictures at own.number counter own.served position group place at_place

      told : Enters chart.lines plan old pictures (Prog l Second) row name level group place
          → (digit_of (number_at old group) place == row_number row) ≡ true
      told (enters_card its its_position its_place is lowest its_amount its_from within punched) = cc
      told (own_digit its_rule signed its_from its_to reads) =
          digit_read chart plan wiring old (Prog l Second) pictures at row group place reads
      told (lower_digit low its_position lower lower_place under its_place lower_at its_to its_from reads) =
          let same = second_reads chart plan wiring rise old pictures name low lower (of_place chart.lines plan lower_at) l at reads.reads in
          let below = under.below in
          absurd (omega (arith, same, is_level, below))

      given : (digit_of (number_at old group) place == row_number row) ≡ true → pictures (Row row) (GE group place) ≡ true
      given same =
          gives_entry chart plan wiring old (Prog l Second) pictures at rise name level group its_group row place
          (own_digit rule its_sign at_place.from at_place.to
          (read_digit chart plan wiring old (Prog l Second) pictures at row group place own.number some at_place.from
          (record { counter = counter; there = own.served; has = has }) (reads_out group has) same))

  pub turn_spells : (l : ProgramLevel) → IsPanelCycle chart plan wiring old (Prog l Second) pictures → level_number l ≡ level
      → (rule : SignRule) → IsSigned chart.lines name rule
      → ((group : Group) → HasPanelGroup counter group → pictures C (RO group) ≡ true)
      → SpellsCounter counter (digit_of (number_held old counter)) pictures
  turn_spells l at is_level rule its_sign reads_out =
      places_spell counter (digit_of (number_held old counter)) pictures (turn_enters l at is_level rule its_sign reads_out)

  -- in the third program cycle of a lower level a total enters the number of the lower one, if that has no more digits than it may
  up_enters : (l : ProgramLevel) → IsPanelCycle chart plan wiring old (Prog l Third) pictures
      → (under : IsUnder chart.lines name (level_number l) level) (lower : TotalCounter)
      → counter_for chart.lines plan under.number ≡ Some lower → number_held old lower < 10 ^ under.total.asked.digits
      → (row : CardRow) → 1 ≤ row_number row → row_number row ≤ 9 → (position : ℕ) (group : Group) (place : ℕ)
      → IsPlaceOf counter position group place
      → pictures (Row row) (GE group place) ≡ (digit_of (number_held old lower) position == row_number row)
  up_enters l at under lower lower_there small row some few position group place at_place =
      same_tests _ _
      (λ on. told (enters_is chart plan wiring old (Prog l Third) pictures at rise name level group its_group row place on)) given
    where
      its_group : IsGroupOf chart.lines plan name level group
      its_group = grouped chart.lines plan own group (place_has counter position group place at_place)

      its_place : IsPlaceFor chart.lines plan name level position group place
      its_place = placed chart.lines plan own position group place at_place

      -- the digit of the lower total at a position
      lower_is : (its_position : ℕ) (other : Group) (other_place : ℕ) → ServesPosition chart.lines plan under.number its_position other other_place
          → digit_of (number_held old lower) its_position ≡ digit_of (number_at old other) other_place
      lower_is its_position other other_place serves =
          counter_digit chart plan wiring old (Prog l Third) pictures at under.number lower lower_there its_position other other_place
          (subst (λ c. IsPlaceOf c its_position other other_place) (same_Some serves.counter lower (sym serves.there ∙ lower_there)) serves.at)

      told : Enters chart.lines plan old pictures (Prog l Third) row name level group place
          → (digit_of (number_held old lower) position == row_number row) ≡ true
      told (enters_card its its_position at_it is lowest its_amount its_from within punched) = cc
      told (own_digit its_rule signed its_from its_to reads) =
          let same = third_reads chart plan wiring rise old pictures name level group its_group l at reads.reads in
          let below = under.below in
          absurd (omega (arith, same, below))
      told (lower_digit low its_position other other_place its_under at_it other_at its_to its_from reads) =
          let same = third_reads chart plan wiring rise old pictures name low other (of_place chart.lines plan other_at) l at reads.reads in
          let total = subst (λ k. HasTotal chart.lines name k other_at.number) (sym same) other_at.total in
          let numbers = one-total chart name at.panel.lawful (level_number l) other_at.number under.number total under.total in
          let serves = subst (λ n. ServesPosition chart.lines plan n its_position other other_place) numbers other_at.served in
          let positions = same_position chart.lines plan at.panel.planned at_it its_place in
          subst (λ p. (digit_of (number_held old lower) p == row_number row) ≡ true) positions
          (ap (λ d. d == row_number row) (lower_is its_position other other_place serves)
          ∙ digit_read chart plan wiring old (Prog l Third) pictures at row other other_place reads)

      given : (digit_of (number_held old lower) position == row_number row) ≡ true → pictures (Row row) (GE group place) ≡ true
      given same =
          gives_entry chart plan wiring old (Prog l Third) pictures at rise name level group its_group row place
          (by (nat_le position under.total.asked.digits) refl)
        where
          is : digit_of (number_held old lower) position ≡ row_number row
          is = grind (arith, nat_tests, same)

          from : 1 ≤ position
          from = position_some counter position group place at_place

          by : (b : Bool) → nat_le position under.total.asked.digits ≡ b
              → Enters chart.lines plan old pictures (Prog l Third) row name level group place
          by false above =
              let more : under.total.asked.digits < position = grind (arith, nat_tests, above) in
              let none = digit_of-above (number_held old lower) under.total.asked.digits position small more in
              absurd (omega (arith, none, is, some))
          by true below =
              let within : position ≤ under.total.asked.digits = grind (arith, nat_tests, below) in
              let (other, other_place, serves) = position-given chart.lines plan at.panel.planned chart.end name (level_number l) under.number
              lower rise under.total lower_there position from within in
              let other_serves = position-serves chart.lines plan under.number position other other_place serves in
              let other_own : IsGroupOf chart.lines plan name (level_number l) other =
              record { number = under.number; total = under.total; served = other_serves } in
              let reads_out = gives_read chart plan wiring old (Prog l Third) pictures at rise name (level_number l) other other_own
              (top_group other_serves.counter) (ap (option_map top_group) other_serves.there) (shows_it (refl, refl)) in
              lower_digit (level_number l) position other other_place under its_place
              (record { number = under.number; total = under.total; served = serves }) within from
              (read_digit chart plan wiring old (Prog l Third) pictures at row other other_place under.number some serves.at.from other_serves
              reads_out (ap (λ d. d == row_number row) (sym (lower_is position other other_place serves)) ∙ same))

  pub up_spells : (l : ProgramLevel) → IsPanelCycle chart plan wiring old (Prog l Third) pictures
      → (under : IsUnder chart.lines name (level_number l) level) (lower : TotalCounter)
      → counter_for chart.lines plan under.number ≡ Some lower → number_held old lower < 10 ^ under.total.asked.digits
      → SpellsCounter counter (digit_of (number_held old lower)) pictures
  up_spells l at under lower lower_there small =
      places_spell counter (digit_of (number_held old lower)) pictures (up_enters l at under lower lower_there small)
