-- How the pilots of a panel stand after a cycle that reads the card at first reading: by the sign columns of that card.
use Rattle.std.proofs.Common.{◌≡◌, ◌∙◌, refl, sym, ap, subst, ℕ, ◌-◌, ◌&&◌, Bool, true, false, List, Contains, Option, Some, None, option_map, ◌↔◌, if◌then◌else◌, slice_index, ◌+◌}
use Rattle.wiring_table.specs.Below.chart_plans.PlansWords.Plans.{Lists}
use Rattle.proof_cycles.specs.Below.card_code.CardCode.{has_row}
use Rattle.proof_cycles.specs.Below.card_code.declared.row.Row.{Row as CardRow}
use Rattle.proof_cycles.specs.Below.card_code.declared.row.Row.TheVariants.{Eleven}
use Rattle.wiring_table.specs.Below.chart_line_rules.FieldRules.Fields.{field_named}
use Rattle.wiring_table.specs.Below.chart_rules.ValidCard.{column_of}
use Rattle.wiring_table.specs.Below.chart_lines.ChartsWords.Chart.{Chart}
use Rattle.wiring_table.specs.Below.chart_lines.ChartsWords.Field.{column_of_rule}
use Rattle.wiring_table.specs.Below.chart_lines.declared.charts.chart.Line.{Line}
use Rattle.wiring_table.specs.Below.chart_lines.declared.charts.statement.Field.{Field}
use Rattle.wiring_table.specs.Below.chart_lines.declared.charts.statement.SignRule.{SignRule}
use Rattle.wiring_table.specs.Below.chart_lines.declared.charts.statement.Statement.{Statement}
use Rattle.proof_cycles.specs.Below.hubs.HubTable.Ranges.{is_within}
use Rattle.wiring_table.specs.Below.hubs.SetupsWords.Wiring.{Wiring}
use Rattle.proof_cycles.specs.Below.hubs.declared.hub.Hub.{Hub}
use Rattle.proof_cycles.specs.Below.hubs.declared.hub.Hub.TheVariants.{FR, SR, PIX}
use Rattle.proof_cycles.specs.Below.machine.Machine.{MachineState}
use Rattle.proof_cycles.specs.Below.net.declared.cycle.Cycle.{Cycle}
use Rattle.proof_cycles.specs.Below.net.declared.cycle.Cycle.TheVariants.{RunIn, Card, Prog, Head}
use Rattle.proof_cycles.specs.Below.net.declared.cycle.Point.{Point}
use Rattle.proof_cycles.specs.Below.net.declared.cycle.Point.TheVariants.{Row}
use Rattle.proof_cycles.proofs.Below.selectors.LawLemmas.{pilots_moved, pilots_left}
use Rattle.proof_cycles.specs.Below.selectors.Pilots.{is_transferred, moves_pilots}
use Rattle.proof_cycles.specs.Below.selectors.WholeCycles.{after_cycle}
use Rattle.proof_cycles.specs.Below.stations.Punches.{is_punched_at}
use Rattle.wiring_table.specs.Figures.{rule_of}
use Rattle.wiring_table.specs.Parts.{pilot_for}
use Rattle.wiring_table.specs.Wires.{LineWire, ChartWire}
use Rattle.wiring_table.specs.Wires.LineWire.{pickup}
use Rattle.wiring_table.proofs.ChartLines.{field-own}
use Rattle.proof_reports.proofs.WiredPanels.Ways.{same_tests}
use Rattle.wiring_table.proofs.Parts.{pilot-own}
use Rattle.wiring_table.proofs.Below.chart_rules.Laws.{field-line}
use Rattle.proof_reports.proofs.WiredPanels.Straight.{at_row}
use Rattle.proof_reports.specs.WiredPanels.PanelCycles.{IsPanelCycle, ArrivesAtRow, PilotsTellSigns, has_sign}
use Rattle.proof_reports.specs.WiredPanels.Sources.{EmitsAtRow, ReadsFirst}
use Rattle.proof_reports.specs.WiredPanels.Sources.ReadsFirst.{run_in, card as card_reads}
use Rattle.proof_reports.specs.WiredPanels.Sources.EmitsAtRow.{first, second, digit, column, emitter}

-- a column that first reading sends is punched there, and a column at second reading likewise
pub sends-first : {old : MachineState} {pictures : Point → Hub → Bool} {cycle : Cycle} {row : CardRow} {hub : Hub} (c : ℕ)
    → EmitsAtRow old pictures cycle row hub → hub ≡ FR c → is_punched_at old.stations.first row c ≡ true
sends-first {old} {pictures} {cycle} {row} c (first its reads punched) is =
    let same : its ≡ c = cc in subst (λ n. is_punched_at old.stations.first row n ≡ true) same punched
sends-first c (second its reads punched) is = cc
sends-first c (digit group position listed out low high shown) is = cc
sends-first c (column storage its listed out held) is = cc
sends-first c (emitter its on) is = cc

pub sends-second : {old : MachineState} {pictures : Point → Hub → Bool} {cycle : Cycle} {row : CardRow} {hub : Hub} (c : ℕ)
    → EmitsAtRow old pictures cycle row hub → hub ≡ SR c → is_punched_at old.stations.second row c ≡ true
sends-second c (first its reads punched) is = cc
sends-second {old} {pictures} {cycle} {row} c (second its reads punched) is =
    let same : its ≡ c = cc in subst (λ n. is_punched_at old.stations.second row n ≡ true) same punched
sends-second c (digit group position listed out low high shown) is = cc
sends-second c (column storage its listed out held) is = cc
sends-second c (emitter its on) is = cc

-- the columns of a card that have hubs
pub column-there : (within : Bool) (c n before : ℕ)
    → option_map (λ place. before + place) (if within then Some c else None) ≡ Some n → within ≡ true
column-there true c n before is = refl
column-there false c n before is = cc

-- a punch in a column of the card
pub punched-there : (card : Option (List ℕ)) (c : ℕ) → is_punched_at card Eleven c ≡ true → has_sign card c ≡ true
punched-there None c on = cc
punched-there (Some card) c on = by (is_within c 80) on
  where
    by : (within : Bool) → (within && has_row (slice_index card (c - 1)) 11) ≡ true → has_row (column_of card c) 11 ≡ true
    by true both = both
    by false both = cc

there-punched : (card : Option (List ℕ)) (c : ℕ) → is_within c 80 ≡ true → has_sign card c ≡ true → is_punched_at card Eleven c ≡ true
there-punched None c within on = cc
there-punched (Some card) c within on = rw within on

-- the cycles that move pilots read the card at first reading
reads : (cycle : Cycle) → moves_pilots cycle ≡ true → ReadsFirst cycle
reads RunIn is = run_in
reads Card is = card_reads
reads (Prog level ordinal) is = cc
reads (Head heading) is = cc

module _ (chart : Chart) (plan : Lists) (wiring : Wiring) (old : MachineState) (cycle : Cycle) (pictures : Point → Hub → Bool)
    (it : IsPanelCycle chart plan wiring old cycle pictures) where
  at_pickup : (n : ℕ) → (pictures (Row Eleven) (PIX n) ≡ true) ↔ ArrivesAtRow chart.lines plan old pictures cycle Eleven (PIX n)
  at_pickup n =
      at_row chart plan wiring old cycle pictures it Eleven (PIX n) refl refl refl

  module _ (name : List ℕ) (field : Field) (rule : SignRule) (pilot : ℕ) (named : field_named chart.lines name ≡ Some field)
      (ruled : rule_of field.kind ≡ Some rule) (served : pilot_for plan name ≡ Some pilot) where
    -- what comes to the pickup of the amount's pilot is its sign column
    sign-came : ArrivesAtRow chart.lines plan old pictures cycle Eleven (PIX pilot) → has_sign old.stations.first (column_of_rule rule) ≡ true
    sign-came come =
        by come.wire.line come.wire.listed come.emits refl come.wire.wire served
      where
        by : (line : Line) → Contains chart.lines line → {exit : Hub} → EmitsAtRow old pictures cycle Eleven exit → {statement : Statement}
            → line.statement ≡ statement → {n : ℕ} → LineWire chart.lines plan line.number statement exit (PIX n) → pilot_for plan name ≡ Some n
            → has_sign old.stations.first (column_of_rule rule) ≡ true
        by line listed sends is (pickup its its_rule n its_ruled its_served) served =
            let names : its.name ≡ name = pilot-own chart.lines plan it.panel.planned its.name name n its_served served in
            let its_named : field_named chart.lines its.name ≡ Some its = field-own chart it.panel.lawful line its listed is in
            let fields : Some its ≡ Some field = sym its_named ∙ ap (field_named chart.lines) names ∙ named in
            let same : its ≡ field = cc in
            let rules : its_rule ≡ rule = let e : Some its_rule ≡ Some rule = sym its_ruled ∙ ap (λ (f : Field). rule_of f.kind) same ∙ ruled in cc in
            ap (λ r. has_sign old.stations.first (column_of_rule r)) (sym rules)
            ∙ punched-there old.stations.first (column_of_rule its_rule) (sends-first (column_of_rule its_rule) sends refl)

    -- the wire from the sign column to the pickup
    sign-wire : ChartWire chart.lines plan (FR (column_of_rule rule)) (PIX pilot)
    sign-wire =
        let f = field-line chart.lines name field named in
        record {
          line = f.line;
          listed = f.listed;
          wire = subst (λ statement. LineWire chart.lines plan f.line.number statement (FR (column_of_rule rule)) (PIX pilot)) (sym f.is_field)
              (pickup field rule pilot ruled (ap (pilot_for plan) f.own_name ∙ served));
        }

    column-within : is_within (column_of_rule rule) 80 ≡ true
    column-within =
        let there = (it.panel.wired.wires (FR (column_of_rule rule)) (PIX pilot)).1 sign-wire in
        column-there (is_within (column_of_rule rule) 80) (column_of_rule rule) there.number 0 there.numbered

    pilot-within : is_within pilot 16 ≡ true
    pilot-within =
        let there = (it.panel.wired.wires (FR (column_of_rule rule)) (PIX pilot)).1 sign-wire in
        column-there (is_within pilot 16) pilot there.to 1604 there.entry_numbered

    -- after a cycle that reads it
    pilot-is : moves_pilots cycle ≡ true
        → is_transferred (after_cycle cycle pictures old.pilots) pilot ≡ has_sign old.stations.first (column_of_rule rule)
    pilot-is moves =
        pilots_moved old.pilots cycle pictures pilot moves
        ∙ rw pilot-within (same_tests (pictures (Row Eleven) (PIX pilot)) (has_sign old.stations.first (column_of_rule rule))
        (λ on. sign-came ((at_pickup pilot).0 on))
        (λ on. (at_pickup pilot).1 (record {
          exit = FR (column_of_rule rule);
          emits = first (column_of_rule rule) (reads cycle moves)
              (there-punched old.stations.first (column_of_rule rule) column-within on);
          wire = sign-wire;
        })))

  -- After the run-in and after card cycles the pilots tell the signs of the card at first reading.
  pub pilots-tell : moves_pilots cycle ≡ true → PilotsTellSigns chart.lines plan old.stations.first (after_cycle cycle pictures old.pilots)
  pilots-tell moves = λ name field rule pilot named ruled served. pilot-is name field rule pilot named ruled served moves

  -- Other cycles leave them.
  pub pilots-kept : (card : Option (List ℕ)) → moves_pilots cycle ≡ false → PilotsTellSigns chart.lines plan card old.pilots
      → PilotsTellSigns chart.lines plan card (after_cycle cycle pictures old.pilots)
  pilots-kept card stays tell =
      λ name field rule pilot named ruled served.
      pilots_left old.pilots cycle pictures pilot stays ∙ tell name field rule pilot named ruled served
