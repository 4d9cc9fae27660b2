-- What the storage units of a panel hold after a card cycle, and in which cycles they read out.
use Rattle.std.proofs.Common.{◌≡◌, ◌∙◌, refl, sym, ap, subst, ℕ, ◌+◌, ◌-◌, ◌<◌, ◌&&◌, Bool, true, false, List, [], ◌∷◌, Contains, Option, Some, None, option_map, ◌↔◌, if◌then◌else◌, slice_index, zero, suc, arith, map}
use Rattle.wiring_table.specs.Below.chart_plans.PlansWords.Plans.{Lists}
use Rattle.proof_cycles.specs.Below.card_code.CardCode.{has_row}
use Rattle.proof_cycles.specs.Below.card_code.Rows.{row_number}
use Rattle.proof_cycles.specs.Below.card_code.declared.row.Row.{Row as CardRow}
use Rattle.wiring_table.specs.Below.chart_line_rules.FieldRules.Fields.{field_named}
use Rattle.wiring_table.specs.Below.chart_rules.ValidCard.{column_of}
use Rattle.wiring_table.specs.Below.chart_lines.ChartsWords.Chart.{Chart, NumbersRise}
use Rattle.wiring_table.specs.Below.chart_lines.ChartsWords.Field.{columns_of}
use Rattle.wiring_table.specs.Below.chart_lines.ChartsWords.Levels.{level_number}
use Rattle.wiring_table.specs.Below.chart_lines.declared.charts.chart.Line.{Line}
use Rattle.wiring_table.specs.Below.chart_lines.declared.charts.level.Level.{Level}
use Rattle.wiring_table.specs.Below.chart_lines.declared.charts.statement.Field.{Field}
use Rattle.wiring_table.specs.Below.chart_lines.declared.charts.statement.Statement.{Statement}
use Rattle.wiring_table.specs.Below.chart_lines.declared.charts.statement.Statement.TheVariants as says
use Rattle.proof_cycles.specs.Below.hubs.HubTable.Places.{part_place}
use Rattle.proof_cycles.specs.Below.hubs.HubTable.Ranges.{is_within}
use Rattle.wiring_table.specs.Below.hubs.SetupsWords.Wiring.{Wiring}
use Rattle.proof_cycles.specs.Below.hubs.declared.hub.Hub.{Hub}
use Rattle.proof_cycles.specs.Below.hubs.declared.hub.Hub.TheVariants.{SR, CC, PX, SE, SI, SO}
use Rattle.proof_cycles.specs.Below.machine.Machine.{MachineState}
use Rattle.proof_cycles.specs.Below.net.declared.cycle.Cycle.{Cycle}
use Rattle.proof_cycles.specs.Below.net.declared.cycle.Cycle.TheVariants.{Card}
use Rattle.proof_cycles.specs.Below.net.declared.cycle.Point.{Point}
use Rattle.proof_cycles.specs.Below.net.declared.cycle.Point.TheVariants.{C, Row}
use Rattle.proof_cycles.specs.Below.stations.Punches.{is_punched_at}
use Rattle.proof_cycles.proofs.Below.storage_units.CycleLemmas.{reads_in_whole, keeps_held}
use Rattle.proof_cycles.specs.Below.storage_units.Storage.{StorageState, holds}
use Rattle.proof_cycles.specs.Below.storage_units.WholeCycles.{after_cycle}
use Rattle.wiring_table.specs.Figures.{IsText}
use Rattle.wiring_table.specs.Parts.{unit_for}
use Rattle.wiring_table.specs.Wires.{LineWire, ChartWire}
use Rattle.wiring_table.specs.Wires.LineWire.{total_text_in, total_text_taken, total_text_given}
use Rattle.wiring_table.proofs.Below.chart_lines.ChartsWords.Rising.{one-line}
use Rattle.proof_reports.proofs.WiredPanels.Contacts.{is_card_cycle}
use Rattle.proof_reports.proofs.WiredPanels.Ways.{same_tests}
use Rattle.proof_reports.proofs.WiredPanels.Straight.{at_control, at_row}
use Rattle.wiring_table.proofs.Parts.{unit-own}
use Rattle.wiring_table.proofs.Below.chart_lines.ChartsWords.Listed.{listed-after}
use Rattle.proof_reports.proofs.WiredPanels.ToPilots.{sends-second, column-there}
use Rattle.proof_reports.specs.WiredPanels.PanelCycles.{IsPanelCycle, ArrivesAtControl, ArrivesAtRow, UnitsHold, IsTextPrinted}
use Rattle.proof_reports.specs.WiredPanels.Sources.{EmitsAtRow, EmitsAtControl}
use Rattle.proof_reports.specs.WiredPanels.Sources.EmitsAtRow.{second}
use Rattle.proof_reports.specs.WiredPanels.Sources.EmitsAtControl.{card as tells_card, prog as tells_prog, head as tells_head}

-- a part of a thing that has a hub
part-there : (one other : Bool) (many n p k before : ℕ)
    → option_map (λ place. before + place) (part_place many (if one then Some n else None) (if other then Some p else None)) ≡ Some k
    → other ≡ true
part-there one true many n p k before is = refl
part-there true false many n p k before is = cc
part-there false false many n p k before is = cc

-- a punch in a column of a card at a station
pub punched-in : (station : Option (List ℕ)) (card : List ℕ) (row : CardRow) (c : ℕ) → station ≡ Some card → is_punched_at station row c ≡ true
    → has_row (column_of card c) (row_number row) ≡ true
punched-in station card row c is on = by (is_within c 80) (ap (λ s. is_punched_at s row c) (sym is) ∙ on)
  where
    by : (within : Bool) → (within && has_row (slice_index card (c - 1)) (row_number row)) ≡ true
        → has_row (column_of card c) (row_number row) ≡ true
    by true both = both
    by false both = cc

pub in-punched : (station : Option (List ℕ)) (card : List ℕ) (row : CardRow) (c : ℕ) → station ≡ Some card → is_within c 80 ≡ true
    → has_row (column_of card c) (row_number row) ≡ true → is_punched_at station row c ≡ true
in-punched station card row c is within on =
    ap (λ s. is_punched_at s row c) is ∙ (rw within on)

-- the exit of card cycles tells of them alone
tells-card : {cycle : Cycle} {hub : Hub} → EmitsAtControl cycle hub → hub ≡ CC → cycle ≡ Card
tells-card tells_card is = refl
tells-card (tells_prog level ordinal) is = cc
tells-card (tells_head heading) is = cc

module _ (chart : Chart) (plan : Lists) (wiring : Wiring) (old : MachineState) (cycle : Cycle) (pictures : Point → Hub → Bool)
    (it : IsPanelCycle chart plan wiring old cycle pictures) where
  at_read_out : (unit : ℕ) → (pictures C (SO unit) ≡ true) ↔ ArrivesAtControl chart.lines plan cycle (SO unit)
  at_read_out unit =
      at_control chart plan wiring old cycle pictures it (SO unit) refl refl refl

  -- A storage unit reads out in the cycle that prints the total line of its text, and in no other.
  pub unit-reads_out : (unit : ℕ) → (pictures C (SO unit) ≡ true) ↔ IsTextPrinted chart.lines plan cycle unit
  unit-reads_out unit = (
    λ on. let come = (at_read_out unit).0 on in
        by come.wire.line come.wire.listed come.emits refl come.wire.wire,
    λ text. (at_read_out unit).1 (record {
      exit = PX (level_number text.level) 3;
      emits = text.printed;
      wire = record {
        line = text.line;
        listed = text.listed;
        wire = subst (λ statement. LineWire chart.lines plan text.line.number statement (PX (level_number text.level) 3) (SO unit))
            (sym text.is_text) (total_text_given text.level text.wheel text.name unit text.served);
      };
    }),
  )
    where
      by : (line : Line) → Contains chart.lines line → {exit : Hub} → EmitsAtControl cycle exit → {statement : Statement} → line.statement ≡ statement
          → {n : ℕ} → LineWire chart.lines plan line.number statement exit (SO n) → IsTextPrinted chart.lines plan cycle n
      by line listed tells is (total_text_given level wheel name n served) = record {
        line = line;
        listed = listed;
        level = level;
        wheel = wheel;
        name = name;
        is_text = is;
        served = served;
        printed = tells;
      }

  at_stored : (row : CardRow) (unit c : ℕ)
      → (pictures (Row row) (SE unit c) ≡ true) ↔ ArrivesAtRow chart.lines plan old pictures cycle row (SE unit c)
  at_stored row unit c =
      at_row chart plan wiring old cycle pictures it row (SE unit c) refl refl refl

  at_read_in : (unit : ℕ) → (pictures C (SI unit) ≡ true) ↔ ArrivesAtControl chart.lines plan cycle (SI unit)
  at_read_in unit = at_control chart plan wiring old cycle pictures it (SI unit) refl refl refl

  -- No storage unit reads in but in card cycles.
  no-unit-reads_in : (unit : ℕ) → is_card_cycle cycle ≡ false → pictures C (SI unit) ≡ false
  no-unit-reads_in unit none = by (pictures C (SI unit)) refl
    where
      card : {exit : Hub} → EmitsAtControl cycle exit → (number : ℕ) → {statement : Statement} → {n : ℕ} → LineWire chart.lines plan number statement exit (SI n) → cycle ≡ Card
      card tells number (total_text_taken level wheel name n served) = tells-card tells refl

      by : (b : Bool) → pictures C (SI unit) ≡ b → b ≡ false
      by true on =
          let come = (at_read_in unit).0 on in
          let is = card come.emits come.wire.line.number come.wire.wire in
          let e : is_card_cycle cycle ≡ true = ap is_card_cycle is in sym e ∙ none
      by false on = refl

  -- Other cycles leave what the units hold.
  pub unit-kept : (storage : StorageState) (row : CardRow) (column : ℕ) → is_card_cycle cycle ≡ false
      → holds (after_cycle cycle pictures storage) row column ≡ holds storage row column
  unit-kept storage row column none =
      keeps_held storage cycle pictures row column (no-unit-reads_in storage.place none)

  -- In a card cycle
  module _ (rising : NumbersRise chart.lines chart.end) (is_card : cycle ≡ Card) (card : List ℕ) (stands : old.stations.second ≡ Some card)
      (line : Line) (level : Level) (wheel : ℕ) (name : List ℕ) (field : Field) (unit : ℕ) (listed : Contains chart.lines line)
      (says_it : line.statement ≡ says.TotalText level wheel name) (is_text : IsText chart.lines name field)
      (served : unit_for plan line.number ≡ Some unit) where
    reads_in : pictures C (SI unit) ≡ true
    reads_in = (at_read_in unit).1 (record {
      exit = CC;
      emits = subst (λ c. EmitsAtControl c CC) (sym is_card) tells_card;
      wire = record {
        line = line;
        listed = listed;
        wire = subst (λ statement. LineWire chart.lines plan line.number statement CC (SI unit)) (sym says_it)
            (total_text_taken level wheel name unit served);
      };
    })

    module _ (row : CardRow) (j : ℕ) (below : j < columns_of field) where
      came : ArrivesAtRow chart.lines plan old pictures cycle row (SE unit (j + 1))
          → has_row (column_of card (field.first + j)) (row_number row) ≡ true
      came come =
          by come.wire.line come.wire.listed come.emits refl come.wire.wire refl served
        where
          by : (other : Line) → Contains chart.lines other → {exit : Hub} → EmitsAtRow old pictures cycle row exit → {statement : Statement}
              → other.statement ≡ statement → {n c : ℕ} → LineWire chart.lines plan other.number statement exit (SE n c) → c ≡ j + 1
              → unit_for plan line.number ≡ Some n → has_row (column_of card (field.first + j)) (row_number row) ≡ true
          by other its_listed sends is (total_text_in its wheel' name' field' n j' text' below' served') same served =
              let numbers : other.number ≡ line.number = unit-own chart.lines plan it.panel.planned other.number line.number n served' served in
              let lines : other ≡ line = one-line chart.lines chart.end other line rising its_listed listed numbers in
              let statements : says.TotalText its wheel' name' ≡ says.TotalText level wheel name =
              sym is ∙ ap (λ (l : Line). l.statement) lines ∙ says_it in
              let names : name' ≡ name = cc in
              let fields : Some field' ≡ Some field = sym text'.named ∙ ap (field_named chart.lines) names ∙ is_text.named in
              let one : field' ≡ field = cc in
              let places : j' ≡ j = omega (arith, same) in
              let columns : field'.first + j' ≡ field.first + j = ap (λ (f : Field). f.first + j') one ∙ ap (λ n. field.first + n) places in
              punched-in old.stations.second card row (field.first + j) stands (sends-second (field.first + j) sends (ap SR columns))

      text-wire : ChartWire chart.lines plan (SR (field.first + j)) (SE unit (j + 1))
      text-wire = record {
        line = line;
        listed = listed;
        wire = subst (λ statement. LineWire chart.lines plan line.number statement (SR (field.first + j)) (SE unit (j + 1))) (sym says_it)
            (total_text_in level wheel name field unit j is_text below served);
      }

      text-column : is_within (field.first + j) 80 ≡ true
      text-column =
          let there = (it.panel.wired.wires (SR (field.first + j)) (SE unit (j + 1))).1 text-wire in
          column-there (is_within (field.first + j) 80) (field.first + j) there.number 80 there.numbered

      unit-column : is_within (j + 1) 16 ≡ true
      unit-column =
          let there = (it.panel.wired.wires (SR (field.first + j)) (SE unit (j + 1))).1 text-wire in
          part-there (is_within unit 4) (is_within (j + 1) 16) 16 unit (j + 1) there.to 1620 there.entry_numbered

      is-stored : pictures (Row row) (SE unit (j + 1)) ≡ has_row (column_of card (field.first + j)) (row_number row)
      is-stored =
          same_tests (pictures (Row row) (SE unit (j + 1))) (has_row (column_of card (field.first + j)) (row_number row))
          (λ on. came ((at_stored row unit (j + 1)).0 on))
          (λ on. (at_stored row unit (j + 1)).1 (record {
            exit = SR (field.first + j);
            emits = second (field.first + j) is_card (in-punched old.stations.second card row (field.first + j) stands text-column on);
            wire = text-wire;
          }))

      -- the unit holds the columns of its text
      pub unit-holds : (storage : StorageState) → storage.place ≡ unit
          → holds (after_cycle cycle pictures storage) row (j + 1) ≡ has_row (column_of card (field.first + j)) (row_number row)
      unit-holds storage same =
          reads_in_whole storage cycle pictures row (j + 1) (ap (λ u. pictures C (SI u)) same ∙ reads_in)
          ∙ rw unit-column (ap (λ u. pictures (Row row) (SE u (j + 1))) same ∙ is-stored)

-- an element of a mapped list comes from one of the list
pub record IsMapped {X : Type 0} {Y : Type 0} (f : X → Y) (list : List X) (y : Y) : Type 0 where
  pub item : X
  pub listed : Contains list item
  pub is : f item ≡ y

pub mapped : {X : Type 0} {Y : Type 0} (f : X → Y) (list : List X) (y : Y) → Contains (map f list) y → IsMapped f list y
mapped f [] y (k, within, is) = absurd (omega (arith, within))
mapped f (x ∷ list) y (zero, within, is) = record { item = x; listed = (0, omega arith, refl); is = is }
mapped f (x ∷ list) y (suc k, within, is) =
    let below = mapped f list y (k, omega (arith, within), is) in
    record { item = below.item; listed = listed-after x list below.listed; is = below.is }

module _ (chart : Chart) (plan : Lists) (wiring : Wiring) (old : MachineState) (cycle : Cycle) (pictures : Point → Hub → Bool)
    (it : IsPanelCycle chart plan wiring old cycle pictures) where
  -- After a card cycle the storage units hold the texts of the card at second reading.
  pub units-hold : (card : List ℕ) → NumbersRise chart.lines chart.end → cycle ≡ Card → old.stations.second ≡ Some card
      → UnitsHold chart.lines plan card (map (after_cycle cycle pictures) old.storage)
  units-hold card rising is_card stands =
      λ line level wheel name field unit storage row j listed says_it is_text served there place below.
      let from = mapped (after_cycle cycle pictures) old.storage storage there in
      ap (λ s. holds s row (j + 1)) (sym from.is)
      ∙ unit-holds chart plan wiring old cycle pictures it rising is_card card stands line level wheel name field unit listed says_it
      is_text served row j below from.item (ap (λ (s : StorageState). s.place) from.is ∙ place)

  -- After another cycle they hold what they held.
  pub units-kept : (card : List ℕ) → is_card_cycle cycle ≡ false → UnitsHold chart.lines plan card old.storage
      → UnitsHold chart.lines plan card (map (after_cycle cycle pictures) old.storage)
  units-kept card none held =
      λ line level wheel name field unit storage row j listed says_it is_text served there place below.
      let from = mapped (after_cycle cycle pictures) old.storage storage there in
      ap (λ s. holds s row (j + 1)) (sym from.is)
      ∙ unit-kept chart plan wiring old cycle pictures it from.item row (j + 1) none
      ∙ held line level wheel name field unit from.item row j listed says_it is_text served from.listed (ap (λ (s : StorageState). s.place) from.is ∙ place) below
