-- Which level a panel calls for at the closing point of a card cycle: the highest at which a break stands between the card at second
-- reading and the next one, at first reading.
use Rattle.std.proofs.Common.{◌≡◌, ◌∙◌, refl, sym, ap, subst, ℕ, ◌+◌, ◌<◌, ◌==◌, not, Bool, true, false, List, Contains, Some, None, ◌↔◌, arith, if◌then◌else◌}
use Rattle.std.proofs.lemmas.Bool.Decides.{nat_tests}
use Rattle.std.proofs.lemmas.Bool.{not-true, and_parts}
use Rattle.wiring_table.specs.Below.chart_plans.PlansWords.Plans.{Lists}
use Rattle.proof_cycles.specs.Below.card_code.CardCode.{has_row}
use Rattle.proof_cycles.specs.Below.card_code.Rows.{rows, row_number}
use Rattle.proof_cycles.specs.Below.card_code.declared.row.Row.{Row as CardRow}
use Rattle.wiring_table.specs.Below.chart_line_rules.FieldRules.Fields.{field_named}
use Rattle.wiring_table.specs.Below.chart_rules.ValidCard.{IsValidCard, column_of}
use Rattle.wiring_table.specs.Below.chart_lines.ChartsWords.Chart.{Chart}
use Rattle.wiring_table.specs.Below.chart_lines.ChartsWords.Field.{columns_of}
use Rattle.wiring_table.specs.Below.chart_lines.ChartsWords.Levels.{control_number}
use Rattle.wiring_table.specs.Below.chart_lines.declared.charts.chart.Line.{Line}
use Rattle.wiring_table.specs.Below.chart_lines.declared.charts.level.ControlLevel.{ControlLevel}
use Rattle.wiring_table.specs.Below.chart_lines.declared.charts.statement.Field.{Field}
use Rattle.wiring_table.specs.Below.chart_lines.declared.charts.statement.Statement.{Statement}
use Rattle.wiring_table.specs.Below.chart_lines.declared.charts.statement.Statement.TheVariants as says
use Rattle.proof_cycles.specs.Below.hubs.HubTable.Ranges.{is_within}
use Rattle.wiring_table.specs.Below.hubs.SetupsWords.Wiring.{Wiring}
use Rattle.proof_cycles.specs.Below.hubs.declared.hub.Hub.{Hub}
use Rattle.proof_cycles.specs.Below.hubs.declared.hub.Hub.TheVariants.{FR, SR, CX, CA, CB, ST}
use Rattle.proof_cycles.specs.Below.machine.Machine.{MachineState}
use Rattle.proof_cycles.specs.Below.net.declared.cycle.Cycle.TheVariants.{Card}
use Rattle.proof_cycles.specs.Below.net.declared.cycle.ProgramLevel.TheVariants.{Minor, Intermediate, Major}
use Rattle.proof_cycles.specs.Below.net.declared.cycle.Point.{Point}
use Rattle.proof_cycles.specs.Below.net.declared.cycle.Point.TheVariants.{Row, K}
use Rattle.program_unit.specs.CycleOrder.{levels_to}
use Rattle.program_unit.specs.Program.{called_for}
use Rattle.report_definition.specs.Breaks.{highest}
use Rattle.report_definition.specs.Groups.{is_same_at}
use Rattle.proof_cycles.specs.Below.stations.Comparing.{are_unlike}
use Rattle.proof_cycles.specs.WholeCycles.WholeCycles.{IsClosingPicture, closing_emits, compares_unlike}
use Rattle.wiring_table.specs.Parts.{comparing_for}
use Rattle.wiring_table.specs.Wires.{LineWire, ChartWire}
use Rattle.wiring_table.specs.Wires.LineWire.{compared_first, compared_second, level_called}
use Rattle.proof_reports.proofs.WiredPanels.ControlTexts.{control-set}
use Rattle.proof_reports.proofs.WiredPanels.Differing.{differs-where, where-differs}
use Rattle.proof_reports.proofs.WiredPanels.Ways.{same_tests}
use Rattle.wiring_table.proofs.Below.chart_lines.ChartsWords.Listed.{any-passing, none-any}
use Rattle.wiring_table.proofs.Parts.{comparing-given, comparing-own}
use Rattle.proof_reports.proofs.WiredPanels.SameColumns.{row-listed, same-sets}
use Rattle.proof_reports.proofs.WiredPanels.Straight.{at_row, at_closing}
use Rattle.proof_reports.proofs.WiredPanels.ToPilots.{sends-first, sends-second, column-there}
use Rattle.proof_reports.proofs.WiredPanels.ToStorage.{punched-in, in-punched}
use Rattle.proof_reports.specs.WiredPanels.PanelCycles.{IsPanelCycle, ArrivesAtRow, ArrivesAtClosing, Differs}
use Rattle.proof_reports.specs.WiredPanels.Sources.{EmitsAtRow}
use Rattle.proof_reports.specs.WiredPanels.Sources.ReadsFirst.{card as card_reads}
use Rattle.proof_reports.specs.WiredPanels.Sources.EmitsAtRow.{first, second}

-- answers that are not unlike are the same
alike : (a b : Bool) → are_unlike a b ≡ false → a ≡ b
alike true true is = refl
alike true false is = cc
alike false true is = cc
alike false false is = refl

unlike-self : (a b : Bool) → a ≡ b → are_unlike a b ≡ true → ⊥
unlike-self true true same is = let e : false ≡ true = is in cc
unlike-self true false same is = cc
unlike-self false true same is = cc
unlike-self false false same is = let e : false ≡ true = is in cc

module _ (chart : Chart) (plan : Lists) (wiring : Wiring) (old : MachineState) (pictures : Point → Hub → Bool)
    (it : IsPanelCycle chart plan wiring old Card pictures)
    (closing : IsClosingPicture wiring old pictures Card) where
  at_first : (row : CardRow) (n : ℕ) → (pictures (Row row) (CA n) ≡ true) ↔ ArrivesAtRow chart.lines plan old pictures Card row (CA n)
  at_first row n = at_row chart plan wiring old Card pictures it row (CA n) refl refl refl

  at_second : (row : CardRow) (n : ℕ) → (pictures (Row row) (CB n) ≡ true) ↔ ArrivesAtRow chart.lines plan old pictures Card row (CB n)
  at_second row n = at_row chart plan wiring old Card pictures it row (CB n) refl refl refl

  at_call : (n : ℕ) → (pictures K (ST n) ≡ true) ↔ ArrivesAtClosing chart.lines plan pictures Card (ST n)
  at_call n = at_closing chart plan wiring old Card pictures it closing (ST n) refl refl refl refl

  -- with a card at each station
  module _ (card next : List ℕ) (stands : old.stations.second ≡ Some card) (waits : old.stations.first ≡ Some next) where
    -- a column of a control field, and its comparing position
    module _ (line : Line) (listed : Contains chart.lines line) (level : ControlLevel) (name : List ℕ) (field : Field) (j position : ℕ)
        (says_it : line.statement ≡ says.Control level name) (named : field_named chart.lines name ≡ Some field) (below : j < columns_of field)
        (served : comparing_for plan line.number (field.first + j) ≡ Some position) where
      first-wire : ChartWire chart.lines plan (FR (field.first + j)) (CA position)
      first-wire = record {
        line = line;
        listed = listed;
        wire = subst (λ statement. LineWire chart.lines plan line.number statement (FR (field.first + j)) (CA position)) (sym says_it)
            (compared_first level name field j position named below served);
      }

      second-wire : ChartWire chart.lines plan (SR (field.first + j)) (CB position)
      second-wire = record {
        line = line;
        listed = listed;
        wire = subst (λ statement. LineWire chart.lines plan line.number statement (SR (field.first + j)) (CB position)) (sym says_it)
            (compared_second level name field j position named below served);
      }

      call-wire : ChartWire chart.lines plan (CX position) (ST (control_number level))
      call-wire = record {
        line = line;
        listed = listed;
        wire = subst (λ statement. LineWire chart.lines plan line.number statement (CX position) (ST (control_number level))) (sym says_it)
            (level_called level name field j position named below served);
      }

      column-within : is_within (field.first + j) 80 ≡ true
      column-within =
          let there = (it.panel.wired.wires (FR (field.first + j)) (CA position)).1 first-wire in
          column-there (is_within (field.first + j) 80) (field.first + j) there.number 0 there.numbered

      position-within : is_within position 30 ≡ true
      position-within =
          let there = (it.panel.wired.wires (FR (field.first + j)) (CA position)).1 first-wire in
          column-there (is_within position 30) position there.to 1040 there.entry_numbered

      first-came : (row : CardRow) → ArrivesAtRow chart.lines plan old pictures Card row (CA position)
          → has_row (column_of next (field.first + j)) (row_number row) ≡ true
      first-came row come =
          by come.wire.line.number come.emits come.wire.wire served
        where
          by : (number : ℕ) → {exit : Hub} → EmitsAtRow old pictures Card row exit → {statement : Statement} {n : ℕ}
              → LineWire chart.lines plan number statement exit (CA n) → comparing_for plan line.number (field.first + j) ≡ Some n
              → has_row (column_of next (field.first + j)) (row_number row) ≡ true
          by number sends (compared_first level' name' field' j' n named' below' served') served =
              let columns : field'.first + j' ≡ field.first + j =
              (comparing-own chart.lines plan it.panel.planned number line.number (field'.first + j') (field.first + j) n served' served).1 in
              punched-in old.stations.first next row (field.first + j) waits (sends-first (field.first + j) sends (ap FR columns))

      second-came : (row : CardRow) → ArrivesAtRow chart.lines plan old pictures Card row (CB position)
          → has_row (column_of card (field.first + j)) (row_number row) ≡ true
      second-came row come =
          by come.wire.line.number come.emits come.wire.wire served
        where
          by : (number : ℕ) → {exit : Hub} → EmitsAtRow old pictures Card row exit → {statement : Statement} {n : ℕ}
              → LineWire chart.lines plan number statement exit (CB n) → comparing_for plan line.number (field.first + j) ≡ Some n
              → has_row (column_of card (field.first + j)) (row_number row) ≡ true
          by number sends (compared_second level' name' field' j' n named' below' served') served =
              let columns : field'.first + j' ≡ field.first + j =
              (comparing-own chart.lines plan it.panel.planned number line.number (field'.first + j') (field.first + j) n served' served).1 in
              punched-in old.stations.second card row (field.first + j) stands (sends-second (field.first + j) sends (ap SR columns))

      -- its entries have the rows of the two cards
      first-is : (row : CardRow) → pictures (Row row) (CA position) ≡ has_row (column_of next (field.first + j)) (row_number row)
      first-is row =
          same_tests (pictures (Row row) (CA position)) (has_row (column_of next (field.first + j)) (row_number row))
          (λ on. first-came row ((at_first row position).0 on))
          (λ on. (at_first row position).1 (record {
            exit = FR (field.first + j);
            emits = first (field.first + j) card_reads (in-punched old.stations.first next row (field.first + j) waits column-within on);
            wire = first-wire;
          }))

      second-is : (row : CardRow) → pictures (Row row) (CB position) ≡ has_row (column_of card (field.first + j)) (row_number row)
      second-is row =
          same_tests (pictures (Row row) (CB position)) (has_row (column_of card (field.first + j)) (row_number row))
          (λ on. second-came row ((at_second row position).0 on))
          (λ on. (at_second row position).1 (record {
            exit = SR (field.first + j);
            emits = second (field.first + j) refl (in-punched old.stations.second card row (field.first + j) stands column-within on);
            wire = second-wire;
          }))

      -- where it compares unlike the columns differ
      unlike-differs : compares_unlike pictures position ≡ true
          → (column_of card (field.first + j) == column_of next (field.first + j)) ≡ false
      unlike-differs unlike =
          by (column_of card (field.first + j) == column_of next (field.first + j)) refl
        where
          by : (b : Bool) → (column_of card (field.first + j) == column_of next (field.first + j)) ≡ b → b ≡ false
          by false is = refl
          by true is =
              let same : column_of card (field.first + j) ≡ column_of next (field.first + j) = grind (arith, nat_tests, is) in
              let f = any-passing (λ row. are_unlike (pictures (Row row) (CA position)) (pictures (Row row) (CB position))) rows unlike in
              absurd (unlike-self (pictures (Row f.element) (CA position)) (pictures (Row f.element) (CB position))
              (first-is f.element ∙ ap (λ c. has_row c (row_number f.element)) (sym same) ∙ sym (second-is f.element)) f.passes)

      -- where the columns differ it compares unlike
      differs-unlike : IsValidCard chart card → IsValidCard chart next
          → (column_of card (field.first + j) == column_of next (field.first + j)) ≡ false → compares_unlike pictures position ≡ true
      differs-unlike valid valid' apart = by (compares_unlike pictures position) refl
        where
          by : (b : Bool) → compares_unlike pictures position ≡ b → b ≡ true
          by true is = refl
          by false none =
              let each : (row : CardRow)
              → has_row (column_of card (field.first + j)) (row_number row) ≡ has_row (column_of next (field.first + j)) (row_number row) =
              λ row. sym (second-is row)
              ∙ sym (alike (pictures (Row row) (CA position)) (pictures (Row row) (CB position))
              (none-any (λ row. are_unlike (pictures (Row row) (CA position)) (pictures (Row row) (CB position))) rows row none
              (row-listed row)))
              ∙ first-is row in
              let same = same-sets (column_of card (field.first + j)) (column_of next (field.first + j))
              (control-set chart card line level name field j it.panel.lawful valid listed says_it named below)
              (control-set chart next line level name field j it.panel.lawful valid' listed says_it named below) each in
              absurd (let e : (column_of card (field.first + j) == column_of next (field.first + j)) ≡ true = grind (arith, nat_tests, same) in
              let no_way : true ≡ false = sym e ∙ apart in cc)

    -- where a level is called for the cards differ at it
    called-differs : (n : ℕ) → ArrivesAtClosing chart.lines plan pictures Card (ST n) → Differs chart.lines n card next
    called-differs n come =
        by come.wire.line come.wire.listed come.emits refl come.wire.wire
      where
        by : (line : Line) → Contains chart.lines line → {exit : Hub} → closing_emits pictures Card exit ≡ true → {statement : Statement}
            → line.statement ≡ statement → {n : ℕ} → LineWire chart.lines plan line.number statement exit (ST n) → Differs chart.lines n card next
        by line listed emits is (level_called level name field j position named below served) = record {
          line = line;
          listed = listed;
          its_level = level;
          name = name;
          field = field;
          place = j;
          controls = is;
          same_level = refl;
          named = named;
          within = below;
          differs = unlike-differs line listed level name field j position is named below served
              (and_parts (is_within position 30) (compares_unlike pictures position) emits).1;
        }

    -- and the other way
    differs-called : (n : ℕ) → IsValidCard chart card → IsValidCard chart next → Differs chart.lines n card next → pictures K (ST n) ≡ true
    differs-called n valid valid' d =
        let given = comparing-given chart.lines plan it.panel.planned d.line d.its_level d.name d.field d.place d.listed d.controls d.named
        d.within in
        let unlike = differs-unlike d.line d.listed d.its_level d.name d.field d.place given.n d.controls d.named d.within given.is valid valid'
        d.differs in
        let there = position-within d.line d.listed d.its_level d.name d.field d.place given.n d.controls d.named d.within given.is in
        let emits : closing_emits pictures Card (CX given.n) ≡ true = rw there unlike in
        let wire = call-wire d.line d.listed d.its_level d.name d.field d.place given.n d.controls d.named d.within given.is in
        subst (λ m. pictures K (ST m) ≡ true) d.same_level
        ((at_call (control_number d.its_level)).1 (record { exit = CX given.n; emits = emits; wire = wire }))

    -- A level is called for exactly where the cards are not the same at it.
    pub level-called : (n : ℕ) → IsValidCard chart card → IsValidCard chart next → pictures K (ST n) ≡ not (is_same_at chart.lines n card next)
    level-called n valid valid' =
        same_tests (pictures K (ST n)) (not (is_same_at chart.lines n card next))
        (λ on. ap not (where-differs chart.lines n card next (called-differs n ((at_call n).0 on))))
        (λ on. differs-called n valid valid' (differs-where chart.lines n card next (not-true (is_same_at chart.lines n card next) on)))

    -- The highest level called for is that of the break between the cards.
    pub highest-called : IsValidCard chart card → IsValidCard chart next → levels_to (called_for (pictures K)) ≡ highest chart.lines card next
    highest-called valid valid' =
        rw (level-called 3 valid valid', level-called 2 valid valid', level-called 1 valid valid')
        (by (is_same_at chart.lines 3 card next) (is_same_at chart.lines 2 card next) (is_same_at chart.lines 1 card next))
      where
        by : (a b c : Bool) → levels_to (if not a then Some Major else if not b then Some Intermediate else if not c then Some Minor else None)
            ≡ (if a then (if b then (if c then 0 else 1) else 2) else 3)
        by true true true = refl
        by true true false = refl
        by true false c = refl
        by false b c = refl
