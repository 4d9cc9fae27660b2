-- The print wheels of a panel receive, in each cycle that prints, what the lines of the chart send to its printed line.
use Rattle.std.proofs.Common.{◌≡◌, ◌∙◌, refl, sym, ap, subst, ℕ, ◌+◌, ◌≤◌, true, false, List, [], Contains, Option, Some, None, map, slice_get, cond, arith}
use Rattle.std.specs.List.{filter_map}
use Rattle.proof_reports.specs.Below.card_code.CardCode.{has_row}
use Rattle.proof_reports.specs.Below.card_code.Rows.{row_number}
use Rattle.proof_reports.specs.Below.chart_line_rules.FieldRules.Fields.{fields_of}
use Rattle.proof_reports.specs.Below.chart_line_rules.PrintRules.Items.{item_of}
use Rattle.proof_reports.specs.Below.chart_line_rules.PrintRules.Wheels.{HasWheel}
use Rattle.proof_reports.specs.Below.chart_line_rules.declared.print_rules.items.Item.{Item}
use Rattle.proof_reports.specs.Below.chart_lines.ChartsWords.Chart.{NumbersRise}
use Rattle.proof_reports.specs.Below.chart_lines.ChartsWords.Headings.{heading_number}
use Rattle.proof_reports.specs.Below.chart_lines.ChartsWords.Levels.{level_number as chart_number}
use Rattle.proof_reports.specs.Below.chart_lines.declared.charts.chart.Line.{Line}
use Rattle.proof_reports.specs.Below.chart_lines.declared.charts.heading.HeadingLine.TheVariants as heading
use Rattle.proof_reports.specs.Below.chart_lines.declared.charts.heading.HeadingLine.{HeadingLine}
use Rattle.proof_reports.specs.Below.chart_lines.declared.charts.level.Level.TheVariants as chart_level
use Rattle.proof_reports.specs.Below.chart_lines.declared.charts.level.Level.{Level}
use Rattle.proof_reports.specs.Below.chart_lines.declared.charts.statement.DetailOption.TheVariants as shown
use Rattle.proof_reports.specs.Below.chart_lines.declared.charts.statement.SignRule.TheVariants as sign
use Rattle.proof_reports.specs.Below.chart_lines.declared.charts.statement.Statement.{Statement}
use Rattle.proof_reports.specs.Below.hubs.SetupsWords.Wiring.{Wiring}
use Rattle.proof_reports.specs.Below.hubs.declared.hub.Hub.TheVariants.{W}
use Rattle.proof_reports.specs.Below.hubs.declared.hub.Hub.{Hub}
use Rattle.proof_cycles.specs.Below.net.Cycles.{level_number, ordinal_number}
use Rattle.proof_cycles.specs.Below.net.Panel.{contact_of}
use Rattle.proof_cycles.specs.Below.net.declared.cycle.Cycle.TheVariants.{RunIn, Card, Prog, Head}
use Rattle.proof_cycles.specs.Below.net.declared.cycle.Cycle.{Cycle}
use Rattle.proof_cycles.specs.Below.net.declared.cycle.ProgramLevel.TheVariants as cycle_level
use Rattle.proof_cycles.specs.Below.net.declared.cycle.ProgramLevel.{ProgramLevel}
use Rattle.proof_cycles.specs.Below.net.declared.cycle.Ordinal.TheVariants.{First, Second, Third}
use Rattle.proof_cycles.specs.Below.net.declared.cycle.Ordinal.{Ordinal}
use Rattle.proof_cycles.specs.Below.net.declared.cycle.Point.TheVariants.{Row}
use Rattle.print_unit.specs.Emitters.{emitter_of}
use Rattle.proof_reports.specs.PrintedLines.Shown.Shown.{Characters}
use Rattle.proof_reports.specs.PrintedLines.Shown.{Printed, Shown, card_sends, heading_sends, set_of_character, set_on, total_sends}
use Rattle.wiring_table.specs.Figures.IsFigure.{on_detail as figure_on_detail, on_total as figure_on_total}
use Rattle.wiring_table.specs.Figures.IsLiteral.{on_heading, on_detail, on_total}
use Rattle.wiring_table.specs.Wires.LineWire.{detail_text, indicated_text_out, literal, point, detail_digit, split_digit_out, detail_mark_out, total_digit, total_mark_out, total_text_out}
use Rattle.proof_reports.specs.WiredPanels.CycleRows.{CycleRow, is_closed}
use Rattle.proof_reports.specs.WiredPanels.PanelCycles.{IsPanelCycle}
use Rattle.proof_reports.specs.WiredPanels.CycleAsks.PrintedRows.{IsCardRow, IsHeadingRow, IsTotalRow}
use Rattle.proof_reports.specs.WiredPanels.Sources.EmitsAtRow.{second, digit, column, emitter}
use Rattle.proof_reports.specs.WiredPanels.CycleAsks.WheelLaws.{WheelsReceiveHeadings, WheelsReceiveCards, WheelsReceiveTotals}
use Rattle.proof_reports.proofs.WiredPanels.ReadingOut.{can_print, group-third, unit-third}
use Rattle.proof_reports.proofs.Below.chart_lines.ChartsWords.Listed.{place-of}
use Rattle.proof_reports.proofs.WiredPanels.ToWheels.{ArrivesThere, Emits, WireAt, through_balance, through_indicate, through_pilot, through_split, silent}
use Rattle.proof_reports.proofs.WiredPanels.CycleAsks.WheelRows.{IsLineOf, SendsRow, rows-same, stands_on}
use Rattle.proof_reports.proofs.WiredPanels.CycleAsks.WheelRowsCard as card
use Rattle.proof_reports.proofs.WiredPanels.CycleAsks.WheelRowsCardLine as card_line
use Rattle.proof_reports.proofs.WiredPanels.CycleAsks.WheelRowsHeading as heading_line
use Rattle.proof_reports.proofs.WiredPanels.CycleAsks.WheelRowsHeading.{on_line}
use Rattle.proof_reports.proofs.WiredPanels.CycleAsks.WheelRowsText.{literal-sent}
use Rattle.proof_reports.proofs.WiredPanels.CycleAsks.WheelRowsTotal as total
use Rattle.proof_reports.proofs.WiredPanels.CycleAsks.WheelRowsTotalLine as total_line
use Rattle.proof_reports.proofs.WiredPanels.CycleAsks.WheelRowsFigure.FigureSends.{point as figure_point}

few : (line : HeadingLine) → heading_number line ≤ 3
few heading.First = omega arith
few heading.Second = omega arith
few heading.Third = omega arith

-- the emitter of a cycle tells which it is
heading_of : (cycle : Cycle) (line : HeadingLine) → emitter_of cycle ≡ Some (heading_number line)
    → (heading : Ordinal) × (cycle ≡ Head heading) × (heading_number line ≡ ordinal_number heading)
heading_of RunIn line is = cc
heading_of Card line is = let e : 4 ≡ heading_number line = cc in absurd (omega (arith, few line, e))
heading_of (Prog its First) line is = cc
heading_of (Prog its Second) line is = cc
heading_of (Prog its Third) line is = let e : 4 + level_number its ≡ heading_number line = cc in absurd (omega (arith, few line, e))
heading_of (Head h) line is = (h, refl, let e : ordinal_number h ≡ heading_number line = cc in sym e)

few_headings : (h : Ordinal) → ordinal_number h ≤ 3
few_headings First = omega arith
few_headings Second = omega arith
few_headings Third = omega arith

card_of : (cycle : Cycle) → emitter_of cycle ≡ Some 4 → cycle ≡ Card
card_of RunIn is = cc
card_of Card is = refl
card_of (Prog its First) is = cc
card_of (Prog its Second) is = cc
card_of (Prog its Third) is = let e : 4 + level_number its ≡ 4 = cc in absurd (omega (arith, some its, e))
  where
    some : (its : ProgramLevel) → 1 ≤ level_number its
    some cycle_level.Minor = omega arith
    some cycle_level.Intermediate = omega arith
    some cycle_level.Major = omega arith
    some cycle_level.Final = omega arith
card_of (Head h) is = let e : ordinal_number h ≡ 4 = cc in absurd (omega (arith, few_headings h, e))

total_of : (cycle : Cycle) (its : Level) → emitter_of cycle ≡ Some (4 + chart_number its)
    → (level : ProgramLevel) × (cycle ≡ Prog level Third) × (chart_number its ≡ level_number level)
total_of RunIn its is = cc
total_of Card its is = let e : 4 ≡ 4 + chart_number its = cc in absurd (omega (arith, some its, e))
  where
    some : (its : Level) → 1 ≤ chart_number its
    some chart_level.Minor = omega arith
    some chart_level.Intermediate = omega arith
    some chart_level.Major = omega arith
    some chart_level.Final = omega arith
total_of (Prog level First) its is = cc
total_of (Prog level Second) its is = cc
total_of (Prog level Third) its is = (level, refl, let e : 4 + level_number level ≡ 4 + chart_number its = cc in omega (arith, e))
total_of (Head h) its is = let e : ordinal_number h ≡ 4 + chart_number its = cc in absurd (omega (arith, few_headings h, e))

-- What is printed: a card that opens groups of the levels 1 to the given one, and totals by name.
record Content : Type 0 where
  card : List ℕ
  opens : ℕ
  held : List ℕ → Printed

-- what a line of the chart sends in a cycle
abbrev sends_in : List Line → Content → Cycle → Statement → Option Shown
sends_in lines content RunIn = λ statement. None
sends_in lines content Card = card_sends lines content.opens content.card
sends_in lines content (Prog its First) = λ statement. None
sends_in lines content (Prog its Second) = λ statement. None
sends_in lines content (Prog its Third) = total_sends lines (level_number its) content.held content.card
sends_in lines content (Head h) = heading_sends (ordinal_number h)

-- A row of a cycle that prints.
record IsPrintedRow (wiring : Wiring) (content : Content) (at : CycleRow) : Type 0 where
  on_panel : IsPanelCycle at.chart at.plan wiring at.old at.cycle at.pictures
  rises : NumbersRise at.chart.lines at.chart.end
  prints : can_print at.cycle ≡ true
  cards : at.cycle ≡ Card → IsCardRow wiring content.card content.opens at
  totals : (its : ProgramLevel) → at.cycle ≡ Prog its Third → IsTotalRow wiring its content.held content.card at
  headings : (h : Ordinal) → at.cycle ≡ Head h → IsHeadingRow wiring h at

module _ (wiring : Wiring) (content : Content) (at : CycleRow) (row : IsPrintedRow wiring content at) where
  abbrev Sends : Statement → ℕ → Type 0
  Sends statement v = SendsRow (sends_in at.chart.lines content at.cycle) statement v (row_number at.row)

  in_cycle : {statement : Statement} {v : ℕ} (cycle : Cycle) → at.cycle ≡ cycle
      → SendsRow (sends_in at.chart.lines content cycle) statement v (row_number at.row) → Sends statement v
  in_cycle {statement} {v} cycle is sent =
      subst (λ c. SendsRow (sends_in at.chart.lines content c) statement v (row_number at.row)) (sym is) sent

  place_of : (line : Line) → Contains at.chart.lines line → (place : ℕ) × (slice_get at.chart.lines place ≡ Some line)
  place_of line (place, within, is) = (place, place-of at.chart.lines line place within is)

  -- what comes straight from an exit that emits
  straight_sends : (line : Line) {statement : Statement} {x : Hub} {v : ℕ} → Contains at.chart.lines line → line.statement ≡ statement
      → WireAt at line.number statement x (W v) → Emits at x → Sends statement v
  straight_sends line there says_it (detail_text wheel name field j text within) (second c is read) =
      in_cycle Card is (card.text-row wiring content.card content.opens at (row.cards is) wheel name shown.Plain field j text within refl read)
  straight_sends line there says_it (detail_digit wheel name how field position amount from to apart) (second c is read) =
      let (place, listed) = place_of line there in
      in_cycle Card is (card.digit-sends wiring content.card content.opens at (row.cards is) line place wheel name how field position listed says_it
      amount from to apart read)
  straight_sends line there says_it (literal _ _ wheel characters j _ (on_heading its _ _) punch) (emitter e emits) =
      let (h, is, same) = heading_of at.cycle its emits in
      let sent = literal-sent wheel characters j (row_number at.row) punch in
      in_cycle (Head h) is (record {
        shown = Characters wheel (map set_of_character characters);
        is_sent = on_line h its wheel characters same;
        there = sent.0;
        on = sent.1;
      })
  straight_sends line there says_it (literal _ _ wheel characters j _ (on_detail _ _) punch) (emitter e emits) =
      let sent = literal-sent wheel characters j (row_number at.row) punch in
      in_cycle Card (card_of at.cycle emits)
      (record { shown = Characters wheel (map set_of_character characters); is_sent = refl; there = sent.0; on = sent.1 })
  straight_sends line there says_it (literal _ _ wheel characters j _ (on_total its _ _) punch) (emitter e emits) =
      let (level, is, same) = total_of at.cycle its emits in
      let sent = literal-sent wheel characters j (row_number at.row) punch in
      in_cycle (Prog level Third) is (record {
        shown = Characters wheel (map set_of_character characters);
        is_sent = ap (λ b. cond b (Some (Characters wheel (map set_of_character characters))) None)
            (total.tested wiring level content.held content.card at (row.totals level is) its same);
        there = sent.0;
        on = sent.1;
      })
  straight_sends line there says_it (point _ _ wheel figure _ (figure_on_detail _ name how field amount) some punch) (emitter e emits) =
      let (place, listed) = place_of line there in
      let is = card_of at.cycle emits in
      in_cycle Card is (card.point-sends wiring content.card content.opens at (row.cards is) line place wheel name how field listed says_it amount
      some punch)
  straight_sends line there says_it (point _ _ wheel figure _ (figure_on_total asked field amount) some punch) (emitter e emits) =
      let (place, listed) = place_of line there in
      let (level, is, same) = total_of at.cycle asked.level emits in
      in_cycle (Prog level Third) is (total.amount-row wiring level content.held content.card at (row.totals level is) line place asked field
      listed says_it amount.named same (figure_point some punch))
  straight_sends line there says_it (total_digit asked field _ position p serves amount low high) (digit counter _ among out _ long shows) =
      let (place, listed) = place_of line there in
      let (level, is) = group-third wiring at row.on_panel row.rises counter.name row.prints out in
      in_cycle (Prog level Third) is (total.digit-sends wiring level content.held content.card at (row.totals level is) line place asked field
      counter position p listed there says_it serves amount low high among out long shows)
  straight_sends line there says_it (total_text_out its wheel name field _ j text within served) (column storage c among out held) =
      let (level, is) = unit-third wiring at row.on_panel storage.place row.prints out in
      in_cycle (Prog level Third) is (total.text-sends wiring level content.held content.card at (row.totals level is) line its wheel name field
      storage j there says_it text within served among out held)
  straight_sends line there says_it (indicated_text_out wheel name level field j x text within served) emits = silent at _ emits refl
  straight_sends line there says_it (split_digit_out wheel name how field position split p0 p1 p2 p3 p4) emits = silent at _ emits refl
  straight_sends line there says_it (detail_mark_out wheel name mark (sign.X c) field pilot k r p0 p1 p2 p3) emits = silent at _ emits refl
  straight_sends line there says_it (detail_mark_out wheel name mark (sign.NX c) field pilot k r p0 p1 p2 p3) emits = silent at _ emits refl
  straight_sends line there says_it (total_mark_out asked mark rule field group k r p0 p1 p2 p3 p4) emits = silent at _ emits refl

  -- what comes after a contact
  after_sends : (line other : Line) {statement its : Statement} {x common contact : Hub} {v : ℕ}
      → Contains at.chart.lines line → Contains at.chart.lines other → line.statement ≡ statement → other.statement ≡ its
      → Emits at x → WireAt at other.number its x common → contact_of contact ≡ Some common → is_closed at contact ≡ true
      → WireAt at line.number statement contact (W v) → Sends statement v
  after_sends line other there among says_it says_its emits wire leads shut (indicated_text_out wheel name level field j x text within served) =
      let (is, read) = through_indicate wiring at row.on_panel row.rises line other level (field.first + j) x wire emits leads served in
      in_cycle Card is (card.indicated-sends wiring content.card content.opens at (row.cards is) wheel name level field j x text within read shut)
  after_sends line other there among says_it says_its emits wire leads shut (split_digit_out wheel name how field position split amount low high signed served) =
      let (place, listed) = place_of line there in
      let (is, read) = through_split wiring at row.on_panel row.rises line other wheel split position name how field there among says_it says_its
      wire emits leads amount signed served in
      in_cycle Card is (card.split-sends wiring content.card content.opens at (row.cards is) line place wheel name how field position split listed
      says_it amount low high read shut)
  after_sends line other there among says_it says_its emits wire leads shut (detail_mark_out wheel name mark rule field pilot k _ signed named served punch) =
      let (punched, emitting) = through_pilot wiring at row.on_panel row.rises line other wheel k pilot name mark rule there among says_it says_its
      wire emits leads served in
      let is = card_of at.cycle emitting in
      in_cycle Card is (card.mark-sends wiring content.card content.opens at (row.cards is) wheel name mark rule field pilot k signed named served
      punched shut)
  after_sends line other there among says_it says_its emits wire leads shut (total_mark_out asked mark rule field group k _ marked served signed named punch) =
      let (place, listed) = place_of line there in
      let (punched, emitting) = through_balance wiring at row.on_panel row.rises line other asked k group mark there among says_it marked
      says_its wire emits leads served in
      let (level, is, same) = total_of at.cycle asked.level emitting in
      in_cycle (Prog level Third) is (total.mark-sends wiring level content.held content.card at (row.totals level is) line place asked mark field
      group k listed there says_it marked served named same punched shut)
  after_sends line other there among says_it says_its emits wire leads shut (detail_text wheel name field j text within) = cc
  after_sends line other there among says_it says_its emits wire leads shut (literal statement e wheel characters j r is punch) = cc
  after_sends line other there among says_it says_its emits wire leads shut (point statement e wheel figure r is some punch) = cc
  after_sends line other there among says_it says_its emits wire leads shut (detail_digit wheel name how field position is low high apart) = cc
  after_sends line other there among says_it says_its emits wire leads shut (total_digit asked field group position p is amount low high) = cc
  after_sends line other there among says_it says_its emits wire leads shut (total_text_out its wheel name field unit j text within served) = cc

  -- and all that lines send arrives
  all_arrives : (line : Line) (v : ℕ) → Contains at.chart.lines line → Sends line.statement v → ArrivesThere at (W v)
  all_arrives line v there sent = by at.cycle refl sent
    where
      by : (cycle : Cycle) → at.cycle ≡ cycle → SendsRow (sends_in at.chart.lines content cycle) line.statement v (row_number at.row)
          → ArrivesThere at (W v)
      by RunIn is sent = let none = sent.is_sent in cc
      by Card is sent =
          let (place, listed) = place_of line there in
          card_line.sends-arrives wiring content.card content.opens at (row.cards is) line place line.statement v listed there refl sent
      by (Prog its First) is sent = let none = sent.is_sent in cc
      by (Prog its Second) is sent = let none = sent.is_sent in cc
      by (Prog its Third) is sent =
          let (place, listed) = place_of line there in
          total_line.sends-arrives wiring its content.held content.card at (row.totals its is) line place line.statement v listed there refl sent
      by (Head h) is sent = heading_line.sends-arrives wiring h at line line.statement v (row.headings h is) there refl sent

  -- it is of items of the cycle's printed line
  item_sent : (v : ℕ) (line : Line) (place : ℕ) (sent : Shown) → slice_get at.chart.lines place ≡ Some line
      → sends_in at.chart.lines content at.cycle line.statement ≡ Some sent → stands_on sent v ≡ true
      → (item : Item) × (item_of (fields_of at.chart.lines) line.statement ≡ Some item) × HasWheel item v × IsLineOf at.cycle item.line
  item_sent v line place sent listed is there = by at.cycle is
    where
      by : (cycle : Cycle) → sends_in at.chart.lines content cycle line.statement ≡ Some sent
          → (item : Item) × (item_of (fields_of at.chart.lines) line.statement ≡ Some item) × HasWheel item v × IsLineOf cycle item.line
      by RunIn is = cc
      by Card is = card_line.item-of at.chart content.opens content.card v line.statement sent row.on_panel.panel.lawful is there
      by (Prog its First) is = cc
      by (Prog its Second) is = cc
      by (Prog its Third) is =
          total_line.item-of at.chart its content.held content.card v place line line.statement sent row.on_panel.panel.lawful listed refl is there
      by (Head h) is = heading_line.item-of h at.chart v line.statement sent is there

  received : (v : ℕ) → at.pictures (Row at.row) (W v)
      ≡ has_row (set_on (filter_map (λ line. sends_in at.chart.lines content at.cycle line.statement) at.chart.lines) v) (row_number at.row)
  received v =
      rows-same wiring at (sends_in at.chart.lines content at.cycle) v row.on_panel
      (λ line place sent listed is there. item_sent v line place sent listed is there)
      (record {
        direct = λ line there says_it emits wire. straight_sends line there says_it wire emits;
        by_contact = λ line other there among says_it says_its emits wire leads shut last.
            after_sends line other there among says_it says_its emits wire leads shut last;
        all = λ line v there sent. all_arrives line v there sent;
      })

  received_in : (cycle : Cycle) → at.cycle ≡ cycle → (v : ℕ) → at.pictures (Row at.row) (W v)
      ≡ has_row (set_on (filter_map (λ line. sends_in at.chart.lines content cycle line.statement) at.chart.lines) v) (row_number at.row)
  received_in cycle is v =
      received v
      ∙ ap (λ c. has_row (set_on (filter_map (λ line. sends_in at.chart.lines content c line.statement) at.chart.lines) v) (row_number at.row)) is

-- other kinds of cycles
card_or_total : {its : ProgramLevel} {cycle : Cycle} → cycle ≡ Card → cycle ≡ Prog its Third → ⊥
card_or_total p q = cc

card_or_heading : {h : Ordinal} {cycle : Cycle} → cycle ≡ Card → cycle ≡ Head h → ⊥
card_or_heading p q = cc

total_or_heading : {its : ProgramLevel} {h : Ordinal} {cycle : Cycle} → cycle ≡ Prog its Third → cycle ≡ Head h → ⊥
total_or_heading p q = cc

pub wheels-headings : WheelsReceiveHeadings
wheels-headings wiring heading at v row =
    received_in wiring (record { card = []; opens = 0; held = λ name. record { figure = 0; latch = false } }) at (record {
      on_panel = row.on_panel;
      rises = row.rises;
      prints = ap can_print row.cycle;
      cards = λ is. absurd (card_or_heading is row.cycle);
      totals = λ its is. absurd (total_or_heading is row.cycle);
      headings = λ h is. record { on_panel = row.on_panel; rises = row.rises; cycle = is };
    }) (Head heading) row.cycle v

pub wheels-cards : WheelsReceiveCards
wheels-cards wiring card opens at v row =
    received_in wiring (record { card = card; opens = opens; held = λ name. record { figure = 0; latch = false } }) at (record {
      on_panel = row.on_panel;
      rises = row.rises;
      prints = ap can_print row.cycle;
      cards = λ is. row;
      totals = λ its is. absurd (card_or_total row.cycle is);
      headings = λ h is. absurd (card_or_heading row.cycle is);
    }) Card row.cycle v

pub wheels-totals : WheelsReceiveTotals
wheels-totals wiring level held card at v row =
    received_in wiring (record { card = card; opens = 0; held = held }) at (record {
      on_panel = row.on_panel;
      rises = row.rises;
      prints = ap can_print row.cycle;
      cards = λ is. absurd (card_or_total is row.cycle);
      totals = λ its is. its_row its is;
      headings = λ h is. absurd (total_or_heading row.cycle is);
    }) (Prog level Third) row.cycle v
  where
    its_row : (its : ProgramLevel) → at.cycle ≡ Prog its Third → IsTotalRow wiring its held card at
    its_row its is = let same : level ≡ its = one (sym row.cycle ∙ is) in subst (λ l. IsTotalRow wiring l held card at) same row
      where
        one : {a b : ProgramLevel} → Prog a Third ≡ Prog b Third → a ≡ b
        one p = cc
