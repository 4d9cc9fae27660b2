-- What a print wheel receives at a row: the row of the item that stands there.
use Rattle.std.proofs.Common.{◌≡◌, ◌∙◌, refl, sym, ap, subst, ℕ, zero, suc, ◌+◌, ◌-◌, ◌<◌, ◌&&◌, nat_le, nat_lt, Bool, true, false, cond, List, [], ◌∷◌, Contains, Option, Some, None, length, slice_get, arith}
use Rattle.std.specs.List.{filter_map, cons_option}
use Rattle.std.specs.Prelude.{slice_index_or}
use Rattle.std.proofs.lemmas.Bool.Decides.{nat_tests}
use Rattle.std.proofs.lemmas.Option.{get_or_from_slice_get, slice_get_within}
use Rattle.proof_reports.specs.Below.card_code.CardCode.{has_row}
use Rattle.proof_reports.specs.Below.card_code.Rows.{row_number}
use Rattle.proof_reports.specs.Below.card_code.declared.row.Row.TheVariants as row
use Rattle.proof_reports.specs.Below.card_code.declared.row.Row.{Row as CardRow}
use Rattle.proof_reports.specs.Below.chart_line_rules.FieldRules.Fields.{fields_of}
use Rattle.proof_reports.specs.Below.chart_line_rules.PrintRules.Items.{item_of, is_same_line}
use Rattle.proof_reports.specs.Below.chart_rules.Rules.{IsLawful}
use Rattle.proof_reports.specs.Below.chart_line_rules.PrintRules.Wheels.{HasWheel, meet, overlap}
use Rattle.proof_reports.specs.Below.chart_line_rules.declared.print_rules.items.Item.{Item}
use Rattle.proof_reports.specs.Below.chart_line_rules.declared.print_rules.items.PrintedLine.{PrintedLine}
use Rattle.proof_reports.specs.Below.chart_line_rules.declared.print_rules.items.PrintedLine.TheVariants.{Heading, Body}
use Rattle.proof_reports.specs.Below.chart_lines.ChartsWords.Headings.{heading_number}
use Rattle.proof_reports.specs.Below.chart_lines.ChartsWords.Levels.{level_number as chart_number}
use Rattle.proof_reports.specs.Below.chart_lines.declared.charts.heading.HeadingLine.{HeadingLine}
use Rattle.proof_reports.specs.Below.chart_lines.declared.charts.level.Level.{Level}
use Rattle.proof_reports.specs.Below.chart_lines.declared.charts.statement.BodyLine.TheVariants as body
use Rattle.proof_cycles.specs.Below.net.Cycles.{level_number, ordinal_number}
use Rattle.proof_cycles.specs.Below.net.declared.cycle.Cycle.{Cycle}
use Rattle.proof_cycles.specs.Below.net.declared.cycle.Cycle.TheVariants.{Card, Head, Prog}
use Rattle.proof_cycles.specs.Below.net.declared.cycle.ProgramLevel.{ProgramLevel}
use Rattle.proof_cycles.specs.Below.net.declared.cycle.Ordinal.{Ordinal}
use Rattle.proof_cycles.specs.Below.net.declared.cycle.Ordinal.TheVariants.{Third}
use Rattle.proof_reports.specs.Below.chart_lines.ChartsWords.Chart.{Chart}
use Rattle.proof_reports.specs.Below.chart_lines.declared.charts.chart.Line.{Line}
use Rattle.proof_reports.specs.Below.chart_lines.declared.charts.statement.Statement.{Statement}
use Rattle.proof_reports.specs.Below.hubs.SetupsWords.Wiring.{Wiring}
use Rattle.proof_reports.specs.Below.hubs.declared.hub.Hub.TheVariants.{W}
use Rattle.proof_reports.specs.Below.hubs.declared.hub.Hub.{Hub}
use Rattle.proof_cycles.specs.Below.net.Panel.{contact_of}
use Rattle.proof_cycles.specs.Below.net.declared.cycle.Point.TheVariants.{Row}
use Rattle.proof_reports.specs.PrintedLines.Shown.{Shown, set_on, sets_of, wheel_of_shown}
use Rattle.proof_reports.proofs.WiredPanels.Ways.{same_tests}
use Rattle.proof_reports.specs.WiredPanels.CycleRows.{CycleRow, is_closed}
use Rattle.proof_reports.specs.WiredPanels.Panel.Arrives.{straight, through}
use Rattle.proof_reports.specs.WiredPanels.PanelCycles.{IsPanelCycle}
use Rattle.proof_reports.proofs.WiredPanels.Sources.{sent}
use Rattle.proof_reports.proofs.Below.chart_lines.ChartsWords.Listed.{place-of}
use Rattle.proof_reports.proofs.WiredPanels.SpeakersLawful.{overlaps-not}
use Rattle.proof_reports.proofs.WiredPanels.Straight.{row_arrives}
use Rattle.proof_reports.proofs.WiredPanels.ToWheels.{ArrivesThere, Emits, WireAt}

-- whether an item stands on a wheel, and what it sends there
abbrev pub stands_on : Shown → ℕ → Bool
stands_on shown v = nat_le (wheel_of_shown shown) v && nat_lt v (wheel_of_shown shown + length (sets_of shown))

abbrev pub sent_on : Shown → ℕ → ℕ
sent_on shown v = slice_index_or (sets_of shown) (v - wheel_of_shown shown) 0

-- A line of the chart sends a row to a wheel.
pub record Sent (sends : Statement → Option Shown) (lines : List Line) (v row : ℕ) : Type 0 where
  pub line : Line
  pub place : ℕ
  pub listed : slice_get lines place ≡ Some line
  pub shown : Shown
  pub is_sent : sends line.statement ≡ Some shown
  pub there : stands_on shown v ≡ true
  pub on : has_row (sent_on shown v) row ≡ true

-- an empty set has no rows
pub no_rows : (row : CardRow) → has_row 0 (row_number row) ≡ false
no_rows row.Zero = refl
no_rows row.One = refl
no_rows row.Two = refl
no_rows row.Three = refl
no_rows row.Four = refl
no_rows row.Five = refl
no_rows row.Six = refl
no_rows row.Seven = refl
no_rows row.Eight = refl
no_rows row.Nine = refl
no_rows row.Eleven = refl
no_rows row.Twelve = refl

after : (sends : Statement → Option Shown) (first : Line) (lines : List Line) (v row : ℕ) → Sent sends lines v row → Sent sends (first ∷ lines) v row
after sends first lines v row sent = record {
  line = sent.line;
  place = suc sent.place;
  listed = sent.listed;
  shown = sent.shown;
  is_sent = sent.is_sent;
  there = sent.there;
  on = sent.on;
}

-- the row of a wheel comes from a line of the chart
pub sent-from : (sends : Statement → Option Shown) (lines : List Line) (v : ℕ) (row : CardRow)
    → has_row (set_on (filter_map (λ line. sends line.statement) lines) v) (row_number row) ≡ true → Sent sends lines v (row_number row)
sent-from sends [] v row on = let none = no_rows row in cc
sent-from sends (line ∷ lines) v row on = by (sends line.statement) refl (sent-from sends lines v row) on
  where
    Rest : Type 0
    Rest = has_row (set_on (filter_map (λ each. sends each.statement) lines) v) (row_number row) ≡ true → Sent sends lines v (row_number row)

    covered : (shown : Shown) (b : Bool) → sends line.statement ≡ Some shown → stands_on shown v ≡ b → Rest
        → has_row (cond b (sent_on shown v) (set_on (filter_map (λ each. sends each.statement) lines) v)) (row_number row) ≡ true
        → Sent sends (line ∷ lines) v (row_number row)
    covered shown true is stands rest there =
        record { line = line; place = 0; listed = refl; shown = shown; is_sent = is; there = stands; on = there }
    covered shown false is stands rest there = after sends line lines v (row_number row) (rest there)

    by : (o : Option Shown) → sends line.statement ≡ o → Rest
        → has_row (set_on (cons_option o (filter_map (λ each. sends each.statement) lines)) v) (row_number row) ≡ true
        → Sent sends (line ∷ lines) v (row_number row)
    by None is rest there = after sends line lines v (row_number row) (rest there)
    by (Some shown) is rest there = covered shown (stands_on shown v) is refl rest there

-- no two items that lines of the chart send stand on the wheel
abbrev pub StandApart : (Statement → Option Shown) → List Line → ℕ → Type 0
StandApart sends lines v =
    (i j : ℕ) (one other : Line) (a b : Shown) → i < j → slice_get lines i ≡ Some one → slice_get lines j ≡ Some other
    → sends one.statement ≡ Some a → sends other.statement ≡ Some b → stands_on a v ≡ true → stands_on b v ≡ true → ⊥

-- a line of the chart brings its row to the wheel
pub sent-to : (sends : Statement → Option Shown) (lines : List Line) (v : ℕ) (row : CardRow) → StandApart sends lines v
    → (place : ℕ) (line : Line) (shown : Shown) → slice_get lines place ≡ Some line → sends line.statement ≡ Some shown
    → stands_on shown v ≡ true → has_row (sent_on shown v) (row_number row) ≡ true
    → has_row (set_on (filter_map (λ each. sends each.statement) lines) v) (row_number row) ≡ true
sent-to sends [] v row apart place line shown listed is there on = cc
sent-to sends (first ∷ lines) v row apart zero line shown listed is there on =
    let e : first ≡ line = cc in
    let f : sends first.statement ≡ Some shown = ap (λ l. sends l.statement) e ∙ is in
    ap (λ o. has_row (set_on (cons_option o (filter_map (λ each. sends each.statement) lines)) v) (row_number row)) f
    ∙ ap (λ b. has_row (cond b (sent_on shown v) (set_on (filter_map (λ each. sends each.statement) lines) v)) (row_number row)) there
    ∙ on
sent-to sends (first ∷ lines) v row apart (suc place) line shown listed is there on =
    by (sends first.statement) refl
    (sent-to sends lines v row
    (λ i j one other a b less at at_other is_one is_other on_one on_other.
    apart (suc i) (suc j) one other a b (omega (arith, less)) at at_other is_one is_other on_one on_other)
    place line shown listed is there on)
  where
    Rest : Type 0
    Rest = has_row (set_on (filter_map (λ each. sends each.statement) lines) v) (row_number row) ≡ true

    covered : (a : Shown) (b : Bool) → sends first.statement ≡ Some a → stands_on a v ≡ b → Rest
        → has_row (cond b (sent_on a v) (set_on (filter_map (λ each. sends each.statement) lines) v)) (row_number row) ≡ true
    covered a true sent stands rest = absurd (apart 0 (suc place) first line a shown (omega arith) refl listed sent is stands there)
    covered a false sent stands rest = rest

    by : (o : Option Shown) → sends first.statement ≡ o → Rest
        → has_row (set_on (cons_option o (filter_map (λ each. sends each.statement) lines)) v) (row_number row) ≡ true
    by None sent rest = rest
    by (Some a) sent rest = covered a (stands_on a v) sent refl rest

-- The printed line of a cycle.
pub data IsLineOf : Cycle → PrintedLine → Type 0 where
  heading : (heading : Ordinal) (line : HeadingLine) → heading_number line ≡ ordinal_number heading → IsLineOf (Head heading) (Heading line)
  detail : IsLineOf Card (Body body.Detail)
  total : (level : ProgramLevel) (its : Level) → chart_number its ≡ level_number level → IsLineOf (Prog level Third) (Body (body.Total its))

same-line-of : {cycle : Cycle} {one other : PrintedLine} → IsLineOf cycle one → IsLineOf cycle other → is_same_line one other ≡ true
same-line-of (heading h line is) (heading _ other are) = grind (arith, nat_tests, is, are)
same-line-of detail detail = refl
same-line-of (total level its is) (total _ other are) = grind (arith, nat_tests, is, are)

-- What lines send is an item of theirs on the printed line of the cycle, on all its wheels.
abbrev pub SendsItems : Chart → (Statement → Option Shown) → ℕ → Cycle → Type 0
SendsItems chart sends v cycle =
    (line : Line) (place : ℕ) (shown : Shown) → slice_get chart.lines place ≡ Some line → sends line.statement ≡ Some shown
    → stands_on shown v ≡ true
    → (item : Item) × (item_of (fields_of chart.lines) line.statement ≡ Some item) × HasWheel item v × IsLineOf cycle item.line

pub stand-apart : (chart : Chart) (sends : Statement → Option Shown) (v : ℕ) (cycle : Cycle) → IsLawful chart
    → SendsItems chart sends v cycle → StandApart sends chart.lines v
stand-apart chart sends v cycle lawful items i j one other a b less at at_other is_one is_other on_one on_other =
    let (item, is_item, wheel, line) = items one i a at is_one on_one in
    let (its, is_its, its_wheel, its_line) = items other j b at_other is_other on_other in
    meets (item_of (fields_of chart.lines) one.statement) (item_of (fields_of chart.lines) other.statement) item its is_item is_its wheel its_wheel
    (same-line-of line its_line) (overlaps-not chart i j one other lawful less at at_other)
  where
    both : (a b : Bool) → a ≡ true → b ≡ true → (a && b) ≡ false → ⊥
    both true true p q r = cc
    both true false p q r = cc
    both false b p q r = cc

    meets : (x y : Option Item) (item its : Item) → x ≡ Some item → y ≡ Some its → HasWheel item v → HasWheel its v
        → is_same_line item.line its.line ≡ true → overlap x y ≡ false → ⊥
    meets x y item its is are (from, to) (low, high) same apart =
        let e : overlap (Some item) (Some its) ≡ false = sym (ap (λ o. overlap o y) is ∙ ap (overlap (Some item)) are) ∙ apart in
        let f : meet item its ≡ true = grind (arith, nat_tests, from, to, low, high) in
        both (is_same_line item.line its.line) (meet item its) same f e

-- A line of the chart sends a row to a wheel, by what it says.
pub record SendsRow (sends : Statement → Option Shown) (statement : Statement) (v row : ℕ) : Type 0 where
  pub shown : Shown
  pub is_sent : sends statement ≡ Some shown
  pub there : stands_on shown v ≡ true
  pub on : has_row (sent_on shown v) row ≡ true

contained : {X : Type 0} (list : List X) (x : X) (place : ℕ) → slice_get list place ≡ Some x → Contains list x
contained list x place at =
    (place, slice_get_within list place x at, get_or_from_slice_get list place x x at)

-- What lines send to a wheel is what arrives there: straight from an exit, or after a contact; and all that they send arrives.
pub record Shows (at : CycleRow) (sends : Statement → Option Shown) : Type 0 where
  pub direct : (line : Line) {statement : Statement} {x : Hub} {v : ℕ} → Contains at.chart.lines line → line.statement ≡ statement
      → Emits at x → WireAt at line.number statement x (W v) → SendsRow sends statement v (row_number at.row)
  pub by_contact : (line other : Line) {statement its : Statement} {x common contact : Hub} {v : ℕ}
      → Contains at.chart.lines line → Contains at.chart.lines other → line.statement ≡ statement → other.statement ≡ its
      → Emits at x → WireAt at other.number its x common → contact_of contact ≡ Some common → is_closed at contact ≡ true
      → WireAt at line.number statement contact (W v) → SendsRow sends statement v (row_number at.row)
  pub all : (line : Line) (v : ℕ) → Contains at.chart.lines line → SendsRow sends line.statement v (row_number at.row) → ArrivesThere at (W v)

-- A wheel receives what the lines of the chart send to it.
pub rows-same : (wiring : Wiring) (at : CycleRow) (sends : Statement → Option Shown) (v : ℕ)
    → IsPanelCycle at.chart at.plan wiring at.old at.cycle at.pictures → SendsItems at.chart sends v at.cycle → Shows at sends
    → at.pictures (Row at.row) (W v) ≡ has_row (set_on (filter_map (λ line. sends line.statement) at.chart.lines) v) (row_number at.row)
rows-same wiring at sends v it items shows =
    let ways = row_arrives at.chart at.plan wiring at.old at.cycle at.pictures it at.row (W v) refl refl in
    same_tests _ _ (λ on. to (ways.0 on) refl) (λ on. ways.1 (from (sent-from sends at.chart.lines v at.row on)))
  where
    Received : Type 0
    Received = has_row (set_on (filter_map (λ line. sends line.statement) at.chart.lines) v) (row_number at.row) ≡ true

    send : (line : Line) → Contains at.chart.lines line → SendsRow sends line.statement v (row_number at.row) → Received
    send line (place, within, is) row =
        sent-to sends at.chart.lines v at.row (stand-apart at.chart sends v at.cycle it.panel.lawful items)
        place line row.shown (place-of at.chart.lines line place within is) row.is_sent row.there row.on

    moved : {x a b : Hub} {number : ℕ} {statement : Statement} → a ≡ b → WireAt at number statement x a → WireAt at number statement x b
    moved {x} {a} {b} {number} {statement} same wire = subst (λ h. WireAt at number statement x h) same wire

    to : {hub : Hub} → ArrivesThere at hub → hub ≡ W v → Received
    to (straight exit hub on wire) is =
        send wire.line wire.listed
        (shows.direct wire.line wire.listed refl (sent at.old at.pictures at.cycle at.row exit on) (moved is wire.wire))
    to (through exit common contact hub on wire leads shut last) is =
        send last.line last.listed
        (shows.by_contact last.line wire.line last.listed wire.listed refl refl (sent at.old at.pictures at.cycle at.row exit on) wire.wire
        leads shut (moved is last.wire))

    from : Sent sends at.chart.lines v (row_number at.row) → ArrivesThere at (W v)
    from sent =
        shows.all sent.line v (contained at.chart.lines sent.line sent.place sent.listed)
        (record { shown = sent.shown; is_sent = sent.is_sent; there = sent.there; on = sent.on })
