-- What the lines of a chart send to one printed line: it comes from their items, and of these only one stands on a wheel.
use Rattle.std.proofs.Common.{◌≡◌, ◌∙◌, ◌⊎◌, inl, inr, refl, sym, ap, subst, ℕ, zero, suc, ◌+◌, ◌-◌, ◌<◌, ◌&&◌, nat_le, nat_lt, cond, Bool, true, false, List, [], ◌∷◌, length, slice_index_or, Contains, Option, Some, None, arith}
use Rattle.std.specs.List.{filter_map, cons_option}
use Rattle.std.proofs.lemmas.Bool.Decides.{nat_tests}
use Rattle.wiring_table.specs.Below.chart_lines.ChartsWords.Chart.{Chart}
use Rattle.wiring_table.specs.Below.chart_lines.declared.charts.chart.Line.{Line}
use Rattle.wiring_table.specs.Below.chart_lines.declared.charts.statement.Statement.{Statement}
use Rattle.wiring_table.specs.Below.chart_line_rules.declared.print_rules.items.Figure.{Figure}
use Rattle.wiring_table.specs.Below.chart_line_rules.declared.print_rules.items.Item.{Item}
use Rattle.wiring_table.specs.Below.chart_line_rules.declared.print_rules.items.PrintedLine.{PrintedLine}
use Rattle.wiring_table.specs.Below.chart_line_rules.FieldRules.Fields.{fields_of}
use Rattle.wiring_table.specs.Below.chart_line_rules.PrintRules.Items.{item_of, is_same_line}
use Rattle.wiring_table.specs.Below.chart_rules.Rules.{IsLawful}
use Rattle.wiring_table.specs.Figures.{IsFigure}
use Rattle.proof_reports.specs.PrintedLines.Laws.{HasWheelOf}
use Rattle.proof_reports.specs.PrintedLines.Shown.{Shown, Characters, Amount, wheel_of_shown, sets_of, set_on}
use Rattle.proof_reports.proofs.PrintedLines.Meeting.{one-line}

-- the figure of what is sent, if it is an amount
abbrev pub figure_of : Shown → Option Figure
figure_of (Characters wheel sets) = None
figure_of (Amount wheel figure digits negative) = Some figure

-- the item on a printed line that sends this
abbrev pub item_for : PrintedLine → Shown → Item
item_for line shown = record {
  line = line;
  first = wheel_of_shown shown;
  end = wheel_of_shown shown + length (sets_of shown);
  figure = figure_of shown;
}

-- what is sent as an amount is an amount of the chart, with all its digits
abbrev pub IsAmountSent : List Line → Statement → Shown → Type 0
IsAmountSent lines statement (Characters wheel sets) = Unit {0}
IsAmountSent lines statement (Amount wheel figure digits negative) =
    (emitter : ℕ) × IsFigure lines statement emitter wheel figure × (length digits ≡ figure.digits)

-- What a line of the chart sends is its item's, on a printed line of a kind.
pub record IsItems (lines : List Line) (kind : PrintedLine → Bool) (statement : Statement) (shown : Shown) : Type 0 where
  pub amount : IsAmountSent lines statement shown
  pub line : PrintedLine
  pub is_on : kind line ≡ true
  pub is_item : item_of (fields_of lines) statement ≡ Some (item_for line shown)

-- The lines of a chart send to one printed line: that of a kind.
pub record IsSending (lines : List Line) (kind : PrintedLine → Bool) (sends : Statement → Option Shown) : Type 0 where
  pub one : (first second : PrintedLine) → kind first ≡ true → kind second ≡ true → is_same_line first second ≡ true
  pub items :
      (line : Line) (shown : Shown) → Contains lines line → sends line.statement ≡ Some shown
      → IsItems lines kind line.statement shown

-- the sets that come to the wheels of the line
abbrev pub sets_on : Chart → (Statement → Option Shown) → ℕ → ℕ
sets_on chart sends = set_on (filter_map (λ l. sends l.statement) chart.lines)

-- on a wheel stands what one line of the chart sends
pub sent-alone : (chart : Chart) → IsLawful chart → (kind : PrintedLine → Bool) (sends : Statement → Option Shown)
    → IsSending chart.lines kind sends → (line other_line : Line) (shown other : Shown) (v : ℕ)
    → Contains chart.lines line → Contains chart.lines other_line → sends line.statement ≡ Some shown
    → sends other_line.statement ≡ Some other → HasWheelOf shown v → HasWheelOf other v → shown ≡ other
sent-alone chart lawful kind sends sending line other_line shown other v there there_other sent sent_other on on_other =
    let item = sending.items line shown there sent in
    let second = sending.items other_line other there_other sent_other in
    let same = one-line chart lawful line other_line (item_for item.line shown) (item_for second.line other) v there there_other
    item.is_item second.is_item (sending.one item.line second.line item.is_on second.is_on)
    (sending.one second.line item.line second.is_on item.is_on) on on_other in
    let equal : Some shown ≡ Some other = sym sent ∙ ap (λ (l : Line). sends l.statement) same ∙ sent_other in
    cc

-- whether a wheel is one of an item's
abbrev pub covers : Shown → ℕ → Bool
covers shown v = nat_le (wheel_of_shown shown) v && nat_lt v (wheel_of_shown shown + length (sets_of shown))

pub covers-true : (shown : Shown) (v : ℕ) → covers shown v ≡ true → HasWheelOf shown v
covers-true shown v test = (grind (arith, nat_tests, test), grind (arith, nat_tests, test))

pub covers-false : (shown : Shown) (v : ℕ) → covers shown v ≡ false → HasWheelOf shown v → ⊥
covers-false shown v test (low, high) = grind (arith, nat_tests, test, low, high)

-- the set on a wheel is that of an item that stands there, where none stands there that differs from it
own-among : (sends : Statement → Option Shown) (shown : Shown) (v : ℕ) (lines : List Line)
    → ((other_line : Line) (other : Shown) → Contains lines other_line → sends other_line.statement ≡ Some other
    → HasWheelOf other v → other ≡ shown)
    → (line : Line) → Contains lines line → sends line.statement ≡ Some shown → HasWheelOf shown v
    → set_on (filter_map (λ l. sends l.statement) lines) v ≡ slice_index_or (sets_of shown) (v - wheel_of_shown shown) 0
own-among sends shown v [] alone line (k, within, is) sent on = absurd (omega (arith, within))
own-among sends shown v (first ∷ lines) alone line there sent on =
    by (sends first.statement) refl there
    (λ among. own-among sends shown v lines (λ l s c. alone l s (later c)) line among sent on)
  where
    later : {l : Line} → Contains lines l → Contains (first ∷ lines) l
    later (k, within, is) = (suc k, omega (arith, within), is)

    Rest : Type 0
    Rest = set_on (filter_map (λ l. sends l.statement) lines) v ≡ slice_index_or (sets_of shown) (v - wheel_of_shown shown) 0

    by : (o : Option Shown) → sends first.statement ≡ o → Contains (first ∷ lines) line → (Contains lines line → Rest)
        → set_on (cons_option o (filter_map (λ l. sends l.statement) lines)) v
        ≡ slice_index_or (sets_of shown) (v - wheel_of_shown shown) 0
    by None none (zero, within, is) rest =
        let equal : None ≡ Some shown = sym none ∙ ap (λ (l : Line). sends l.statement) is ∙ sent in cc
    by None none (suc k, within, is) rest = rest (k, omega (arith, within), is)
    by (Some other) given there rest = by_test (covers other v) refl there
      where
        by_test : (b : Bool) → covers other v ≡ b → Contains (first ∷ lines) line
            → cond b (slice_index_or (sets_of other) (v - wheel_of_shown other) 0)
            (set_on (filter_map (λ l. sends l.statement) lines) v)
            ≡ slice_index_or (sets_of shown) (v - wheel_of_shown shown) 0
        by_test true test there =
            let same = alone first other (0, omega arith, refl) given (covers-true other v test) in
            ap (λ s. slice_index_or (sets_of s) (v - wheel_of_shown s) 0) same
        by_test false test (zero, within, is) =
            let equal : Some other ≡ Some shown = sym given ∙ ap (λ (l : Line). sends l.statement) is ∙ sent in
            let same : other ≡ shown = cc in
            absurd (covers-false other v test (subst (λ s. HasWheelOf s v) (sym same) on))
        by_test false test (suc k, within, is) = rest (k, omega (arith, within), is)

-- An item that stands on a wheel, and the line of the chart that sends it.
pub record Source (lines : List Line) (sends : Statement → Option Shown) (v : ℕ) : Type 0 where
  pub line : Line
  pub shown : Shown
  pub there : Contains lines line
  pub sent : sends line.statement ≡ Some shown
  pub on : HasWheelOf shown v

-- on a wheel stands an item, or it gets no rows
pub source : (sends : Statement → Option Shown) (v : ℕ) (lines : List Line)
    → (set_on (filter_map (λ l. sends l.statement) lines) v ≡ 0) ⊎ Source lines sends v
source sends v [] = inl refl
source sends v (first ∷ lines) = by (sends first.statement) refl (source sends v lines)
  where
    later : Source lines sends v → Source (first ∷ lines) sends v
    later found = record {
      line = found.line;
      shown = found.shown;
      there = let c = found.there in (suc c.0, let within = c.1 in omega (arith, within), c.2);
      sent = found.sent;
      on = found.on;
    }

    by : (o : Option Shown) → sends first.statement ≡ o
        → (set_on (filter_map (λ l. sends l.statement) lines) v ≡ 0) ⊎ Source lines sends v
        → (set_on (cons_option o (filter_map (λ l. sends l.statement) lines)) v ≡ 0) ⊎ Source (first ∷ lines) sends v
    by None none (inl empty) = inl empty
    by None none (inr found) = inr (later found)
    by (Some shown) given rest = by_test (covers shown v) refl rest
      where
        by_test : (b : Bool) → covers shown v ≡ b
            → (set_on (filter_map (λ l. sends l.statement) lines) v ≡ 0) ⊎ Source lines sends v
            → (cond b (slice_index_or (sets_of shown) (v - wheel_of_shown shown) 0)
            (set_on (filter_map (λ l. sends l.statement) lines) v)
            ≡ 0) ⊎ Source (first ∷ lines) sends v
        by_test true test rest =
            inr (record { line = first; shown = shown; there = (0, omega arith, refl); sent = given; on = covers-true shown v test })
        by_test false test (inl empty) = inl empty
        by_test false test (inr found) = inr (later found)

-- the set on a wheel of an item is the item's
pub own-set : (chart : Chart) → IsLawful chart → (kind : PrintedLine → Bool) (sends : Statement → Option Shown)
    → IsSending chart.lines kind sends → (line : Line) (shown : Shown) (v : ℕ) → Contains chart.lines line
    → sends line.statement ≡ Some shown → HasWheelOf shown v
    → set_on (filter_map (λ l. sends l.statement) chart.lines) v ≡ slice_index_or (sets_of shown) (v - wheel_of_shown shown) 0
own-set chart lawful kind sends sending line shown v there sent on =
    own-among sends shown v chart.lines
    (λ other_line other there_other sent_other on_other.
    sent-alone chart lawful kind sends sending other_line line other shown v there_other there sent_other sent on_other on)
    line there sent on

-- a wheel on which no item stands gets no rows
pub no-set : (sends : Statement → Option Shown) (v : ℕ) (lines : List Line)
    → ((line : Line) (shown : Shown) → Contains lines line → sends line.statement ≡ Some shown → HasWheelOf shown v → ⊥)
    → set_on (filter_map (λ l. sends l.statement) lines) v ≡ 0
no-set sends v lines none = by (source sends v lines)
  where
    by : (set_on (filter_map (λ l. sends l.statement) lines) v ≡ 0) ⊎ Source lines sends v
        → set_on (filter_map (λ l. sends l.statement) lines) v ≡ 0
    by (inl empty) = empty
    by (inr found) = absurd (none found.line found.shown found.there found.sent found.on)

-- the wheel of a place of an item has the set of the place
pub place-set : (chart : Chart) → IsLawful chart → (kind : PrintedLine → Bool) (sends : Statement → Option Shown)
    → IsSending chart.lines kind sends → (own : Shown) (line : Line) → Contains chart.lines line
    → sends line.statement ≡ Some own → (k : ℕ) → k < length (sets_of own)
    → sets_on chart sends (wheel_of_shown own + k) ≡ slice_index_or (sets_of own) k 0
place-set chart lawful kind sends sending own line there sent k below =
    let place : wheel_of_shown own + k - wheel_of_shown own ≡ k = omega arith in
    own-set chart lawful kind sends sending line own (wheel_of_shown own + k) there sent (omega arith, omega (arith, below))
    ∙ ap (λ p. slice_index_or (sets_of own) p 0) place
