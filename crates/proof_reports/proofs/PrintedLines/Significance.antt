-- Wheel by wheel: what each wheel gives to its right neighbour, and that nothing is given to the first wheel of an amount.
use Rattle.std.proofs.Common.{◌≡◌, ◌∙◌, ◌⊎◌, inl, inr, refl, sym, ap, ap₂, ℕ, zero, suc, pred, ◌+◌, ◌<◌, ◌≤◌, ◌&&◌, ◌||◌, Bool, true, false, ◌∷◌, map, length, Contains, Option, Some, arith}
use Rattle.std.specs.List.{range_with_len}
use Rattle.wiring_table.specs.Below.chart_lines.ChartsWords.Chart.{Chart}
use Rattle.wiring_table.specs.Below.chart_lines.declared.charts.chart.Line.{Line}
use Rattle.wiring_table.specs.Below.chart_lines.declared.charts.statement.Statement.{Statement}
use Rattle.wiring_table.specs.Below.chart_line_rules.declared.print_rules.items.Figure.{Figure}
use Rattle.wiring_table.specs.Below.chart_line_rules.declared.print_rules.items.Item.{Item}
use Rattle.wiring_table.specs.Below.chart_line_rules.declared.print_rules.items.PrintedLine.{PrintedLine}
use Rattle.wiring_table.specs.Below.chart_line_rules.FieldRules.Fields.{fields_of}
use Rattle.wiring_table.specs.Below.chart_line_rules.PrintRules.Items.{item_of, figure_item, figure_width}
use Rattle.wiring_table.specs.Below.chart_rules.Rules.{IsLawful}
use Rattle.wiring_table.specs.Below.chart_line_rules.PrintRules.Wheels.{HasWheel, is_body}
use Rattle.wiring_table.specs.Jacks.{ChartJack}
use Rattle.print_unit.specs.Below.hubs.declared.jack.Jack.TheVariants as jack
use Rattle.print_unit.specs.ZeroControl.{is_figure, shown, printed_from}
use Rattle.proof_reports.specs.PrintedLines.Shown.{Shown, HasJacksOf, wheel_with, wheel_of_shown, sets_of}
use Rattle.proof_reports.proofs.PrintedLines.Characters.{received, blank-figure}
use Rattle.proof_reports.proofs.PrintedLines.Jacks.{FigureItem, plugs-link}
use Rattle.proof_reports.proofs.PrintedLines.LawfulItems.{item-on_wheels}
use Rattle.proof_reports.proofs.PrintedLines.Meeting.{same-or-agree}
use Rattle.proof_reports.proofs.PrintedLines.OwnJacks.{ends-alike}
use Rattle.proof_reports.proofs.PrintedLines.Sending.{IsSending, item_for, Source, sets_on, source, sent-alone}

-- whether a wheel gives significance to its right neighbour; there is no wheel 0
abbrev pub given : (ℕ → Bool) → (ℕ → ℕ) → ℕ → Bool
given link set zero = false
given link set (suc v) = link (suc v) && given link set v || is_figure (received (set (suc v)))

-- what a wheel prints
abbrev pub printed_at : (link suppress symbol : ℕ → Bool) → (ℕ → ℕ) → ℕ → ℕ
printed_at link suppress symbol set v =
    shown (link v && given link set (pred v)) (wheel_with link suppress symbol set v)

-- a row of wheels prints what each of them does
pub printed-wheels : (link suppress symbol : ℕ → Bool) (set : ℕ → ℕ) (v count : ℕ)
    → printed_from true (given link set v) (map (wheel_with link suppress symbol set) (range_with_len (suc v) count))
    ≡ map (printed_at link suppress symbol set) (range_with_len (suc v) count)
printed-wheels link suppress symbol set v zero = refl
printed-wheels link suppress symbol set v (suc count) =
    let next : suc v + 1 ≡ suc (suc v) = omega arith in
    ap (λ line. printed_at link suppress symbol set (suc v) ∷ line)
    (ap (λ u. printed_from true (given link set (suc v)) (map (wheel_with link suppress symbol set) (range_with_len u count))) next
    ∙ printed-wheels link suppress symbol set (suc v) count
    ∙ sym (ap (λ u. map (printed_at link suppress symbol set) (range_with_len u count)) next))

-- The lines of a lawful chart send to one body line, and the jacks are the chart's.
pub record IsBodyLine (chart : Chart) (link suppress symbol : ℕ → Bool) (kind : PrintedLine → Bool)
    (sends : Statement → Option Shown) : Type 0 where
  pub lawful : IsLawful chart
  pub jacks : HasJacksOf chart.lines link suppress symbol
  pub body : (on : PrintedLine) → kind on ≡ true → is_body on ≡ true
  pub sending : IsSending chart.lines kind sends

-- An item of the line, of a wheel at least.
pub record IsOwn (chart : Chart) (sends : Statement → Option Shown) (own : Shown) : Type 0 where
  pub line : Line
  pub there : Contains chart.lines line
  pub sent : sends line.statement ≡ Some own
  pub some : 0 < length (sets_of own)

-- An amount of some line leads over a wheel to the wheels of an item, and ends with it.
pub record LeadsTo (chart : Chart) (own : Shown) (v : ℕ) : Type 0 where
  pub wheel : ℕ
  pub figure : Figure
  pub item : FigureItem chart.lines wheel figure
  pub low : wheel ≤ v
  pub end : wheel + figure_width figure ≡ wheel_of_shown own + length (sets_of own)

-- no item of the line stands on such a wheel before the own item
bare : (chart : Chart) (link suppress symbol : ℕ → Bool) (kind : PrintedLine → Bool) (sends : Statement → Option Shown)
    (own : Shown) → IsBodyLine chart link suppress symbol kind sends → IsOwn chart sends own → (v : ℕ)
    → v < wheel_of_shown own → LeadsTo chart own v → sets_on chart sends v ≡ 0
bare chart link suppress symbol kind sends own is asked v before leads = by (source sends v chart.lines)
  where
    no_source : Source chart.lines sends v → ⊥
    no_source found =
        let some = asked.some in
        let end = leads.end in
        let low_found = found.on.0 in
        let item = is.sending.items found.line found.shown found.there found.sent in
        let one = item_for item.line found.shown in
        let two = figure_item leads.item.on leads.wheel leads.figure in
        let ends : wheel_of_shown found.shown + length (sets_of found.shown) ≡ leads.wheel + figure_width leads.figure
        = ends-alike one two leads.figure refl
        (same-or-agree chart is.lawful found.line leads.item.line one two v found.there leads.item.there item.is_item
        leads.item.is_item (is.body item.line item.is_on) leads.item.is_body_line found.on
        (leads.low, omega (arith, before, end, some))) in
        let same = sent-alone chart is.lawful kind sends is.sending found.line asked.line found.shown own (wheel_of_shown own)
        found.there asked.there found.sent asked.sent
        (omega (arith, low_found, before), omega (arith, ends, end, some)) (omega arith, omega (arith, some)) in
        let first : wheel_of_shown found.shown ≡ wheel_of_shown own = ap wheel_of_shown same in
        absurd (omega (arith, first, low_found, before))

    by : (sets_on chart sends v ≡ 0) ⊎ Source chart.lines sends v → sets_on chart sends v ≡ 0
    by (inl empty) = empty
    by (inr found) = absurd (no_source found)

-- an amount that links such a wheel leads over the wheel before it
leads-back : (chart : Chart) → IsLawful chart → (own : Shown) (v : ℕ) (item : Item) (line : Line)
    → Contains chart.lines line → item_of (fields_of chart.lines) line.statement ≡ Some item → is_body item.line ≡ true
    → HasWheel item (suc v) → item.end ≡ wheel_of_shown own + length (sets_of own) → ChartJack chart.lines (jack.Link (suc v))
    → LeadsTo chart own v
leads-back chart lawful own v item line there is body on end plugged =
    let more = plugs-link chart.lines (suc v) plugged in
    let low = more.inside_it.0 in
    let two = figure_item more.item.on more.wheel more.figure in
    let ends = ends-alike item two more.figure refl
    (same-or-agree chart lawful line more.item.line item two (suc v) there more.item.there is more.item.is_item body
    more.item.is_body_line on (omega (arith, low), more.inside_it.1)) in
    record { wheel = more.wheel; figure = more.figure; item = more.item; low = omega (arith, low); end = sym ends ∙ end }

-- nor does such a wheel give significance
nothing-given : (chart : Chart) (link suppress symbol : ℕ → Bool) (kind : PrintedLine → Bool) (sends : Statement → Option Shown)
    (own : Shown) → IsBodyLine chart link suppress symbol kind sends → IsOwn chart sends own → wheel_of_shown own ≤ 120
    → (v : ℕ) → v < wheel_of_shown own → LeadsTo chart own v → given link (sets_on chart sends) v ≡ false
nothing-given chart link suppress symbol kind sends own is asked on zero before leads = refl
nothing-given chart link suppress symbol kind sends own is asked on (suc v) before leads =
    ap₂ (λ a b. a || b)
    (by (link (suc v)) refl
    (nothing-given chart link suppress symbol kind sends own is asked on v (omega (arith, before))))
    (ap (λ s. is_figure (received s)) (bare chart link suppress symbol kind sends own is asked (suc v) before leads)
    ∙ blank-figure)
  where
    by : (b : Bool) → link (suc v) ≡ b → (LeadsTo chart own v → given link (sets_on chart sends) v ≡ false)
        → (link (suc v) && given link (sets_on chart sends) v) ≡ false
    by false test nothing = ap (λ b. b && given link (sets_on chart sends) v) test
    by true test nothing =
        let some = asked.some in
        let end = leads.end in
        ap₂ (λ a b. a && b) test
        (nothing
        (leads-back chart is.lawful own v (figure_item leads.item.on leads.wheel leads.figure) leads.item.line
        leads.item.there leads.item.is_item leads.item.is_body_line (leads.low, omega (arith, before, end, some)) leads.end
        ((is.jacks.links (suc v) (omega arith) (omega (arith, on, before))).0 test)))

-- the first wheel of an item has no significance
pub first-alone : (chart : Chart) (link suppress symbol : ℕ → Bool) (kind : PrintedLine → Bool) (sends : Statement → Option Shown)
    (own : Shown) → IsBodyLine chart link suppress symbol kind sends → IsOwn chart sends own → (v : ℕ)
    → wheel_of_shown own ≡ suc v → (link (suc v) && given link (sets_on chart sends) v) ≡ false
first-alone chart link suppress symbol kind sends own is asked v first = by (link (suc v)) refl
  where
    by : (b : Bool) → link (suc v) ≡ b → (link (suc v) && given link (sets_on chart sends) v) ≡ false
    by false test = ap (λ b. b && given link (sets_on chart sends) v) test
    by true test =
        let some = asked.some in
        let item = is.sending.items asked.line own asked.there asked.sent in
        let on = item-on_wheels chart is.lawful asked.line (item_for item.line own) asked.there item.is_item in
        let end = on.end in
        let short : wheel_of_shown own ≤ 120 = omega (arith, end, some) in
        ap₂ (λ a b. a && b) test
        (nothing-given chart link suppress symbol kind sends own is asked short v (omega (arith, first))
        (leads-back chart is.lawful own v (item_for item.line own) asked.line asked.there
        item.is_item (is.body item.line item.is_on) (omega (arith, first), omega (arith, first, some)) refl
        ((is.jacks.links (suc v) (omega arith) (omega (arith, short, first))).0 test)))
