-- The jacks of a chart are those of its lines.
use Rattle.std.proofs.Common.{◌≡◌, ℕ, ◌+◌, ◌<◌, ◌≤◌, ◌==◌, ◌⊎◌, inl, inr, max, true, List, [], ◌∷◌, refl, sym, ap, ◌∙◌, subst, arith}
use Rattle.std.specs.List.{Contains}
use Rattle.std.proofs.lemmas.Bool.{cases_lt, eq-eqb}
use Rattle.std.proofs.lemmas.Bool.Decides.{nat_tests}
use Rattle.chart_lines.specs.ChartsWords.Headings.{heading_number}
use Rattle.chart_lines.specs.ChartsWords.Levels.{level_number}
use Rattle.chart_lines.specs.declared.charts.chart.Line.{Line}
use Rattle.chart_lines.specs.declared.charts.level.Level.{Level}
use Rattle.chart_lines.specs.declared.charts.statement.Printing.TheVariants as prints
use Rattle.chart_lines.specs.declared.charts.statement.Statement.{Statement}
use Rattle.chart_lines.specs.declared.charts.statement.Statement.TheVariants as says
use Rattle.chart_lines.proofs.ChartsWords.Listed.{any-listed, any-passing, listed-first, listed-after, listed-cases, listed-none}
use Rattle.hubs.specs.declared.jack.Jack.{Jack}
use Rattle.hubs.specs.declared.jack.Jack.TheVariants as jack
use Rattle.chart_line_rules.specs.PrintRules.Forms.{heading_count, heading_of}
use Rattle.chart_line_rules.specs.declared.print_rules.items.Figure.{Figure}
use Rattle.wiring_table.specs.Below.report_definition.ChartForm.{is_print_detail, is_total_item}
use Rattle.wiring_table.specs.Jacks.{ChartJack, HasFigure}
use Rattle.wiring_table.specs.Jacks as chart
use Rattle.wiring_lines.proofs.JacksAndTape.ChartJacks.{of-figure}
use Rattle.wiring_lines.specs.JacksAndTape.HelperJacks.{FigureJacks, links, suppresses, symbols, LineJacks, Ranged, ranged}
use Rattle.wiring_lines.specs.JacksAndTape.OfLine.{HasLineJack, PrintJack}

-- PRINT DETAIL asks for LIST
printed : (statement : Statement) → is_print_detail statement ≡ true → PrintJack statement jack.List
printed (says.Print prints.Detail) is = refl
printed other is = cc

-- an item on a total line asks for TOTAL of its level
totalled : (level : ℕ) (statement : Statement) → is_total_item level statement ≡ true → PrintJack statement (jack.Total level)
totalled level (says.TotalLiteral its wheel text) is = same level its is
  where
    same : (level : ℕ) (its : Level) → (level_number its == level) ≡ true → jack.Total level ≡ jack.Total (level_number its)
    same level its is = let e : level ≡ level_number its = grind (arith, nat_tests, is) in ap jack.Total e
totalled level (says.TotalText its wheel name) is =
    let e : level ≡ level_number its = grind (arith, nat_tests, is) in ap jack.Total e
totalled level (says.TotalAmount total) is =
    let e : level ≡ level_number total.level = grind (arith, nat_tests, is) in ap jack.Total e
totalled level other is = cc

-- a HEAD line asks for HEAD of the heading lines up to its own
headed : (heading : ℕ) (statement : Statement) → 1 ≤ heading → heading ≤ heading_of statement → PrintJack statement (jack.Head heading)
headed heading (says.Head line wheel text) above under = ranged heading above (omega (arith, under))
headed heading other above under = absurd (omega (arith, above, under))

-- a line of the chart that names a heading line at least as high
record Headed (lines : List Line) (heading : ℕ) : Type 0 where
  line : Line
  listed : Contains lines line
  high : heading ≤ heading_of line.statement

heading-found : (lines : List Line) (heading : ℕ) → 1 ≤ heading → heading ≤ heading_count lines → Headed lines heading
heading-found [] heading above under = absurd (omega (arith, above, under))
heading-found (line ∷ lines) heading above under = by (cases_lt (heading_of line.statement) heading) (heading-found lines heading above)
  where
    by : (heading_of line.statement < heading) ⊎ (heading ≤ heading_of line.statement)
        → (heading ≤ heading_count lines → Headed lines heading) → Headed (line ∷ lines) heading
    by (inl low) rest =
        let found = rest (omega (arith, low, under)) in
        record { line = found.line; listed = listed-after line lines found.listed; high = found.high }
    by (inr high) rest = record { line = line; listed = listed-first line lines; high = high }

-- no line of a chart names a higher heading line than it has
heading-within : (lines : List Line) (line : Line) → Contains lines line → heading_of line.statement ≤ heading_count lines
heading-within [] line listed = absurd (listed-none line listed)
heading-within (first ∷ lines) line listed = by (listed-cases line first lines listed) (heading-within lines line)
  where
    by : (first ≡ line) ⊎ Contains lines line → (Contains lines line → heading_of line.statement ≤ heading_count lines)
        → heading_of line.statement ≤ max (heading_of first.statement) (heading_count lines)
    by (inl here) rest = let e = ap (λ l. heading_of l.statement) here in omega (arith, e)
    by (inr after) rest = let low = rest after in omega (arith, low)

by-figure : (lines : List Line) (wheel : ℕ) (figure : Figure) (each : Jack) → HasFigure lines wheel figure → FigureJacks wheel figure each
    → HasLineJack lines each
by-figure lines wheel figure each has jacks = record {
  line = has.line;
  listed = has.listed;
  asks = inr (record { emitter = has.emitter; wheel = wheel; figure = figure; is_figure = has.is_figure; jacks = jacks });
}

-- each jack of a chart is one of some line
pub jack-there : (lines : List Line) (each : Jack) → ChartJack lines each → HasLineJack lines each
jack-there lines _ (chart.list prints) =
    let found = any-passing (λ l. is_print_detail l.statement) lines prints in
    record { line = found.element; listed = found.listed; asks = inl (printed found.element.statement found.passes) }
jack-there lines _ (chart.total level prints) =
    let found = any-passing (λ l. is_total_item level l.statement) lines prints in
    record { line = found.element; listed = found.listed; asks = inl (totalled level found.element.statement found.passes) }
jack-there lines _ (chart.head heading above under) =
    let found = heading-found lines heading above under in
    record { line = found.line; listed = found.listed; asks = inl (headed heading found.line.statement above found.high) }
jack-there lines _ (chart.link wheel figure v has above under) =
    by-figure lines wheel figure (jack.Link v) has (links (ranged v (omega (arith, above)) under))
jack-there lines _ (chart.suppress wheel figure v has above under) =
    by-figure lines wheel figure (jack.Suppress v) has (suppresses (ranged v above under))
jack-there lines _ (chart.symbol wheel figure v has above under) =
    by-figure lines wheel figure (jack.Symbol v) has (symbols (ranged v above under))

module _ (lines : List Line) (line : Line) (listed : Contains lines line) where
  -- a line that asks for TOTAL of a level has an item of it
  total-back : (level : Level) (each : Jack) → is_total_item (level_number level) line.statement ≡ true
      → each ≡ jack.Total (level_number level) → ChartJack lines each
  total-back level each item is =
      let P : Jack → Type 0 = ChartJack lines in
      subst P (sym is)
      (chart.total (level_number level) (any-listed (λ l. is_total_item (level_number level) l.statement) lines line listed item))

  heads-back : (last : ℕ) (each : Jack) → last ≤ heading_count lines → Ranged jack.Head 1 (last + 1) each → ChartJack lines each
  heads-back last each within (ranged heading above under) = chart.head heading above (omega (arith, under, within))

  print-back : (each : Jack) (statement : Statement) → line.statement ≡ statement → PrintJack statement each → ChartJack lines each
  print-back each (says.Print prints.Detail) is asks =
      let P : Jack → Type 0 = ChartJack lines in
      subst P (sym asks) (chart.list (any-listed (λ l. is_print_detail l.statement) lines line listed (ap is_print_detail is)))
  print-back each (says.Head its wheel text) is asks =
      let within = heading-within lines line listed in
      let e = ap heading_of is in
      heads-back (heading_number its) each (omega (arith, within, e)) asks
  print-back each (says.TotalLiteral level wheel text) is asks =
      total-back level each (ap (is_total_item (level_number level)) is ∙ eq-eqb (level_number level) (level_number level) refl) asks
  print-back each (says.TotalText level wheel name) is asks =
      total-back level each (ap (is_total_item (level_number level)) is ∙ eq-eqb (level_number level) (level_number level) refl) asks
  print-back each (says.TotalAmount total) is asks =
      total-back total.level each (ap (is_total_item (level_number total.level)) is ∙ eq-eqb (level_number total.level) (level_number total.level) refl) asks
  print-back each other is asks = absurd asks

  figure-back : (each : Jack) → LineJacks lines line.statement each → ChartJack lines each
  figure-back each jacks =
      of-figure lines jacks.wheel jacks.figure each
      (record { line = line; listed = listed; emitter = jacks.emitter; is_figure = jacks.is_figure }) jacks.jacks

-- and each jack of a line is one of the chart
pub jack-back : (lines : List Line) (each : Jack) → HasLineJack lines each → ChartJack lines each
jack-back lines each has = elim has.asks [
  | inl asks ↦ print-back lines has.line has.listed each has.line.statement refl asks
  | inr jacks ↦ figure-back lines has.line has.listed each jacks
]
