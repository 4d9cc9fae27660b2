-- The jacks of a chart, level by level and line by line.
use Rattle.std.proofs.Common.{◌≡◌, ℕ, ◌+◌, ◌<◌, ◌≤◌, ◌⊎◌, inl, inr, true, ◌==◌, List, length, Some, slice_get, refl, sym, ap, ◌∙◌, subst, arith}
use Rattle.std.proofs.lemmas.Bool.{cases_lt}
use Rattle.std.proofs.lemmas.Bool.Decides.{nat_tests}
use Rattle.std.proofs.lemmas.Option.{slice_get_read, get_or_from_slice_get}
use Rattle.chart_line_rules.specs.PrintRules.Items.{figure_width}
use Rattle.chart_line_rules.specs.declared.print_rules.items.Figure.{Figure}
use Rattle.chart_lines.specs.ChartsWords.Levels.{level_number}
use Rattle.chart_lines.specs.declared.charts.chart.Line.{Line}
use Rattle.chart_lines.specs.declared.charts.level.Level.{Level}
use Rattle.chart_lines.specs.declared.charts.level.Level.TheVariants as levels
use Rattle.chart_lines.specs.declared.charts.statement.Statement.{Statement}
use Rattle.chart_lines.specs.declared.charts.statement.Statement.TheVariants as says
use Rattle.hubs.specs.SetupsWords.Wiring.{Wiring}
use Rattle.hubs.specs.declared.jack.Jack.{Jack}
use Rattle.hubs.specs.declared.jack.Jack.TheVariants as jack
use Rattle.wiring_table.specs.Below.report_definition.ChartForm.{heading_count, is_total_item, prints_details, prints_totals}
use Rattle.chart_lines.proofs.ChartsWords.Listed.{any-passing}
use Rattle.wiring_lines.proofs.JacksAndTape.Plugging.{plugs-as, plugs-both, plugs-none}
use Rattle.wiring_lines.specs.JacksAndTape.HelperJacks.{FigureJacks, links, suppresses, symbols, JacksBefore, LineJacks, Plugs, Ranged, ranged, TotalsBelow, level}
use Rattle.wiring_table.specs.Jacks.{ChartJack, HasFigure}
use Rattle.wiring_table.specs.Jacks as chart

-- the levels with an item are 1 to 4
level-range : (its_level : Level) (number : ℕ) → (level_number its_level == number) ≡ true → (1 ≤ number) × (number < 5)
level-range levels.Minor number is = (grind (arith, nat_tests, is), grind (arith, nat_tests, is))
level-range levels.Intermediate number is = (grind (arith, nat_tests, is), grind (arith, nat_tests, is))
level-range levels.Major number is = (grind (arith, nat_tests, is), grind (arith, nat_tests, is))
level-range levels.Final number is = (grind (arith, nat_tests, is), grind (arith, nat_tests, is))

item-range : (number : ℕ) (statement : Statement) → is_total_item number statement ≡ true → (1 ≤ number) × (number < 5)
item-range number (says.TotalLiteral its_level wheel text) is = level-range its_level number is
item-range number (says.TotalText its_level wheel name) is = level-range its_level number is
item-range number (says.TotalAmount total) is = level-range total.level number is
item-range number other is = cc

totals-range : (lines : List Line) (number : ℕ) → prints_totals lines number ≡ true → (1 ≤ number) × (number < 5)
totals-range lines number is =
    let found = any-passing (λ l. is_total_item number l.statement) lines is in
    item-range number found.element.statement found.passes

-- no level is below 1
pub totals-none : {lines : List Line} {setup : Wiring} → Plugs (TotalsBelow lines 1) setup setup
totals-none {lines} = plugs-none none
  where
    none : (each : Jack) → TotalsBelow lines 1 each → ⊥
    none each (level number less prints is) = let range = totals-range lines number prints in omega (arith, less, range.0)

-- one level more
pub totals-more : {lines : List Line} {bound : ℕ} {old mid new : Wiring} → Plugs (TotalsBelow lines bound) old mid
    → Plugs (λ each. (each ≡ jack.Total bound) × (prints_totals lines bound ≡ true)) mid new → Plugs (TotalsBelow lines (bound + 1)) old new
totals-more {lines} {bound} so_far next = plugs-both former latter split so_far next
  where
    former : (each : Jack) → TotalsBelow lines bound each → TotalsBelow lines (bound + 1) each
    former each (level number less prints is) = level number (omega (arith, less)) prints is

    latter : (each : Jack) → (each ≡ jack.Total bound) × (prints_totals lines bound ≡ true) → TotalsBelow lines (bound + 1) each
    latter each one = level bound (omega arith) one.1 one.0

    split : (each : Jack) → TotalsBelow lines (bound + 1) each
        → TotalsBelow lines bound each ⊎ ((each ≡ jack.Total bound) × (prints_totals lines bound ≡ true))
    split each (level number less prints is) = by (cases_lt number bound)
      where
        by : (number < bound) ⊎ (bound ≤ number)
            → TotalsBelow lines bound each ⊎ ((each ≡ jack.Total bound) × (prints_totals lines bound ≡ true))
        by (inl under) = inl (level number under prints is)
        by (inr over) =
            let same : number ≡ bound = omega (arith, less, over) in
            inr (is ∙ ap jack.Total same, ap (prints_totals lines) (sym same) ∙ prints)

pub totals-all : {lines : List Line} {bound : ℕ} {old new : Wiring} → Plugs (TotalsBelow lines bound) old new → bound ≡ 5
    → Plugs (TotalsBelow lines 5) old new
totals-all {lines} {bound} {old} {new} added same =
    let P : ℕ → Type 0 = λ n. Plugs (TotalsBelow lines n) old new in
    subst P same added

-- the lines before the first
pub jacks-none : {lines : List Line} {setup : Wiring} → Plugs (JacksBefore lines 0) setup setup
jacks-none {lines} = plugs-none none
  where
    none : (each : Jack) → JacksBefore lines 0 each → ⊥
    none each before = let less = before.before in omega (arith, less)

-- one line more
pub jacks-more : {lines : List Line} {place : ℕ} {line : Line} {old mid new : Wiring} → slice_get lines place ≡ Some line
    → Plugs (JacksBefore lines place) old mid → Plugs (LineJacks lines line.statement) mid new
    → Plugs (JacksBefore lines (place + 1)) old new
jacks-more {lines} {place} {line} at so_far next = plugs-both former latter split so_far next
  where
    former : (each : Jack) → JacksBefore lines place each → JacksBefore lines (place + 1) each
    former each before =
        let less = before.before in
        record { at = before.at; before = omega (arith, less); line = before.line; there = before.there; jacks = before.jacks }

    latter : (each : Jack) → LineJacks lines line.statement each → JacksBefore lines (place + 1) each
    latter each jacks = record { at = place; before = omega arith; line = line; there = at; jacks = jacks }

    split : (each : Jack) → JacksBefore lines (place + 1) each → JacksBefore lines place each ⊎ LineJacks lines line.statement each
    split each before = by (cases_lt before.at place)
      where
        same-line : (a b : Line) → Some a ≡ Some b → a ≡ b
        same-line a b e = cc

        by : (before.at < place) ⊎ (place ≤ before.at) → JacksBefore lines place each ⊎ LineJacks lines line.statement each
        by (inl under) =
            inl (record { at = before.at; before = under; line = before.line; there = before.there; jacks = before.jacks })
        by (inr over) =
            let less = before.before in
            let same : before.at ≡ place = omega (arith, less, over) in
            let e : before.line ≡ line = same-line before.line line (sym before.there ∙ ap (slice_get lines) same ∙ at) in
            let P : Line → Type 0 = λ l. LineJacks lines l.statement each in
            inr (subst P e before.jacks)

pub jacks-all : {lines : List Line} {place : ℕ} {old new : Wiring} → Plugs (JacksBefore lines place) old new → place ≡ length lines
    → Plugs (JacksBefore lines (length lines)) old new
jacks-all {lines} {place} {old} {new} added same =
    let P : ℕ → Type 0 = λ n. Plugs (JacksBefore lines n) old new in
    subst P same added

-- LIST, the jacks of the levels, those of the heading lines and those of the amounts
pub data FourKinds (lines : List Line) (each : Jack) : Type 0 where
  lists : each ≡ jack.List → prints_details lines ≡ true → FourKinds lines each
  totals : TotalsBelow lines 5 each → FourKinds lines each
  heads : Ranged jack.Head 1 (heading_count lines + 1) each → FourKinds lines each
  amounts : JacksBefore lines (length lines) each → FourKinds lines each

has-figure : (lines : List Line) (each : Jack) (before : JacksBefore lines (length lines) each)
    → HasFigure lines before.jacks.wheel before.jacks.figure
has-figure lines each before = record {
  line = before.line;
  listed = (before.at, before.before, get_or_from_slice_get lines before.at before.line before.line before.there);
  emitter = before.jacks.emitter;
  is_figure = before.jacks.is_figure;
}

of-link : (lines : List Line) (wheel end : ℕ) (figure : Figure) (each : Jack) → HasFigure lines wheel figure
    → end ≡ wheel + figure_width figure → Ranged jack.Link (wheel + 1) end each → ChartJack lines each
of-link lines wheel end figure each has e (ranged v above under) =
    chart.link wheel figure v has (omega (arith, above)) (omega (arith, under, e))

pub of-figure : (lines : List Line) (wheel : ℕ) (figure : Figure) (each : Jack) → HasFigure lines wheel figure → FigureJacks wheel figure each
    → ChartJack lines each
of-figure lines wheel figure each has (links wires) = of-link lines wheel (wheel + figure_width figure) figure each has refl wires
of-figure lines wheel figure each has (suppresses (ranged v above under)) = chart.suppress wheel figure v has above under
of-figure lines wheel figure each has (symbols (ranged v above under)) = chart.symbol wheel figure v has above under

pub four-there : (lines : List Line) (each : Jack) → FourKinds lines each → ChartJack lines each
four-there lines each (lists is prints) = let P : Jack → Type 0 = ChartJack lines in subst P (sym is) (chart.list prints)
four-there lines each (totals (level number less prints is)) =
    let P : Jack → Type 0 = ChartJack lines in subst P (sym is) (chart.total number prints)
four-there lines each (heads (ranged heading above under)) = chart.head heading above (omega (arith, under))
four-there lines each (amounts before) =
    of-figure lines before.jacks.wheel before.jacks.figure each (has-figure lines each before) before.jacks.jacks

by-figure : (lines : List Line) (wheel : ℕ) (figure : Figure) (each : Jack) → HasFigure lines wheel figure → FigureJacks wheel figure each
    → FourKinds lines each
by-figure lines wheel figure each has jacks =
    amounts (record {
      at = has.listed.0;
      before = has.listed.1;
      line = has.line;
      there = slice_get_read lines (length lines) has.listed.0 has.line refl has.listed.1 (sym has.listed.2);
      jacks = record { emitter = has.emitter; wheel = wheel; figure = figure; is_figure = has.is_figure; jacks = jacks };
    })

pub four-back : (lines : List Line) (each : Jack) → ChartJack lines each → FourKinds lines each
four-back lines _ (chart.list prints) = lists refl prints
four-back lines _ (chart.total number prints) =
    let range = totals-range lines number prints in totals (level number range.1 prints refl)
four-back lines _ (chart.head heading above under) = heads (ranged heading above (omega (arith, under)))
four-back lines _ (chart.link wheel figure v has above under) =
    by-figure lines wheel figure (jack.Link v) has (links (ranged v (omega (arith, above)) under))
four-back lines _ (chart.suppress wheel figure v has above under) =
    by-figure lines wheel figure (jack.Suppress v) has (suppresses (ranged v above under))
four-back lines _ (chart.symbol wheel figure v has above under) =
    by-figure lines wheel figure (jack.Symbol v) has (symbols (ranged v above under))

abbrev Pair : List Line → Jack → Type 0
Pair lines each = ((each ≡ jack.List) × (prints_details lines ≡ true)) ⊎ TotalsBelow lines 5 each

abbrev Rest : List Line → Jack → Type 0
Rest lines each = Ranged jack.Head 1 (heading_count lines + 1) each ⊎ JacksBefore lines (length lines) each

abbrev Sum : List Line → Jack → Type 0
Sum lines each = Pair lines each ⊎ Rest lines each

-- the jacks of a chart, plugged kind by kind
pub chart-jacks : (lines : List Line) (heads_end : ℕ) (old one two three new : Wiring)
    → Plugs (λ each. (each ≡ jack.List) × (prints_details lines ≡ true)) old one → Plugs (TotalsBelow lines 5) one two
    → Plugs (Ranged jack.Head 1 heads_end) two three → heads_end ≡ heading_count lines + 1 → Plugs (JacksBefore lines (length lines)) three new
    → Plugs (ChartJack lines) old new
chart-jacks lines heads_end old one two three new a b c e d =
    let P : ℕ → Type 0 = λ n. Plugs (Ranged jack.Head 1 n) two three in
    plugs-as there back
    (plugs-both {T = Sum lines} (λ each j. inl j) (λ each j. inr j) (λ each j. j)
    (plugs-both {T = Pair lines} (λ each j. inl j) (λ each j. inr j) (λ each j. j) a b)
    (plugs-both {T = Rest lines} (λ each j. inl j) (λ each j. inr j) (λ each j. j) (subst P e c) d))
  where
    there : (each : Jack) → Sum lines each → ChartJack lines each
    there each (inl (inl is)) = four-there lines each (lists is.0 is.1)
    there each (inl (inr j)) = four-there lines each (totals j)
    there each (inr (inl j)) = four-there lines each (heads j)
    there each (inr (inr j)) = four-there lines each (amounts j)

    sorted : (each : Jack) → FourKinds lines each → Sum lines each
    sorted each (lists is prints) = inl (inl (is, prints))
    sorted each (totals j) = inl (inr j)
    sorted each (heads j) = inr (inl j)
    sorted each (amounts j) = inr (inr j)

    back : (each : Jack) → ChartJack lines each → Sum lines each
    back each j = sorted each (four-back lines each j)

-- the same, where the lines were read as a list
pub panel-jacks : (lines shown : List Line) (heads_end : ℕ) (old one two three new : Wiring) → shown ≡ lines
    → Plugs (λ each. (each ≡ jack.List) × (prints_details shown ≡ true)) old one → Plugs (TotalsBelow shown 5) one two
    → Plugs (Ranged jack.Head 1 heads_end) two three → heads_end ≡ heading_count shown + 1 → Plugs (JacksBefore lines (length lines)) three new
    → Plugs (ChartJack lines) old new
panel-jacks lines shown heads_end old one two three new same a b c e d =
    let A : List Line → Type 0 = λ ls. Plugs (λ each. (each ≡ jack.List) × (prints_details ls ≡ true)) old one in
    let B : List Line → Type 0 = λ ls. Plugs (TotalsBelow ls 5) one two in
    chart-jacks lines heads_end old one two three new (subst A same a) (subst B same b) c (e ∙ ap (λ ls. heading_count ls + 1) same) d
