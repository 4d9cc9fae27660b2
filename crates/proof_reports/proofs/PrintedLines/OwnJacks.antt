-- On the wheels of an amount its own jacks are plugged and no others, and on the wheels of a text none of zero control is.
use Rattle.std.proofs.Common.{◌≡◌, ◌∙◌, ◌⊎◌, ◌↔◌, inl, inr, refl, sym, ap, ℕ, ◌+◌, ◌-◌, ◌<◌, ◌≤◌, nat_le, nat_lt, max, if◌then◌else◌, Bool, true, false, Contains, Some, None, arith}
use Rattle.std.proofs.lemmas.Bool.Decides.{nat_tests}
use Rattle.wiring_table.specs.Below.chart_lines.ChartsWords.Chart.{Chart}
use Rattle.wiring_table.specs.Below.chart_lines.declared.charts.chart.Line.{Line}
use Rattle.wiring_table.specs.Below.chart_line_rules.declared.print_rules.items.Figure.{Figure}
use Rattle.wiring_table.specs.Below.chart_line_rules.declared.print_rules.items.Item.{Item}
use Rattle.wiring_table.specs.Below.chart_line_rules.FieldRules.Fields.{fields_of}
use Rattle.wiring_table.specs.Below.chart_line_rules.PrintRules.Items.{item_of, figure_item, figure_width, mark_width}
use Rattle.wiring_table.specs.Below.chart_rules.Rules.{IsLawful}
use Rattle.wiring_table.specs.Below.chart_line_rules.PrintRules.Wheels.{HasWheel, is_body}
use Rattle.print_unit.specs.Below.hubs.declared.jack.Jack.TheVariants as jack
use Rattle.wiring_table.specs.Figures.{mark_wheel, free_digits}
use Rattle.wiring_table.specs.Jacks.{ChartJack, HasFigure, link, suppress, symbol}
use Rattle.proof_reports.specs.PrintedLines.Shown.{HasJacksOf}
use Rattle.proof_reports.proofs.PrintedLines.Meeting.{Agree, texts, amounts, same-or-agree}
use Rattle.proof_reports.proofs.PrintedLines.LawfulItems.{figure-good, IsGoodFigure, IsOnWheels, item-on_wheels}
use Rattle.proof_reports.proofs.PrintedLines.Jacks.{FigureItem, FigureItem-has, plugs-suppress, plugs-symbol}

-- two amounts end on the same wheel, with the same decimals and mark
pub record EndAlike (wheel : ℕ) (figure : Figure) (other_wheel : ℕ) (other : Figure) : Type 0 where
  pub end : wheel + figure_width figure ≡ other_wheel + figure_width other
  pub decimals : figure.decimals ≡ other.decimals
  pub mark : figure.mark ≡ other.mark

-- an item that is an amount, or agrees with one, ends where that one does
pub ends-alike : (one other : Item) (figure : Figure) → other.figure ≡ Some figure → (one ≡ other) ⊎ Agree one other
    → one.end ≡ other.end
ends-alike one other figure has (inl same) = ap (λ (i : Item). i.end) same
ends-alike one other figure has (inr (texts first second)) = cc
ends-alike one other figure has (inr (amounts f g first second end decimals mark)) = end

-- a text agrees with no amount
pub no-amount : (one other : Item) (figure : Figure) → one.figure ≡ None → other.figure ≡ Some figure
    → (one ≡ other) ⊎ Agree one other → ⊥
no-amount one other figure none has (inl same) =
    let equal : None ≡ Some figure = sym none ∙ ap (λ (i : Item). i.figure) same ∙ has in cc
no-amount one other figure none has (inr (texts first second)) = cc
no-amount one other figure none has (inr (amounts f g first second end decimals mark)) = cc

-- two amounts that agree end alike
alike : (one other : Item) (wheel other_wheel : ℕ) (figure other_figure : Figure) → one.figure ≡ Some figure
    → other.figure ≡ Some other_figure → one.end ≡ wheel + figure_width figure → other.end ≡ other_wheel + figure_width other_figure
    → (one ≡ other) ⊎ Agree one other → EndAlike wheel figure other_wheel other_figure
alike one other wheel other_wheel figure other_figure is is_other end end_other (inl same) =
    let equal : Some figure ≡ Some other_figure = sym is ∙ ap (λ (i : Item). i.figure) same ∙ is_other in
    let figures : figure ≡ other_figure = cc in
    record {
      end = sym end ∙ ap (λ (i : Item). i.end) same ∙ end_other;
      decimals = ap (λ (f : Figure). f.decimals) figures;
      mark = ap (λ (f : Figure). f.mark) figures;
    }
alike one other wheel other_wheel figure other_figure is is_other end end_other (inr (texts first second)) = cc
alike one other wheel other_wheel figure other_figure is is_other end end_other (inr (amounts f g first second ends decimals mark)) =
    let one_figure : f ≡ figure = cc in
    let second_figure : g ≡ other_figure = cc in
    record {
      end = sym end ∙ ends ∙ end_other;
      decimals = sym (ap (λ (x : Figure). x.decimals) one_figure) ∙ decimals ∙ ap (λ (x : Figure). x.decimals) second_figure;
      mark = sym (ap (λ (x : Figure). x.mark) one_figure) ∙ mark ∙ ap (λ (x : Figure). x.mark) second_figure;
    }

-- the wheel of a point, where there are decimals
abbrev point_width : ℕ → ℕ
point_width decimals = if nat_lt 0 decimals then 1 else 0

-- so their digits that may be blank end alike
free-alike : (wheel : ℕ) (figure : Figure) (other_wheel : ℕ) (other : Figure) → EndAlike wheel figure other_wheel other
    → IsGoodFigure figure → IsGoodFigure other
    → wheel + free_digits figure.digits figure.decimals ≡ other_wheel + free_digits other.digits other.decimals
free-alike wheel figure other_wheel other same good good_other =
    by figure.digits figure.decimals other.digits other.decimals (point_width figure.decimals) (point_width other.decimals)
    (mark_width figure.mark) (mark_width other.mark) same.decimals (ap point_width same.decimals) (ap mark_width same.mark) same.end
    good.some good.decimals good_other.some good_other.decimals
  where
    by : (n d k e p q t u : ℕ) → d ≡ e → p ≡ q → t ≡ u → wheel + (n + p + t) ≡ other_wheel + (k + q + u)
        → 1 ≤ n → d ≤ n → 1 ≤ k → e ≤ k → wheel + (n - max d 1) ≡ other_wheel + (k - max e 1)
    by n d k e p q t u decimals points marks end some few some_other few_other =
        omega (arith, decimals, points, marks, end, some, few, some_other, few_other)

-- and their marks begin alike
marks-alike : (wheel : ℕ) (figure : Figure) (other_wheel : ℕ) (other : Figure) → EndAlike wheel figure other_wheel other
    → mark_wheel wheel figure.digits figure.decimals ≡ mark_wheel other_wheel other.digits other.decimals
marks-alike wheel figure other_wheel other same =
    by figure.digits other.digits (point_width figure.decimals) (point_width other.decimals) (mark_width figure.mark)
    (mark_width other.mark) (ap mark_width same.mark) same.end
  where
    by : (n k p q t u : ℕ) → t ≡ u → wheel + (n + p + t) ≡ other_wheel + (k + q + u) → wheel + n + p ≡ other_wheel + k + q
    by n k p q t u marks end = omega (arith, marks, end)

-- An amount on a line of a lawful chart: the line, its item, and the amount as the jacks are told of it.
pub record OwnAmount (chart : Chart) (wheel : ℕ) (figure : Figure) : Type 0 where
  pub has : HasFigure chart.lines wheel figure
  pub item : FigureItem chart.lines wheel figure

pub OwnAmount-has : (chart : Chart) (wheel : ℕ) (figure : Figure) → HasFigure chart.lines wheel figure → OwnAmount chart wheel figure
OwnAmount-has chart wheel figure has = record { has = has; item = FigureItem-has chart.lines wheel figure has }

-- an amount of a lawful chart is good
pub amount-good : (chart : Chart) → IsLawful chart → (wheel : ℕ) (figure : Figure) → FigureItem chart.lines wheel figure
    → IsGoodFigure figure
amount-good chart lawful wheel figure item =
    figure-good chart lawful item.line (figure_item item.on wheel figure) figure item.there item.is_item refl

-- two amounts with a wheel in common end alike
pub amounts-alike : (chart : Chart) → IsLawful chart → (wheel other_wheel : ℕ) (figure other : Figure) (v : ℕ)
    → FigureItem chart.lines wheel figure → FigureItem chart.lines other_wheel other
    → wheel ≤ v → v < wheel + figure_width figure → other_wheel ≤ v → v < other_wheel + figure_width other
    → EndAlike wheel figure other_wheel other
amounts-alike chart lawful wheel other_wheel figure other v item second low high low_other high_other =
    let one = figure_item item.on wheel figure in
    let two = figure_item second.on other_wheel other in
    alike one two wheel other_wheel figure other refl refl refl refl
    (same-or-agree chart lawful item.line second.line one two v item.there second.there item.is_item second.is_item item.is_body_line
    second.is_body_line (low, high) (low_other, high_other))

-- a test is what another is where each says the other
same_test : (a b : Bool) → (a ≡ true → b ≡ true) → (b ≡ true → a ≡ true) → a ≡ b
same_test true b to from = sym (to refl)
same_test false true to from = from refl
same_test false false to from = refl

-- an amount stands on wheels 1 to 120
pub on-wheels : (chart : Chart) → IsLawful chart → (wheel : ℕ) (figure : Figure) → FigureItem chart.lines wheel figure
    → (1 ≤ wheel) × (wheel + figure_width figure ≤ 121)
on-wheels chart lawful wheel figure item =
    let on = item-on_wheels chart lawful item.line (figure_item item.on wheel figure) item.there item.is_item in (on.first, on.end)

-- the digits that may be blank are some of the wheels
free-within : (figure : Figure) → free_digits figure.digits figure.decimals ≤ figure_width figure
free-within figure = by figure.digits figure.decimals (point_width figure.decimals) (mark_width figure.mark)
  where
    by : (n d p t : ℕ) → n - max d 1 ≤ n + p + t
    by n d p t = omega arith

-- and so are those of the mark
marks-within : (wheel : ℕ) (figure : Figure) → wheel ≤ mark_wheel wheel figure.digits figure.decimals
marks-within wheel figure = by figure.digits (point_width figure.decimals)
  where
    by : (n p : ℕ) → wheel ≤ wheel + n + p
    by n p = omega arith

-- LINK is plugged on the wheels of an amount after its first
pub own-link : (chart : Chart) → IsLawful chart → (link suppress symbol : ℕ → Bool) → HasJacksOf chart.lines link suppress symbol
    → (wheel : ℕ) (figure : Figure) (v : ℕ) → OwnAmount chart wheel figure → wheel < v → v < wheel + figure_width figure
    → link v ≡ true
own-link chart lawful links suppresses symbols jacks wheel figure v own low high =
    let on = on-wheels chart lawful wheel figure own.item in
    let first = on.0 in
    let end = on.1 in
    (jacks.links v (omega (arith, low, first)) (omega (arith, high, end))).1 (link wheel figure v own.has low high)

-- SUPPRESS is plugged on its digits that may be blank
pub own-suppress : (chart : Chart) → IsLawful chart → (link suppress symbol : ℕ → Bool)
    → HasJacksOf chart.lines link suppress symbol
    → (wheel : ℕ) (figure : Figure) (v : ℕ) → OwnAmount chart wheel figure → wheel ≤ v → v < wheel + figure_width figure
    → suppress v ≡ nat_lt v (wheel + free_digits figure.digits figure.decimals)
own-suppress chart lawful links suppresses symbols jacks wheel figure v own low high =
    same_test (suppresses v) (nat_lt v (wheel + free_digits figure.digits figure.decimals)) to from
  where
    on : (1 ≤ wheel) × (wheel + figure_width figure ≤ 121)
    on = on-wheels chart lawful wheel figure own.item

    at : (suppresses v ≡ true) ↔ ChartJack chart.lines (jack.Suppress v)
    at = jacks.suppresses v (let first = on.0 in omega (arith, low, first)) (let end = on.1 in omega (arith, high, end))

    to : suppresses v ≡ true → nat_lt v (wheel + free_digits figure.digits figure.decimals) ≡ true
    to plugged =
        let other = plugs-suppress chart.lines v (at.0 plugged) in
        let low_other = other.inside_it.0 in
        let high_other = other.inside_it.1 in
        let free = free-within other.figure in
        let same = amounts-alike chart lawful wheel other.wheel figure other.figure v own.item other.item low high low_other
        (omega (arith, high_other, free)) in
        let ends = free-alike wheel figure other.wheel other.figure same (amount-good chart lawful wheel figure own.item)
        (amount-good chart lawful other.wheel other.figure other.item) in
        let below : v < wheel + free_digits figure.digits figure.decimals = omega (arith, high_other, ends) in
        grind (arith, nat_tests, below)

    from : nat_lt v (wheel + free_digits figure.digits figure.decimals) ≡ true → suppresses v ≡ true
    from test = at.1 (suppress wheel figure v own.has low (grind (arith, nat_tests, test)))

-- SYMBOL is plugged on its mark
pub own-symbol : (chart : Chart) → IsLawful chart → (link suppress symbol : ℕ → Bool)
    → HasJacksOf chart.lines link suppress symbol
    → (wheel : ℕ) (figure : Figure) (v : ℕ) → OwnAmount chart wheel figure → wheel ≤ v → v < wheel + figure_width figure
    → symbol v ≡ nat_le (mark_wheel wheel figure.digits figure.decimals) v
own-symbol chart lawful links suppresses symbols jacks wheel figure v own low high =
    same_test (symbols v) (nat_le (mark_wheel wheel figure.digits figure.decimals) v) to from
  where
    on : (1 ≤ wheel) × (wheel + figure_width figure ≤ 121)
    on = on-wheels chart lawful wheel figure own.item

    at : (symbols v ≡ true) ↔ ChartJack chart.lines (jack.Symbol v)
    at = jacks.symbols v (let first = on.0 in omega (arith, low, first)) (let end = on.1 in omega (arith, high, end))

    to : symbols v ≡ true → nat_le (mark_wheel wheel figure.digits figure.decimals) v ≡ true
    to plugged =
        let other = plugs-symbol chart.lines v (at.0 plugged) in
        let low_other = other.inside_it.0 in
        let begins = marks-within other.wheel other.figure in
        let same = amounts-alike chart lawful wheel other.wheel figure other.figure v own.item other.item low high
        (omega (arith, low_other, begins)) other.inside_it.1 in
        let start = marks-alike wheel figure other.wheel other.figure same in
        let above : mark_wheel wheel figure.digits figure.decimals ≤ v = omega (arith, low_other, start) in
        grind (arith, nat_tests, above)

    from : nat_le (mark_wheel wheel figure.digits figure.decimals) v ≡ true → symbols v ≡ true
    from test = at.1 (symbol wheel figure v own.has (grind (arith, nat_tests, test)) high)

-- a wheel of a text is no wheel of an amount
text-apart : (chart : Chart) → IsLawful chart → (line : Line) (item : Item) (v wheel : ℕ) (figure : Figure)
    → Contains chart.lines line → item_of (fields_of chart.lines) line.statement ≡ Some item → is_body item.line ≡ true
    → item.figure ≡ None → HasWheel item v → FigureItem chart.lines wheel figure → wheel ≤ v → v < wheel + figure_width figure → ⊥
text-apart chart lawful line item v wheel figure there is body none on amount low high =
    let other = figure_item amount.on wheel figure in
    no-amount item other figure none refl
    (same-or-agree chart lawful line amount.line item other v there amount.there is amount.is_item body amount.is_body_line on
    (low, high))

-- neither SUPPRESS nor SYMBOL is plugged on the wheels of a text
pub text-jacks : (chart : Chart) → IsLawful chart → (link suppress symbol : ℕ → Bool)
    → HasJacksOf chart.lines link suppress symbol → (line : Line) (item : Item) (v : ℕ)
    → Contains chart.lines line → item_of (fields_of chart.lines) line.statement ≡ Some item → is_body item.line ≡ true
    → item.figure ≡ None → HasWheel item v → (suppress v ≡ false) × (symbol v ≡ false)
text-jacks chart lawful links suppresses symbols jacks line item v there is body none on =
    (by (suppresses v) refl, by_mark (symbols v) refl)
  where
    wheels : IsOnWheels item
    wheels = item-on_wheels chart lawful line item there is

    low : 1 ≤ v
    low = let first = wheels.first in let above = on.0 in omega (arith, first, above)

    high : v ≤ 120
    high = let end = wheels.end in let below = on.1 in omega (arith, end, below)

    by : (b : Bool) → suppresses v ≡ b → b ≡ false
    by false test = refl
    by true test =
        let other = plugs-suppress chart.lines v ((jacks.suppresses v low high).0 test) in
        let high_other = other.inside_it.1 in
        let free = free-within other.figure in
        absurd (text-apart chart lawful line item v other.wheel other.figure there is body none on other.item other.inside_it.0
        (omega (arith, high_other, free)))

    by_mark : (b : Bool) → symbols v ≡ b → b ≡ false
    by_mark false test = refl
    by_mark true test =
        let other = plugs-symbol chart.lines v ((jacks.symbols v low high).0 test) in
        let low_other = other.inside_it.0 in
        let begins = marks-within other.wheel other.figure in
        absurd (text-apart chart lawful line item v other.wheel other.figure there is body none on other.item
        (omega (arith, low_other, begins)) other.inside_it.1)
