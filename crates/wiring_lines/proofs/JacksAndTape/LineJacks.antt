-- The jacks of a line of the chart by its item.
use Rattle.std.proofs.Common.{◌≡◌, ℕ, List, Some, sym, ap, ◌∙◌, subst}
use Rattle.chart_line_rules.specs.FieldRules.Fields.{fields_of}
use Rattle.chart_line_rules.specs.PrintRules.Items.{item_of}
use Rattle.chart_line_rules.specs.declared.print_rules.items.Figure.{Figure}
use Rattle.chart_line_rules.specs.declared.print_rules.items.Item.{Item}
use Rattle.chart_lines.specs.declared.charts.chart.Line.{Line}
use Rattle.chart_lines.specs.declared.charts.statement.Statement.{Statement}
use Rattle.hubs.specs.SetupsWords.Wiring.{Wiring}
use Rattle.hubs.specs.declared.jack.Jack.{Jack}
use Rattle.wiring_lines.proofs.JacksAndTape.Plugging.{plugs-as}
use Rattle.wiring_lines.specs.JacksAndTape.HelperJacks.{FigureJacks, FiguresAre, LineJacks, Plugs}

-- the jacks of a line by its item
pub line-jacks : (lines : List Line) (statement : Statement) (item : Item) (figure : Figure) (old new : Wiring)
    → FiguresAre lines statement → item_of (fields_of lines) statement ≡ Some item → item.figure ≡ Some figure
    → Plugs (FigureJacks item.first figure) old new → Plugs (LineJacks lines statement) old new
line-jacks lines statement item figure old new known is has added = plugs-as onward back-again added
  where
    onward : (each : Jack) → FigureJacks item.first figure each → LineJacks lines statement each
    onward each jacks =
        let from = known.there item figure is has in
        record { emitter = from.0; wheel = item.first; figure = figure; is_figure = from.1; jacks = jacks }

    back-again : (each : Jack) → LineJacks lines statement each → FigureJacks item.first figure each
    back-again each jacks =
        let from = known.back jacks.emitter jacks.wheel jacks.figure jacks.is_figure in
        let same : from.item ≡ item = item-same from.item item (sym from.is_item ∙ is) in
        let e : jacks.wheel ≡ item.first = sym from.from ∙ ap (λ i. i.first) same in
        let f : jacks.figure ≡ figure = figure-same jacks.figure figure (sym from.has ∙ ap (λ i. i.figure) same ∙ has) in
        let P : ℕ → Type 0 = λ w. FigureJacks w figure each in
        let Q : Figure → Type 0 = λ x. FigureJacks jacks.wheel x each in
        subst P e (subst Q f jacks.jacks)
      where
        item-same : (a b : Item) → Some a ≡ Some b → a ≡ b
        item-same a b e = cc

        figure-same : (a b : Figure) → Some a ≡ Some b → a ≡ b
        figure-same a b e = cc
