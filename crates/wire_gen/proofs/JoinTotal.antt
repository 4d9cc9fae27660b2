-- The wires that the code adds for a total are those of the table.
use Rattle.std.proofs.Common.{ℕ, List}
use Rattle.chart_plans.specs.PlansWords.Plans.{Lists}
use Rattle.chart_rules.specs.Below.chart_line_rules.FieldRules.Fields.{field_named}
use Rattle.chart_lines.specs.declared.charts.chart.Line.{Line}
use Rattle.chart_lines.specs.declared.charts.level.Level.{Level}
use Rattle.chart_lines.specs.declared.charts.statement.Statement.TheVariants as says
use Rattle.hubs.specs.declared.hub.Hub.{Hub}
use Rattle.wiring_lines.specs.LineWires.HelperAdds.{one, first, second, below, some}
use Rattle.wire_gen.specs.HelperKnown.{IsGoodTotalText, IsNamed}
use Rattle.wire_gen.specs.HelperLines.{StatementWires}
use Rattle.wiring_lines.specs.Below.wiring_table.Wires.{LineWire}
use Rattle.wiring_lines.specs.Below.wiring_table.Wires as table
use Rattle.wire_gen.proofs.Fields.{named-field, named-has}
use Rattle.wire_gen.proofs.JoinLines.{by-one}

module _ (lines : List Line) (plan : Lists) (number : ℕ) (level : Level) (wheel : ℕ) (name : List ℕ) where
  pub total_text-there : IsNamed (field_named lines name) (IsGoodTotalText wheel) → (exit to : Hub)
      → StatementWires lines plan number (says.TotalText level wheel name) exit to
      → LineWire lines plan number (says.TotalText level wheel name) exit to
  total_text-there good exit to (some field named (some unit at (first w))) =
      by-one (LineWire lines plan number (says.TotalText level wheel name)) w (table.total_text_taken level wheel name unit at)
  total_text-there good exit to (some field named (some unit at (second (first w)))) =
      by-one (LineWire lines plan number (says.TotalText level wheel name)) w (table.total_text_given level wheel name unit at)
  total_text-there good exit to (some field named (some unit at (second (second (below j less (first w)))))) =
      by-one (LineWire lines plan number (says.TotalText level wheel name)) w
      (table.total_text_in level wheel name field unit j (record
      { named = named; holds_text = (named-has (field_named lines name) (IsGoodTotalText wheel) good field named).holds_text }) less at)
  total_text-there good exit to (some field named (some unit at (second (second (below j less (second w)))))) =
      by-one (LineWire lines plan number (says.TotalText level wheel name)) w
      (table.total_text_out level wheel name field unit j (record
      { named = named; holds_text = (named-has (field_named lines name) (IsGoodTotalText wheel) good field named).holds_text }) less at)

  pub total_text-back : IsNamed (field_named lines name) (IsGoodTotalText wheel) → (exit to : Hub)
      → LineWire lines plan number (says.TotalText level wheel name) exit to
      → StatementWires lines plan number (says.TotalText level wheel name) exit to
  total_text-back good exit to (table.total_text_in _ _ _ field unit j is less at) =
      some field is.named (some unit at (second (second (below j less (first one)))))
  total_text-back good exit to (table.total_text_taken _ _ _ unit at) =
      let known = named-field (field_named lines name) (IsGoodTotalText wheel) good in
      some known.0 known.1 (some unit at (first one))
  total_text-back good exit to (table.total_text_given _ _ _ unit at) =
      let known = named-field (field_named lines name) (IsGoodTotalText wheel) good in
      some known.0 known.1 (some unit at (second (first one)))
  total_text-back good exit to (table.total_text_out _ _ _ field unit j is less at) =
      some field is.named (some unit at (second (second (below j less (second one)))))
  total_text-back good exit to (table.literal _ emitter _ text j row is punch) = elim is [ ]
  total_text-back good exit to (table.point _ emitter _ figure row is has punch) = elim is [ ]
