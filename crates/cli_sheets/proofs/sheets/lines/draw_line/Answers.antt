use Rattle.std.proofs.Common.{◌≡◌, ◌∙◌, ◌-◌, ◌++◌, ap, sym, arith, get_or, length, List, ℕ, Some, option_map}
use Rattle.chart_lines.specs.ChartsWords.Literals.{literal_in}
use Rattle.chart_lines.specs.declared.charts.chart.Line.{Line}
use Rattle.report_definition.specs.BodyLines.{piece_at}
use Rattle.cli_sheets.specs.SheetsWords.Layout.{drawn, drawn_piece}
use Rattle.cli_sheets.proofs.SheetsWords.Drawing.{none-drawn, piece-some}
use Rattle.cli_sheets.proofs.sheets.lines.draw_line.Goals as goal

pub loop-place-init : goal.loop-place-init
loop-place-init c =
    none-drawn (λ line. drawn_piece c.args.chart.now.lines c.args.printed line.statement) c.args.chart.now.lines
    (length c.lines-lines.result.now) (omega (arith, ap length c.lines-lines.ensures.value))

pub loop-place-preserved-in-Some : goal.loop-place-preserved-in-Some
loop-place-preserved-in-Some c =
    let lines = c.lines-lines.ensures.value in
    let line = get_or c.lines-lines.result.now (c.loop-place.place - 1) c.index-lines-place.result in
    let characters = drawn (literal_in line.statement) c.in-Some.item in
    let spelled : c.as_slice.result.now ≡ characters =
    c.as_slice.ensures.value ∙ c.in_ok-write_drawn.ensures ∙ ap (λ (l : List ℕ). l ++ characters) c.clear.ensures.items in
    piece-some (λ line. drawn_piece c.args.chart.now.lines c.args.printed line.statement) c.args.chart.now.lines c.loop-place.place
    line (omega arith) (omega (arith, c.loop-place.auto.place, ap length lines))
    (ap (λ (ls : List Line). get_or ls (c.loop-place.place - 1) line) (sym lines)
    ∙ ap (λ (d : Line). get_or c.lines-lines.result.now (c.loop-place.place - 1) d) (sym c.index-lines-place.is))
    c.in-Some.item.first c.as_slice.result.now c.loop-place.drawn c.put.new.line
    (ap (option_map (λ item. piece_at item.first (drawn (literal_in line.statement) item))) (sym c.in-Some.ensures)
    ∙ ap (λ (text : List ℕ). Some (piece_at c.in-Some.item.first text)) (sym spelled))
    c.loop-place.invariant c.put.array_long c.put.ensures
