use Rattle.std.proofs.Common.{◌≡◌, ◌++◌}
use Rattle.std.specs.String.{string_bytes}
use Rattle.show_drawings.specs.DrawingsWords.PanelDrawing.Blocks.{blocks}
use Rattle.show_drawings.specs.DrawingsWords.PanelDrawing.Drawing.{drawing_close}
use Rattle.show_drawings.specs.DrawingsWords.PanelDrawing.Helper.{GainsDrawing}
use Rattle.show_drawings.proofs.MarkupWords.Pieces.{where_ok}
use Rattle.show_drawings.proofs.DrawingsWords.PanelDrawing.Written.{drawing_whole}
use Rattle.show_drawings.proofs.drawings.panel_drawing.drawing.write_drawing.Goals as goal

pub returns : goal.returns
unfolding blocks
returns c =
    let old = string_bytes c.args.text.now in
    let one = string_bytes c.write_open.new.text in
    let two = string_bytes c.write_blocks.new.text in
    let three = string_bytes c.write_between.new.text in
    let four = string_bytes c.write_wires.new.text in
    let five = string_bytes c.write_behind.new.text in
    let six = string_bytes c.write_hubs.new.text in
    let new = string_bytes c.write_close.new.text in
    where_ok (new ≡ six ++ drawing_close) (GainsDrawing c.args.wires.now old new) c.write_close.result
    (drawing_whole c.args.wires.now old one two three four five six new c.in_ok-write_open.ensures c.in_ok-write_blocks.ensures
    c.in_ok-write_between.ensures c.in_ok-write_wires.ensures c.in_ok-write_behind.ensures c.in_ok-write_hubs.ensures)
    c.write_close.ensures
