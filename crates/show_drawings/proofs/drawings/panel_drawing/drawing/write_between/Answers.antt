use Rattle.std.proofs.Common.{◌++◌}
use Rattle.std.specs.String.{string_bytes}
use Rattle.show_drawings.proofs.MarkupWords.Pieces.{pushed}
use Rattle.show_drawings.specs.DrawingsWords.PanelDrawing.Drawing.{drawing_between}
use Rattle.show_drawings.proofs.drawings.panel_drawing.drawing.write_between.Goals as goal

pub returns : goal.returns
unfolding drawing_between
returns c =
    let old = string_bytes c.args.text.now in
    pushed c.push_str.result (string_bytes c.push_str.new.self) (old ++ drawing_between) old c.push_str.ensures.bytes
