use Rattle.std.specs.String.{string_bytes}
use Rattle.show_drawings.specs.DrawingsWords.PanelDrawing.Drawing.{hub_dot}
use Rattle.show_drawings.proofs.DrawingsWords.PanelDrawing.Written.{hubs_more}
use Rattle.show_drawings.proofs.drawings.panel_drawing.drawing.write_hubs.Goals as goal

pub loop-passed-preserved : goal.loop-passed-preserved
loop-passed-preserved c =
    hubs_more (hub_dot c.args.wires.now) c.loop-passed.passed (string_bytes c.args.text.now) (string_bytes c.loop-passed.text)
    (string_bytes c.write_hub_dot.new.text) c.in-Some.hub c.loop-passed.invariant c.in-Some.ensures.numbered
    c.in_ok-write_hub_dot.ensures
