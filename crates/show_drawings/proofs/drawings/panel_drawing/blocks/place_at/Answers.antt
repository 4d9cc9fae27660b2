use Rattle.std.proofs.Common.{◌∙◌, ap}
use Rattle.show_drawings.proofs.DrawingsWords.PanelDrawing.Places.{in_its_block}
use Rattle.show_drawings.specs.DrawingsWords.PanelDrawing.Blocks.{place_in}
use Rattle.show_drawings.specs.declared.drawings.panel_drawing.blocks.Block.{Block}
use Rattle.show_drawings.proofs.drawings.panel_drawing.blocks.place_at.Goals as goal

pub place_in-requires : goal.place_in-requires
place_in-requires c =
    let there = in_its_block c.args.number c.requires.from c.requires.to c.block_at.result c.block_at.ensures in
    record {
      behind = there.0;
      wide = there.1;
      small = (there.2, there.3, there.4);
      within = c.requires.to;
    }

pub returns : goal.returns
returns c = c.place_in.ensures ∙ ap (λ (b : Block). place_in b c.args.number) c.block_at.ensures
