use Rattle.machine_sets.proofs.SpreadsWords.FarBlocks.{eight-more}
use Rattle.machine_sets.proofs.spreads.paths.far_blocks_of_eights.Goals as goal

pub loop-eight-preserved : goal.loop-eight-preserved
loop-eight-preserved c k d less =
    eight-more c.args.eights.now c.loop-eight.eight-index d _ c.loop-eight.blocks c.blocks_from-blocks.result c.loop-eight-test.true
    (λ j low. c.loop-eight.invariant j d low) (c.requires c.loop-eight.eight-index _ c.loop-eight-test.true) c.blocks_from-blocks.ensures k less
