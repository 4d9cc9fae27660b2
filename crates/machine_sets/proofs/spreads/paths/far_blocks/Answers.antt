use Rattle.machine_sets.proofs.SpreadsWords.FarBlocks.{link-more}
use Rattle.machine_sets.proofs.spreads.paths.far_blocks.Goals as goal

pub loop-link-preserved : goal.loop-link-preserved
loop-link-preserved c k d less =
    link-more c.args.links.now c.loop-link.link-index d _ c.loop-link.blocks c.block_of-blocks.result c.loop-link-test.true
    (λ j low. c.loop-link.invariant j d low) c.block_of-blocks.ensures k less
