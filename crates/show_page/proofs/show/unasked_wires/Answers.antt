use Rattle.show_page.proofs.Parts.{unasked_item}
use Rattle.show_page.proofs.show.unasked_wires.Goals as goal

pub loop-pair-preserved : goal.loop-pair-preserved
loop-pair-preserved c =
    unasked_item c.args.pairs.now c.loop-pair.pair-index _ c.loop-pair.wires.items c.push.new.self.items c.unasked.result
    c.loop-pair-test.true c.loop-pair.invariant c.unasked.ensures c.in_ok-push.ensures.items
