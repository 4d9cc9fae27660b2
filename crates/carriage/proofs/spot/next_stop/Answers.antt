use Rattle.std.proofs.Common.{◌+◌, ◌-◌, ◌∙◌, sym, arith}
use Rattle.carriage.proofs.StopSteps.{stop_from-others}
use Rattle.carriage.proofs.spot.next_stop.Goals as goal

pub loop-stop-preserved : goal.loop-stop-preserved
loop-stop-preserved c =
    let lines = c.from-lines.result in
    let stop = c.loop-stop.stop in
    record {
      below = omega arith;
      rest =
          c.loop-stop.invariant.rest
          ∙ stop_from-others c.args.tape.now c.args.channel stop (stop + 1) (lines + 1 - stop) (lines + 1 - (stop + 1)) (omega arith) (omega arith) (sym c.is_stop_of.ensures ∙ c.if-is_stop_of.false);
    }
