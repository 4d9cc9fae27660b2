use Rattle.net.specs.HubSets.{has_hub}
use Rattle.show_page.proofs.CycleSteps.Impulsed.{live_of}
use Rattle.show_page.proofs.cycle_steps.live.live_wires.Goals as goal

pub returns : goal.returns
returns c wiring is_net =
    live_of wiring c.args.point.now c.args.wires.now (has_hub c.picture.new.out) c.wires_in.result (c.picture.ensures wiring is_net)
    c.wires_in.ensures
