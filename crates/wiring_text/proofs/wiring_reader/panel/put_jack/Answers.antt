use Rattle.wiring_text.proofs.WiringReader.SetupSteps.{jack_put}
use Rattle.wiring_text.proofs.wiring_reader.panel.put_jack.Goals as goal

pub returns : goal.returns
returns c =
    let plug = c.plug.ensures in
    jack_put _ _ _ c.plug.result plug.plugged plug.was_there plug.wires plug.tape
