use Rattle.wiring_text.proofs.WiringReader.SetupSteps.{stop_put, high_stop_put}
use Rattle.wiring_text.proofs.wiring_reader.panel.put_stop.Goals as goal

pub returns-then-line-gt255 : goal.returns-then-line-gt255
returns-then-line-gt255 c = high_stop_put c.args.setup.now c.args.channel c.args.line c.if-line-gt255.true

pub returns : goal.returns
returns c =
    let punch = c.punch.ensures in
    stop_put _ _ _ _ c.punch.result c.requires.from c.requires.to punch.stops punch.was_there punch.refused punch.good
    punch.wires punch.jacks
