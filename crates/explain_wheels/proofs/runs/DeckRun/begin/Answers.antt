use Rattle.std.proofs.Common.{refl}
use Rattle.explain_wheels.proofs.RunsWords.DeckRuns.{run-begun}
use Rattle.explain_wheels.proofs.runs.DeckRun.begin.Goals as goal

pub returns : goal.returns
returns c =
    run-begun c.args.setup.now c.args.cards.now c.in_ok-machine.machine
    (record { machine = c.move_on-hopper.new.machine; hopper = c.move_on-hopper.result; card = 0; begun = 0 })
    c.in_ok-machine.ensures c.move_on-hopper.ensures.moved c.move_on-hopper.ensures.net refl refl
