use Rattle.readback_panels.proofs.ColumnsShown.{goes_by, goes_text}
use Rattle.readback_panels.proofs.ItemsGained.{gains_nothing}
use Rattle.readback_panels.specs.Zones.{IsTextOutside}
use Rattle.readback_panels.proofs.card_line.run_behind.Goals as goal

pub returns-in-Some-clause-run : goal.returns-in-Some-clause-run
returns-in-Some-clause-run c = c.run_with.ensures.run c.args.setup.now c.requires.run c.in-Some.ensures.outside

pub returns-in-Some-clause-gained : goal.returns-in-Some-clause-gained
returns-in-Some-clause-gained c = c.run_with.ensures.gained c.args.setup.now c.requires.run

pub returns-in-Some-clause-goes_on : goal.returns-in-Some-clause-goes_on
returns-in-Some-clause-goes_on c = λ straight.
    goes_text c.run_with.result c.args.setup.now c.args.zones.now c.args.wheel c.args.draft.now c.run_with.new.draft c.args.run
    c.in-Some.cell c.text_on.result c.in-Some.is c.text_on.ensures.found (c.run_with.ensures.goes_on straight)

pub returns-in-None-clause-gained : goal.returns-in-None-clause-gained
returns-in-None-clause-gained c = gains_nothing (IsTextOutside c.args.setup.now) c.args.draft.now

pub returns-in-None-clause-goes_on : goal.returns-in-None-clause-goes_on
returns-in-None-clause-goes_on c = λ straight.
    goes_by c.args.setup.now c.args.zones.now c.args.wheel c.args.draft.now c.args.run c.text_on.result c.in-None.is c.text_on.ensures.found
    straight
