use Rattle.std.proofs.Common.{refl}
use Rattle.readback_panels.proofs.ColumnsShown.{goes_first, goes_new, goes_same}
use Rattle.readback_panels.proofs.RunsOutside.{one-outside}
use Rattle.readback_panels.proofs.card_line.run_with.Goals as goal

pub returns-in_ok-put_run-in-Some-2-clause-run : goal.returns-in_ok-put_run-in-Some-2-clause-run
returns-in_ok-put_run-in-Some-2-clause-run c = λ setup before here.
    one-outside setup c.of_one.result c.args.wheel c.of_one.ensures.first c.of_one.ensures.last here

pub returns-in_ok-put_run-in-Some-2-clause-goes_on : goal.returns-in_ok-put_run-in-Some-2-clause-goes_on
returns-in_ok-put_run-in-Some-2-clause-goes_on c = rw c.in-Some-2.is (λ straight.
    goes_new c.args.cell c.args.wheel c.args.draft.now c.put_run.new.draft _ c.of_one.result c.in_ok-put_run-in-Some-2.ensures.kept
    (c.in_ok-put_run-in-Some-2.ensures.shows straight) c.of_one.ensures.straight c.of_one.ensures.shows)

pub returns-in-None-clause-run : goal.returns-in-None-clause-run
returns-in-None-clause-run c = λ setup before here.
    one-outside setup c.of_one-in-None.result c.args.wheel c.of_one-in-None.ensures.first c.of_one-in-None.ensures.last here

pub returns-in-None-clause-goes_on : goal.returns-in-None-clause-goes_on
returns-in-None-clause-goes_on c = rw c.in-None.is (λ straight.
    goes_first c.args.cell c.args.wheel c.args.draft.now c.of_one-in-None.result c.of_one-in-None.ensures.straight
    c.of_one-in-None.ensures.shows)

pub returns-in-Some-clause-goes_on : goal.returns-in-Some-clause-goes_on
returns-in-Some-clause-goes_on c = rw c.in-Some.is (λ straight.
    goes_same c.args.cell c.args.wheel c.args.draft.now c.in-Some.before _ straight (c.goes_on.ensures.wheel c.if-goes_on.true)
    (c.goes_on.ensures.column c.if-goes_on.true) (c.goes_on.ensures.level c.if-goes_on.true) refl refl refl refl refl)
