use Rattle.std.proofs.Common.{arith}
use Rattle.readback_panels.proofs.ColumnsShown.{all_with_run, all_without_run, below_next}
use Rattle.readback_panels.proofs.ItemsGained.{gains_last, gains_nothing, gains_then}
use Rattle.readback_panels.specs.Zones.{IsTextOutside}
use Rattle.readback_panels.proofs.card_line.put_texts.Goals as goal

pub loop-wheel-init : goal.loop-wheel-init
loop-wheel-init c = record {
  run = tt;
  gained = gains_nothing (IsTextOutside c.args.setup.now) c.args.draft.now;
  straight = tt;
  shown = λ wheel column from below cell. absurd (omega (arith, from, below));
}

pub loop-wheel-preserved : goal.loop-wheel-preserved
loop-wheel-preserved c =
    let goes = c.in_ok-run.ensures.goes_on c.loop-wheel.invariant.straight in
    record {
      run = c.in_ok-run.ensures.run;
      gained =
          gains_then (IsTextOutside c.args.setup.now) c.args.draft.now c.loop-wheel.draft c.run_behind.new.draft
          c.loop-wheel.invariant.gained c.in_ok-run.ensures.gained;
      straight = goes.straight;
      shown = below_next c.args.setup.now c.args.zones.now c.loop-wheel.draft c.run_behind.new.draft c.loop-wheel.run _ c.loop-wheel.wheel
          c.loop-wheel.invariant.shown goes;
    }

pub returns-in-Some-clause-gained : goal.returns-in-Some-clause-gained
returns-in-Some-clause-gained c =
    gains_last (IsTextOutside c.args.setup.now) c.put_run.result c.args.draft.now c.loop-wheel.draft c.put_run.new.draft
    c.loop-wheel.invariant.gained (c.put_run.ensures.gained c.args.setup.now (rw c.in-Some.is at c.loop-wheel.invariant.run))

pub returns-in-Some-clause-shows : goal.returns-in-Some-clause-shows
returns-in-Some-clause-shows c =
    all_with_run c.put_run.result c.args.setup.now c.args.zones.now c.loop-wheel.draft c.put_run.new.draft c.loop-wheel.run
    c.in-Some.last c.loop-wheel.wheel (omega (arith, c.loop-wheel-test.false)) c.in-Some.is c.loop-wheel.invariant.shown
    (c.put_run.ensures.shows (rw c.in-Some.is at c.loop-wheel.invariant.straight)) c.put_run.ensures.kept

pub returns-in-None-clause-shows : goal.returns-in-None-clause-shows
returns-in-None-clause-shows c =
    all_without_run c.args.setup.now c.args.zones.now c.loop-wheel.draft c.loop-wheel.run c.loop-wheel.wheel
    (omega (arith, c.loop-wheel-test.false)) c.in-None.is c.loop-wheel.invariant.shown
