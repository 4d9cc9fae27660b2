use Rattle.std.proofs.Common.{◌∙◌, refl}
use Rattle.machine_sets.proofs.SpreadsWords.ContactRuns.{run-entries, runs-all, runs-more, runs-none}
use Rattle.machine_sets.proofs.SpreadsWords.PassLemmas.{neither}
use Rattle.machine_sets.proofs.spreads.contact_runs.pass_eights.Goals as goal

pub loop-eight-init : goal.loop-eight-init
loop-eight-init c = record {
  passed = runs-none c.args.digits.now c.args.zones.now c.args.sets.now;
  entries = λ place row high. refl;
  same = λ none place row. refl;
  long = c.told-sets;
}

pub loop-eight-preserved : goal.loop-eight-preserved
loop-eight-preserved c =
    let eight = c.requires c.loop-eight.eight-index _ c.loop-eight-test.true in
    let entries =
    run-entries c.args.digits.now c.args.zones.now c.loop-eight.sets c.pass_eight-now.new.sets _ eight.room.to c.pass_eight-now.ensures.passed in
    record {
      passed =
          runs-more c.args.digits.now c.args.zones.now c.args.sets.now c.loop-eight.sets c.pass_eight-now.new.sets c.args.eights.now
          c.loop-eight.eight-index _ c.loop-eight-test.true eight.room c.loop-eight.invariant.entries c.loop-eight.invariant.passed
          c.pass_eight-now.ensures.passed;
      entries = λ place row high. entries place row high ∙ c.loop-eight.invariant.entries place row high;
      same = λ none place row.
          let both = neither c.loop-eight.passed c.pass_eight-now.result none in
          c.pass_eight-now.ensures.same both.1 place row ∙ c.loop-eight.invariant.same both.0 place row;
      long = c.pass_eight-now.array_long;
    }

pub returns-clause-passed : goal.returns-clause-passed
returns-clause-passed c =
    runs-all c.args.digits.now c.args.zones.now c.args.sets.now c.loop-eight.sets c.args.eights.now c.loop-eight.eight-index
    c.loop-eight-test.false c.loop-eight.invariant.passed
