use Rattle.std.proofs.Common.{◌∙◌, inr, sym}
use Rattle.std.proofs.lemmas.Bool.{false≢true}
use Rattle.machine_sets.proofs.BitSets.ContactLemmas.{commons_more, commons_last, only_commons_more}
use Rattle.machine_sets.proofs.BitSets.PlaceLemmas.{has_place-zeros}
use Rattle.machine_sets.proofs.bit_sets.contacts.commons_of.Goals as goal

pub loop-run-init : goal.loop-run-init
loop-run-init c = record {
  all = λ from to low contact. inr contact;
  only = λ from at. absurd (false≢true (sym (has_place-zeros 31 from) ∙ at));
}

pub loop-run-preserved : goal.loop-run-preserved
loop-run-preserved c = record {
  all =
      commons_more c.args.runs.now c.loop-run.run-index _ c.loop-run.commons c.put_run.new.words _ c.loop-run-test.true
      c.first_bits.ensures c.put_run.ensures c.loop-run.invariant.all;
  only =
      only_commons_more c.args.runs.now c.loop-run.run-index _ c.loop-run.commons c.put_run.new.words _ c.loop-run-test.true
      c.first_bits.ensures c.put_run.ensures c.loop-run.invariant.only;
}

pub returns-clause-all : goal.returns-clause-all
returns-clause-all c = commons_last c.args.runs.now c.loop-run.run-index c.loop-run.commons c.loop-run-test.false c.loop-run.invariant.all

pub returns-clause-only : goal.returns-clause-only
returns-clause-only c = c.loop-run.invariant.only
