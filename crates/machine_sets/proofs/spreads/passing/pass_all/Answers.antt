use Rattle.std.proofs.Common.{◌∙◌, refl}
use Rattle.machine_sets.proofs.SpreadsWords.PassLemmas.{Passes-all, Passes-more, Passes-none, entries-more, neither}
use Rattle.machine_sets.proofs.spreads.passing.pass_all.Goals as goal

pub loop-contact-init : goal.loop-contact-init
loop-contact-init c = record {
  passed = Passes-none c.args.digits.now c.args.zones.now c.args.sets.now;
  entries = λ place row high. refl;
  same = λ none place row. refl;
  long = c.told-sets;
}

pub loop-contact-preserved : goal.loop-contact-preserved
loop-contact-preserved c =
    let contact = c.requires c.loop-contact.contact-index _ c.loop-contact-test.true in
    let digits = c.args.digits.now in
    let zones = c.args.zones.now in
    record {
      passed =
          Passes-more digits zones c.args.contacts.now c.loop-contact.contact-index _ c.args.sets.now c.loop-contact.sets c.pass-now.new.sets
          c.loop-contact-test.true contact c.loop-contact.invariant.entries c.loop-contact.invariant.passed c.pass-now.ensures.passed;
      entries =
          entries-more digits zones _ c.args.sets.now c.loop-contact.sets c.pass-now.new.sets contact c.pass-now.ensures.passed
          c.loop-contact.invariant.entries;
      same = λ none place row.
          let both = neither c.loop-contact.gained c.pass-now.result none in
          c.pass-now.ensures.same both.1 place row ∙ c.loop-contact.invariant.same both.0 place row;
      long = c.pass-now.array_long;
    }

pub returns-clause-passed : goal.returns-clause-passed
returns-clause-passed c =
    Passes-all c.args.digits.now c.args.zones.now c.args.contacts.now c.loop-contact.contact-index c.args.sets.now c.loop-contact.sets
    c.loop-contact-test.false c.loop-contact.invariant.passed
