use Rattle.std.proofs.Common.{◌∙◌, ◌+◌, ap, sym, subst, refl, arith, length, ℕ}
use Rattle.explain_wheels.specs.RunsWords.{along_of}
use Rattle.explain_ledgers.specs.LedgersWords.CycleReadOuts.{AreReadOuts, read_outs_of}
use Rattle.explain_wheels.proofs.RunsWords.DeckRuns.{behind-more, behind-none, cycle-in, is-due}
use Rattle.explain_ledgers.proofs.LedgersWords.Keeping.{groups-many}
use Rattle.explain_ledgers.proofs.LedgersWords.CycleReadOuts.{tell-more}
use Rattle.explain_ledgers.proofs.LedgersWords.Summaries.{length-one}
use Rattle.explain_ledgers.proofs.ledgers.read_outs.read_outs_before.Goals as goal

pub loop-passed-init : goal.loop-passed-init
loop-passed-init c = record {
  behind = behind-none c.args.setup.now c.args.cards.now c.in_ok-run.run' c.in_ok-run.ensures;
  many = ap length c.new-all.ensures.items;
  told = λ passed other low. let none = ap length c.new-all.ensures.items in absurd (omega (arith, low, none));
}

pub enter_due-cycle-requires-clause-between : goal.enter_due-cycle-requires-clause-between
enter_due-cycle-requires-clause-between c = c.loop-passed.invariant.behind.between

pub enter_due-cycle-requires-clause-due : goal.enter_due-cycle-requires-clause-due
enter_due-cycle-requires-clause-due c =
    let low = c.loop-passed-test.true in
    is-due c.args.setup.now c.args.cards.now c.loop-passed._passed c.args.count c.loop-passed.run c.loop-passed.invariant.behind c.requires.has
    (omega (arith, low))

pub read_outs_of-requires : goal.read_outs_of-requires
read_outs_of-requires c =
    groups-many c.args.setup.now c.args.cards.now c.enter_due-cycle.result (along_of c.loop-passed.run)
    c.enter_due-cycle.new.self.machine.machine c.groups.result.now c.enter_due-cycle.ensures.comes c.enter_due-cycle.ensures.goes
    c.groups.ensures

pub loop-passed-preserved : goal.loop-passed-preserved
loop-passed-preserved c =
    let many = c.loop-passed.invariant.many in
    let counted = c.loop-passed.invariant.behind.counted in
    record {
      behind =
          behind-more c.args.setup.now c.args.cards.now c.enter_due-cycle.result c.loop-passed._passed c.loop-passed.run
          c.enter_due-cycle.new.self c.leave.new.self c.loop-passed.invariant.behind
          (c.leave.ensures c.args.setup.now c.args.cards.now (along_of c.loop-passed.run) c.enter_due-cycle.ensures);
      many =
          ap length c.in_ok-push.ensures.items ∙ length-one c.loop-passed.all.items c.read_outs_of.result ∙ ap (λ (n : ℕ). n + 1) many;
      told =
          tell-more c.args.setup.now c.args.cards.now c.loop-passed.all.items c.push.new.self.items c.read_outs_of.result
          c.loop-passed.invariant.told
          (subst (λ (n : ℕ). AreReadOuts c.args.setup.now c.args.cards.now n c.read_outs_of.result) (counted ∙ sym many) (record {
            machine = c.enter_due-cycle.new.self.machine.machine;
            is = record {
              has =
                  cycle-in c.args.setup.now c.args.cards.now c.enter_due-cycle.result (along_of c.loop-passed.run)
                  c.enter_due-cycle.new.self c.enter_due-cycle.ensures;
              is = refl;
            };
            told = c.read_outs_of.ensures ∙ ap read_outs_of c.groups.ensures;
          }))
          c.in_ok-push.ensures.items;
    }

pub returns-clause-all : goal.returns-clause-all
returns-clause-all c =
    let less = c.loop-passed-test.false in
    let end = c.loop-passed.auto._passed-end in
    let many = c.loop-passed.invariant.many in
    omega (arith, less, end, many)

pub returns-clause-told : goal.returns-clause-told
returns-clause-told c = c.loop-passed.invariant.told
