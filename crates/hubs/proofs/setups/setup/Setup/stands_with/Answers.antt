use Rattle.std.proofs.Common.{◌∙◌, ◌||◌, not, sym, ap, Bool}
use Rattle.hubs.specs.Carries.{do_carries_agree}
use Rattle.hubs.specs.declared.hub.Hub.TheVariants.{CI, CO}
use Rattle.hubs.proofs.SetupsWords.WiredLemmas.{wired-test}
use Rattle.hubs.proofs.setups.setup.Setup.stands_with.Goals as goal

pub returns-then-not-has : goal.returns-then-not-has
returns-then-not-has c =
    let wired = wired-test c.args.self.now (CO c.args.other) (CI c.args.next) c.has.result c.has.ensures.value in
    ap not c.if-not-has.true
    ∙ sym (ap (λ (b : Bool). not b || do_carries_agree c.args.from c.args.to c.args.other c.args.next) (sym wired ∙ c.if-not-has.true))

pub returns-else-not-has : goal.returns-else-not-has
returns-else-not-has c =
    let wired = wired-test c.args.self.now (CO c.args.other) (CI c.args.next) c.has.result c.has.ensures.value in
    c.do_carries_agree.ensures
    ∙ sym (ap (λ (b : Bool). not b || do_carries_agree c.args.from c.args.to c.args.other c.args.next) (sym wired ∙ c.if-not-has.false))
