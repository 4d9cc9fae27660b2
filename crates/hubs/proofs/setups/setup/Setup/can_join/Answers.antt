use Rattle.std.proofs.Common.{◌∙◌, sym}
use Rattle.hubs.proofs.SetupsWords.CarryJoins.{can-join, can't-join}
use Rattle.hubs.proofs.setups.setup.Setup.can_join.Goals as goal

pub returns-then-may_carry-clause-joins : goal.returns-then-may_carry-clause-joins
returns-then-may_carry-clause-joins c told =
    can-join c.args.self.now c.args.exit c.args.entry c.in-Some-Some.from c.in-Some-Some.to (sym c.in-Some-Some.ensures)
    (sym c.in-Some-Some.ensures') (sym c.may_carry.ensures ∙ c.if-may_carry.true) (c.stands_with_all.ensures.agrees told)

pub returns-then-may_carry-clause-refused : goal.returns-then-may_carry-clause-refused
returns-then-may_carry-clause-refused c told =
    let found = c.stands_with_all.ensures.found told in
    can't-join c.args.self.now c.args.exit c.args.entry c.in-Some-Some.from c.in-Some-Some.to found.0 (sym c.in-Some-Some.ensures)
    (sym c.in-Some-Some.ensures') found.1
