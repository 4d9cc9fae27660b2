use Rattle.std.proofs.Common.{◌≡◌, ◌∙◌, sym, ap}
use Rattle.std.proofs.lemmas.Option.{none-some, same_Some}
use Rattle.hubs.specs.Hubs.{carry_out_of}
use Rattle.hubs.specs.declared.hub.Group.{Group}
use Rattle.hubs.specs.declared.hub.Hub.TheVariants.{CO}
use Rattle.hubs.specs.SetupsWords.CarryWires.{stands_beside}
use Rattle.hubs.proofs.setups.setup.Setup.stands_at.Goals as goal

pub returns-in_default-clause-agrees : goal.returns-in_default-clause-agrees
returns-in_default-clause-agrees c told group numbered =
    absurd (none-some (CO group) (sym c.in_default.is ∙ c.of_number.ensures.found (CO group) numbered))

pub returns-in-Some-carry_out_of-clause-agrees : goal.returns-in-Some-carry_out_of-clause-agrees
returns-in-Some-carry_out_of-clause-agrees c told group numbered =
    let hub : c.in-Some.exit ≡ CO group = same_Some c.in-Some.exit (CO group) (sym c.in-Some.is ∙ c.of_number.ensures.found (CO group) numbered) in
    let same : c.in-Some-carry_out_of.group ≡ group =
    same_Some c.in-Some-carry_out_of.group group (c.in-Some-carry_out_of.ensures ∙ ap carry_out_of hub) in
    ap (λ (g : Group). stands_beside c.args.self.now c.args.from c.args.to g) (sym same) ∙ sym c.stands_beside.ensures ∙ told

pub returns-in-None-clause-agrees : goal.returns-in-None-clause-agrees
returns-in-None-clause-agrees c told group numbered =
    let hub : c.in-Some.exit ≡ CO group = same_Some c.in-Some.exit (CO group) (sym c.in-Some.is ∙ c.of_number.ensures.found (CO group) numbered) in
    absurd (none-some group (c.in-None.ensures ∙ ap carry_out_of hub))
