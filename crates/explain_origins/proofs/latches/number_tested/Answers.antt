use Rattle.std.proofs.Common.{◌≡◌, ◌∙◌, ap, arith, get_or}
use Rattle.explain_ledgers.proofs.LedgersWords.Keeping.{groups-many}
use Rattle.machine.specs.Machine.{MachineState}
use Rattle.explain_origins.proofs.Texts.{tested-at}
use Rattle.explain_origins.proofs.latches.number_tested.Goals as goal

pub returns : goal.returns
returns c =
    let has = c.in_ok-machine.ensures.has in
    let many = groups-many c.args.setup.now c.args.cards.now has.cycle has.along has.behind c.groups.result.now has.comes has.goes
    (c.groups.ensures ∙ ap (λ (m : MachineState). m.groups) c.in_ok-machine.ensures.is) in
    let place = c.requires.place in
    let is = c.index-groups-place.is in
    let item : c.index-groups-place.result ≡ get_or c.groups.result.now c.args.place c.index-groups-place.result = grind (arith, is) in
    record {
      machine = c.in_ok-machine.machine.machine;
      is = c.in_ok-machine.ensures;
      told =
          tested-at c.groups.result.now c.in_ok-machine.machine.machine.groups c.args.place c.index-groups-place.result c.turned.result
          c.args.since.cycle c.value.result (omega (arith, many, place)) item c.groups.ensures c.turned.ensures c.value.ensures;
    }
