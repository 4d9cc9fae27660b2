use Rattle.std.proofs.Common.{arith}
use Rattle.hubs.proofs.SetupsWords.RowLemmas.{RowGains-set}
use Rattle.hubs.proofs.setups.setup.push_entry.Goals as goal

pub returns-clause-gained : goal.returns-clause-gained
returns-clause-gained c =
    RowGains-set _ c.make_places.new.wires.items c.args.place c.args.entry c.index_mut.result.now c.push.new.self
    (omega (arith, c.make_places.new.wires.ok.0, c.in_ok-make_places.ensures.made)) c.in_ok-make_places.ensures.same
    c.index_mut.ensures.value c.in_ok-push.ensures.ok
