use Rattle.machine_served.proofs.served.laws.a_unit_keeps_to_its_own.Goals as goal

pub returns : goal.returns
returns g c = g.met.U.Unit.keeps_to_its_own
