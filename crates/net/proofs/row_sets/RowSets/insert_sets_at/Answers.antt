use Rattle.std.proofs.Common.{sym, arith}
use Rattle.hubs.proofs.HubLemmas.{number_of-range}
use Rattle.net.proofs.SetLemmas.{sets-joined}
use Rattle.net.proofs.row_sets.RowSets.insert_sets_at.Goals as goal

pub overflow_sub-number : goal.overflow_sub-number
overflow_sub-number c = (number_of-range c.args._first c.args.number c.requires).0

pub insert_sets-requires : goal.insert_sets-requires
insert_sets-requires c = let range = number_of-range c.args._first c.args.number c.requires in omega (arith, range.0, range.1)

pub returns : goal.returns
returns c row hub =
    rw (sym c.self.view_is)
    (sets-joined c.args._first hub c.args.number row c.args.sets.now c.self.inside.places c.insert_sets.new.self
    c.requires (number_of-range c.args._first c.args.number c.requires).0 (number_of-range hub) c.insert_sets.ensures)
