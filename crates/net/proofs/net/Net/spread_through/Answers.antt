use Rattle.std.proofs.Common.{sym}
use Rattle.net.proofs.PassedRows.{passed_none}
use Rattle.net.proofs.net.Net.spread_through.Goals as goal

pub returns-then-are_empty : goal.returns-then-are_empty
returns-then-are_empty c all wiring is_net may row =
    passed_none wiring c.args.digits.now c.args.zones.now row c.args.sets.now (rw (sym c.sets.view_is) (c.are_empty.ensures c.if-are_empty.true))

pub returns-in-Some : goal.returns-in-Some
returns-in-Some c all wiring is_net may row =
    c.spread_by.ensures all wiring c.args.self.now c.args.cycle is_net (c.in-Some.ensures wiring is_net) may row
