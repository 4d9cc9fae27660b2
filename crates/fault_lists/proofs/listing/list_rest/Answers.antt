use Rattle.fault_lists.proofs.Rests.{behind_written}
use Rattle.fault_lists.proofs.listing.list_rest.Goals as goal

pub returns-in-NotALine-clause-listed : goal.returns-in-NotALine-clause-listed
returns-in-NotALine-clause-listed g c =
    behind_written c.list_behind.result c.args.text.now c.args.lines.now c.args.fault _ (g.W.Write.contents c.args.out.now)
    (g.W.Write.contents c.list_behind.new.out) c.in-NotALine.is c.list_behind.ensures.listed
