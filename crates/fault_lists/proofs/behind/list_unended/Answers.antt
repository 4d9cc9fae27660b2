use Rattle.fault_lists.proofs.Rests.{unended_written}
use Rattle.fault_lists.proofs.behind.list_unended.Goals as goal

pub returns-in-Ok-clause-listed : goal.returns-in-Ok-clause-listed
returns-in-Ok-clause-listed g c =
    unended_written c.list_ended.result c.args.text.now c.args.lines.now c.args.left.now (g.W.Write.contents c.args.out.now)
    (g.W.Write.contents c.list_no_end.new.out) (g.W.Write.contents c.list_ended.new.out) c.in-Ok.ensures c.list_ended.ensures.listed
