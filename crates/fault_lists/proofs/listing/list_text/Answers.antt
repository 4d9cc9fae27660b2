use Rattle.fault_lists.proofs.Ends.{text_written}
use Rattle.fault_lists.proofs.listing.list_text.Goals as goal

pub returns-in-Ok-clause-listed : goal.returns-in-Ok-clause-listed
returns-in-Ok-clause-listed g c =
    text_written c.list_rest.result c.args.text.now c.args.lines.now c.args.fault (g.W.Write.contents c.args.out.now)
    (g.W.Write.contents c.write_text_entry.new.out) (g.W.Write.contents c.list_rest.new.out) c.in-Ok.ensures c.list_rest.ensures.listed
