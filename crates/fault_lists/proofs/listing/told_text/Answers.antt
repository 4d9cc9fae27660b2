use Rattle.fault_lists.proofs.Ends.{text_lists}
use Rattle.fault_lists.proofs.listing.told_text.Goals as goal

pub returns-in-Ok-list_text : goal.returns-in-Ok-list_text
returns-in-Ok-list_text g c =
    text_lists c.args.text.now c.in-Ok.lines.items (g.W.Write.contents c.args.out.now) (g.W.Write.contents c.list_text.new.out)
    c.args.fault c.text_told.result c.requires c.in-Ok.ensures c.text_told.ensures
    (rw c.as_slice.ensures.value at c.in-Ok-list_text.ensures.listed)
