use Rattle.fault_lists.proofs.Ends.{rules_written}
use Rattle.fault_lists.proofs.listing.list_rules.Goals as goal

pub returns-clause-listed : goal.returns-clause-listed
returns-clause-listed g c =
    rules_written c.write_rules.result c.args.text.now c.args.raw.now c.in_ok-list.list.items (g.W.Write.contents c.args.out.now)
    (g.W.Write.contents c.write_rules.new.out) c.in_ok-list.ensures.exact c.in_ok-list.ensures.ordered c.in_ok-list.ensures.first
    (rw c.as_slice.ensures.value at c.write_rules.ensures.written)
