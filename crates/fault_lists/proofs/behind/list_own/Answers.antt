use Rattle.std.proofs.Common.{◌∙◌, ap, filter}
use Rattle.fault_lists.specs.Behind.{is_own}
use Rattle.fault_lists.proofs.Rests.{own_written}
use Rattle.fault_lists.proofs.behind.list_own.Goals as goal

pub returns-clause-listed : goal.returns-clause-listed
returns-clause-listed g c =
    own_written c.write_rules.result c.args.text.now c.args.raw.now c.in_ok-list.list.items c.as_slice-2.result.now
    (g.W.Write.contents c.args.out.now) (g.W.Write.contents c.write_rules.new.out) c.in_ok-list.ensures.exact c.in_ok-list.ensures.ordered
    (c.as_slice-2.ensures.value ∙ c.in_ok-own.ensures ∙ ap (filter (is_own c.args.raw.now)) c.as_slice.ensures.value)
    c.write_rules.ensures.written
