use Rattle.fault_lists.proofs.Ends.{capacity_listed, ok_answered, rules_listed}
use Rattle.fault_lists.proofs.listing.list_read.Goals as goal

pub returns-in-Ok-clause-fine : goal.returns-in-Ok-clause-fine
returns-in-Ok-clause-fine g c =
    ok_answered c.list_capacity.result c.args.text.now c.args.raw c.in-Ok.chart (g.W.Write.contents c.args.out.now)
    (g.W.Write.contents c.list_rules.new.out) (g.W.Write.contents c.list_capacity.new.out) c.requires c.in-Ok.ensures.same
    c.in-Ok.ensures.lawful c.in_ok-list_rules.ensures.listed c.list_capacity.ensures.fits

pub returns-in-Ok-clause-ends : goal.returns-in-Ok-clause-ends
returns-in-Ok-clause-ends g c =
    capacity_listed c.list_capacity.result c.args.text.now c.args.raw c.in-Ok.chart (g.W.Write.contents c.args.out.now)
    (g.W.Write.contents c.list_rules.new.out) (g.W.Write.contents c.list_capacity.new.out) c.requires c.in-Ok.ensures.same
    c.in-Ok.ensures.lawful c.in_ok-list_rules.ensures.listed c.list_capacity.ensures.exceeds

pub returns-in-Err-clause-ends : goal.returns-in-Err-clause-ends
returns-in-Err-clause-ends g c =
    rules_listed c.args.text.now c.args.raw (g.W.Write.contents c.args.out.now) (g.W.Write.contents c.list_rules.new.out) c.in-Err.fault
    c.rule_told.result c.requires c.in_ok-list_rules.ensures.listed c.in-Err.ensures.refused c.rule_told.ensures
