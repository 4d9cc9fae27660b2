use Rattle.chart_plans.specs.declared.wanted.count.Capacity.TheVariants as of
use Rattle.allocate.proofs.Order.{IsOver-first}
use Rattle.allocate.proofs.exceeded.fault_of.Goals as goal

pub wide_text-requires : goal.wide_text-requires
wide_text-requires c = IsOver-first of.StorageWidth c.args.wanted.now c.args.profile.now (rw c.in-StorageWidth.is at c.requires)
