use Rattle.std.proofs.Common.{◌+◌, arith}
use Rattle.chart_plans.proofs.WantedWords.Columns.{columns-more, columns-all}
use Rattle.chart_plans.proofs.wanted.position.push_columns.Goals as goal

pub loop-place-preserved : goal.loop-place-preserved
loop-place-preserved c =
    columns-more c.args.list.now.items c.loop-place.list.items c.push.new.self.items c.args.line c.args.field.first c.loop-place.place
    (c.from-start.result + c.loop-place.place) c.loop-place.invariant (omega arith) c.in_ok-push.ensures.items

pub returns : goal.returns
returns c =
    columns-all c.args.list.now.items c.loop-place.list.items c.args.line c.args.field c.loop-place.place c.loop-place.invariant
    (omega (arith, c.columns-place-end.ensures))
