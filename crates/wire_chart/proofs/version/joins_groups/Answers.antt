use Rattle.wire_chart.proofs.Joining.{all_from}
use Rattle.wire_chart.proofs.version.joins_groups.Goals as goal

pub returns-clause-none : goal.returns-clause-none
returns-clause-none c = λ none.
    all_from c.args.setup.now c.loop-number.number c.loop-number-test.false c.loop-number.invariant
