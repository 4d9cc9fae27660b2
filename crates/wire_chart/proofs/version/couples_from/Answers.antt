use Rattle.wire_chart.proofs.Joining.{this_exit}
use Rattle.wire_chart.proofs.version.couples_from.Goals as goal

pub returns-clause-none : goal.returns-clause-none
returns-clause-none c = λ none.
    this_exit c.args.setup.now c.args.number c.in-Some.exit c.in-Some.ensures.found (c.couples_to_any.ensures.none none)
