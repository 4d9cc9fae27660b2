use Rattle.std.proofs.Common.{sym}
use Rattle.match_panels.proofs.DifferencesWords.Counting.{stop-one}
use Rattle.match_panels.proofs.differences.sizes.stops_at.Goals as goal

pub returns-then-has_stop-clause-many : goal.returns-then-has_stop-clause-many
returns-then-has_stop-clause-many c = stop-one c.args.tape.now (sym c.if-has_stop.ensures.value)
