use Rattle.std.proofs.Common.{length}
use Rattle.fault_chart_words.proofs.fault_words.parts.+good_stops.Given as goal

-- the stops become fewer
abbrev pub decreases-good_stops : goal.decreases-good_stops
decreases-good_stops l = length l.stops.now
