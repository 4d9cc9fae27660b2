use Rattle.std.proofs.Common.{◌+◌, ◌-◌, length, if◌then◌else◌}
use Rattle.report_streams.proofs.CardLines.Filling.{IsFilling}
use Rattle.report_streams.proofs.card_lines.reading.CardLines.fill.Given as goal

abbrev pub invariant-loop-front : goal.invariant-loop-front
invariant-loop-front g l =
    let now = l.self-inside in
    IsFilling g.S.Source.left g.S.Source.reads g.S.Source.borrow g.S.Source.has_failed l.fn.self
    (record { source = now.source; held = now.held; given = now.given; at_end = now.at_end; has_failed = now.has_failed })

abbrev pub decreases-loop-front : goal.decreases-loop-front
decreases-loop-front g l = (82 - length l.self-inside.held) + (if l.self-inside.at_end then 0 else 1)
