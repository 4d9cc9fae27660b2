-- How runs over decks whose cards come one by one begin, go on and end.
use Rattle.std.proofs.Common.{[], ◌∷◌, length-append, arith}
use Rattle.std.proofs.lemmas.List.Elements.{All-append, All-cons, All-nil}
use Rattle.chart_rules.specs.ValidCard.{IsValidCard}
use Rattle.report_definition.proofs.FollowedDecks.FitSoFar.{fits_end, fits_go_on}
use Rattle.machine.specs.Machine.{machine_at_start}
use Rattle.machine.proofs.FeedsInRuns.{feeds-in-run}
use Rattle.chart_lines.specs.ChartsWords.Levels.{level_number}
use Rattle.report_definition.specs.Totals.{GroupFits}
use Rattle.report_runs.specs.Laws.{StreamsBegin, StreamsEnd, StreamsGoOn, StreamsMayHaveNoCard}
use Rattle.report_runs.proofs.Feeding.{fed-more, fed-one, from-end, run-of-feeds}

pub streams_begin : StreamsBegin
streams_begin chart wiring card machine lines valid feed = record {
  valid = All-cons (IsValidCard chart) card [] valid (All-nil (IsValidCard chart));
  few = omega arith;
  fit = (fits_go_on chart.lines card).0;
  fed = fed-one wiring (machine_at_start wiring) card machine lines feed;
}

pub streams_go_on : StreamsGoOn
streams_go_on chart wiring card cards machine lines next new more streams valid room none feed = record {
  valid = All-append (IsValidCard chart) (card ∷ cards) (next ∷ []) streams.valid
      (All-cons (IsValidCard chart) next [] valid (All-nil (IsValidCard chart)));
  few = (let long = length-append cards (next ∷ []) in omega (arith, long, room));
  fit = (fits_go_on chart.lines card).1 cards next streams.fit none;
  fed = fed-more wiring (machine_at_start wiring) (card ∷ cards) machine lines next new more streams.fed feed;
}

pub streams_end : StreamsEnd
streams_end chart wiring card cards machine lines new more streams none feed = (
  fits_end chart.lines card cards streams.fit none,
  run-of-feeds wiring (card ∷ cards) machine new lines more streams.fed feed,
)

pub streams_of_none : StreamsMayHaveNoCard
streams_of_none chart wiring new lines feed = (
  λ level. All-nil (GroupFits chart.lines (level_number level)),
  feeds-in-run wiring [] lines (from-end wiring (machine_at_start wiring) new lines feed),
)
