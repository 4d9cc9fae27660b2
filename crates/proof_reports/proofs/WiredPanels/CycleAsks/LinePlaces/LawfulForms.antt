-- A lawful chart has a good form: what the rules on the form and on the carriage tape come to.
use Rattle.std.proofs.Common.{◌≡◌}
use Rattle.report_definition.specs.Below.chart_lines.ChartsWords.Chart.{Chart}
use Rattle.report_definition.specs.Below.chart_rules.Rules.{IsLawful}
use Rattle.report_definition.proofs.LawfulForms.{headings-few, room_of, skip-range, spacing-range, stops_rise, stops_within}
use Rattle.proof_reports.specs.WiredPanels.CycleAsks.LinePlaces.FormFacts.{HasGoodForm}

pub form-lawful : (chart : Chart) → IsLawful chart → HasGoodForm chart.lines
form-lawful chart lawful =
    let room = room_of chart lawful in
    record {
      room = record {
        first = room.first_line;
        top = room.overflow_line;
        bottom = room.last_line;
        long = room.few_lines;
        few_headings = headings-few chart.lines;
        spacing_from = λ kind. (spacing-range chart.lines kind).0;
        spacing_to = λ kind. (spacing-range chart.lines kind).1;
      };
      stops = record { rise = stops_rise chart lawful; within = stops_within chart lawful };
      skips = record {
        from = λ kind channel is. (skip-range chart lawful kind channel is).0;
        to = λ kind channel is. (skip-range chart lawful kind channel is).1;
      };
    }
