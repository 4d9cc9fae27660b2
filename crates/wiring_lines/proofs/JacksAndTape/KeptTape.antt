-- The form and the stops of a lawful chart are those of a carriage tape.
use Rattle.std.proofs.Common.{◌≡◌, ℕ, ◌⊎◌, inl, inr, [], arith, subst}
use Rattle.std.specs.List.{Contains}
use Rattle.chart_rules.specs.Rules.{IsLawful}
use Rattle.chart_lines.specs.ChartsWords.Chart.{Chart}
use Rattle.hubs.specs.SetupsWords.Tapes.{IsFormed, IsStop}
use Rattle.wiring_table.specs.Below.report_definition.ChartForm.{form_of, stops_of}
use Rattle.wiring_table.proofs.Below.report_definition.LawfulForms.{IsGoodTape, room_of, stops-good}
use Rattle.wiring_table.proofs.Below.report_definition.NextStops.{listed_stop, on_form, rising}
use Rattle.chart_lines.proofs.ChartsWords.Listed.{listed-none}
use Rattle.wiring_lines.specs.JacksAndTape.HelperJacks.{HasTape}

-- the form of a lawful chart is one of a tape
formed : (chart : Chart) → IsLawful chart
    → IsFormed (form_of chart.lines).lines (form_of chart.lines).first (form_of chart.lines).overflow
formed chart lawful =
    let room = room_of chart lawful in
    record {
      lines_from = omega (arith, room.first_line, room.overflow_line, room.last_line);
      lines_to = room.few_lines;
      first_from = room.first_line;
      first_to = omega (arith, room.overflow_line, room.last_line);
      overflow_from = omega (arith, room.overflow_line);
      overflow_to = omega (arith, room.last_line);
    }

-- the stops of a lawful chart are those of a tape
stopped : (chart : Chart) → IsLawful chart → (channel line : ℕ) → Contains (stops_of chart.lines channel) line
    → IsStop (form_of chart.lines).lines channel line
stopped chart lawful channel line there = by (stops-good chart lawful channel)
  where
    by : (stops_of chart.lines channel ≡ []) ⊎ IsGoodTape (form_of chart.lines).lines channel (stops_of chart.lines channel) → IsStop (form_of chart.lines).lines channel line
    by (inl none) = absurd (listed-none line (subst (λ stops. Contains stops line) none there))
    by (inr good) =
        let at = listed_stop (stops_of chart.lines channel) line there in
        record {
          channel_from = good.from;
          channel_to = good.to;
          line_from = rising 0 (stops_of chart.lines channel) line good.rise at;
          line_to = on_form (form_of chart.lines).lines (stops_of chart.lines channel) line good.within at;
        }

pub has-tape : (chart : Chart) → IsLawful chart → HasTape chart.lines
has-tape chart lawful = record { formed = formed chart lawful; stops = stopped chart lawful }
