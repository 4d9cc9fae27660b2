-- The next stop of the carriage's tape is that of the chart.
use Rattle.std.proofs.Common.{◌≡◌, ℕ, ◌<◌, ◌≤◌, ◌==◌, true, false, List, Contains, Option, Some, None, refl, sym, subst, ◌∙◌, arith}
use Rattle.std.proofs.lemmas.Bool.Decides.{nat_tests}
use Rattle.std.proofs.lemmas.Bool.{false_from_ne_true}
use Rattle.carriage.specs.Below.hubs.SetupsWords.Tapes.{CarriageTape, has_stop}
use Rattle.carriage.specs.Moves as moves
use Rattle.carriage.proofs.StopSteps.{next_stop-tells, next_stop-none_tells}
use Rattle.report_definition.specs.Below.chart_lines.declared.charts.chart.Line.{Line}
use Rattle.report_definition.specs.ChartForm.{form_of, stops_of}
use Rattle.report_definition.specs.Places.{next_stop}
use Rattle.report_definition.proofs.NextStops.{IsNextOf, found, listed_stop, missing, on_form, stop_listed}
use Rattle.report_definition.proofs.NextStops.{has_stop as has_stop_at}
use Rattle.proof_reports.specs.WiredPanels.CycleAsks.LinePlaces.Placing.{IsFormOf}
use Rattle.proof_reports.specs.WiredPanels.CycleAsks.LinePlaces.FormFacts.{HasGoodStops}

-- the stops of channels 2 to 11 are the punched ones
is-punched : (form : CarriageTape) (channel line : ℕ) → 2 ≤ channel → channel ≤ 11
    → moves.is_stop_of form channel line ≡ has_stop form channel line
is-punched form channel line from to =
    let first : (channel == 1) ≡ false = grind (arith, nat_tests, from) in
    let last : (channel == 12) ≡ false = grind (arith, nat_tests, to) in
    rw (first, last) refl

-- what the next stop of a chart is
next_of : (lines : List Line) (channel line stop : ℕ) → HasGoodStops lines → next_stop lines channel line ≡ Some stop
    → IsNextOf (stops_of lines channel) line stop
next_of lines channel line stop good is = found 0 line (stops_of lines channel) stop (good.rise channel) is

-- the next stop of the carriage's tape is that of the chart
pub next_stop-of_chart : (lines : List Line) (form : CarriageTape) (channel line : ℕ) → IsFormOf lines form → HasGoodStops lines
    → 2 ≤ channel → channel ≤ 11 → moves.next_stop form channel line ≡ next_stop lines channel line
next_stop-of_chart lines form channel line is_form good from to = by (next_stop lines channel line) refl
  where
    none_at : (other : ℕ) → (Contains (stops_of lines channel) other → ⊥) → moves.is_stop_of form channel other ≡ false
    none_at other none =
        is-punched form channel other from to
        ∙ false_from_ne_true (has_stop form channel other) (λ punched. none ((is_form.stops channel other from to).0 punched))

    not_between : (other : ℕ) → (has_stop_at (stops_of lines channel) other ≡ true → ⊥) → moves.is_stop_of form channel other ≡ false
    not_between other none = none_at other (λ listed. none (listed_stop (stops_of lines channel) other listed))

    by : (o : Option ℕ) → next_stop lines channel line ≡ o → moves.next_stop form channel line ≡ o
    by None none =
        (next_stop-none_tells form channel line).1
        (λ other low high. not_between other (λ there.
        let least = missing line (stops_of lines channel) other none there in omega (arith, low, least)))
    by (Some stop) found =
        let next = next_of lines channel line stop good found in
        (next_stop-tells form channel line stop).1
        (record {
          below = next.below;
          on_form = subst (λ n. stop ≤ n) (sym is_form.length) (on_form (form_of lines).lines (stops_of lines channel) stop (good.within channel) next.is_stop);
          is_stop = is-punched form channel stop from to
              ∙ (is_form.stops channel stop from to).1 (stop_listed (stops_of lines channel) stop next.is_stop);
          first = λ other low high. not_between other (λ there. let least = next.first other there low in omega (arith, high, least));
        })

-- the next stop of a chart lies below the line and on the form
pub next_stop-below : (lines : List Line) (channel line stop : ℕ) → HasGoodStops lines → next_stop lines channel line ≡ Some stop
    → (line < stop) × (stop ≤ (form_of lines).lines)
next_stop-below lines channel line stop good found =
    let next = next_of lines channel line stop good found in
    (next.below, on_form (form_of lines).lines (stops_of lines channel) stop (good.within channel) next.is_stop)
