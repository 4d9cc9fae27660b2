-- What is shown of each total of a chart on a panel that is wired for it is the counter of the plan.
use Rattle.std.proofs.Common.{◌≡◌, ◌∙◌, refl, sym, ap, ◌<◌, ◌≤◌, false, true≢false, Contains, Option, Some, None, IfNone, IfSome, is_none, arith}
use Rattle.std.proofs.lemmas.Bool.{not-false}
use Rattle.chart_rules.specs.Rules.{IsLawful, breaks}
use Rattle.chart_rules.specs.declared.rule.Rule.TheVariants as rule
use Rattle.chart_rules.proofs.Laws.{field-line, good-listed, kept-line}
use Rattle.chart_lines.specs.ChartsWords.Chart.{Chart, NumbersRise}
use Rattle.chart_lines.specs.ChartsWords.Field.{is_amount}
use Rattle.chart_lines.specs.ChartsWords.Levels.{level_number}
use Rattle.chart_lines.specs.declared.charts.chart.Line.{Line}
use Rattle.chart_lines.specs.declared.charts.statement.Field.{Field}
use Rattle.chart_line_rules.specs.FieldRules.Fields.{field_named}
use Rattle.chart_line_rules.specs.FieldRules.Names.{names_text}
use Rattle.hubs.proofs.HubLemmas.{W-number}
use Rattle.chart_plans.specs.PlansWords.Plans.{Lists}
use Rattle.chart_plans.specs.declared.plans.counter.TotalCounter.{TotalCounter}
use Rattle.chart_plans.specs.declared.plans.counter.TotalCounter.TheVariants as of
use Rattle.hubs.specs.SetupsWords.Wiring.{Wiring}
use Rattle.chart_plans.specs.WantedWords.ChartTotals.{line_total}
use Rattle.chart_plans.specs.declared.wanted.total.Total.{Total}
use Rattle.wiring_table.specs.Parts.{counter_for}
use Rattle.wiring_table.proofs.Groups.{counter-enough, is-served}
use Rattle.wiring_table.proofs.Totals.{total-digits, total-of}
use Rattle.match_plans.specs.NamingWires.{ShowsPartsOf}
use Rattle.match_plans.specs.Totals.{IsShownOn, its_need}
use Rattle.match_plans.specs.Wired.{IsWiredBy, TotalOn, served_by, served_on, units_wheel}
use Rattle.match_plans.proofs.Alike.{back, if-none, if-some, is-shown}
use Rattle.match_plans.proofs.Unique.{its-shown, only-shown}
use Rattle.match_plans.proofs.Whole.{IsTotal, is-total, its-counter}

-- the only thing that is so is what is found
only-found : (Is : TotalCounter → Type 0) (counter : TotalCounter) (result : Option TotalCounter) → IfSome result Is
    → IfNone result ((other : TotalCounter) → ¬ Is other) → Is counter → ((other : TotalCounter) → Is other → other ≡ counter)
    → result ≡ Some counter
only-found Is counter None some none is only = absurd (none counter is)
only-found Is counter (Some other) some none is only = ap Some (only other some)

module _ (chart : Chart) (lawful : IsLawful chart) (rise : NumbersRise chart.lines chart.end) where
  -- the total that a line is
  pub total-there : (line : Line) (total : Total) → Contains chart.lines line
      → line_total chart.lines line.number line.statement ≡ Some total → TotalOn chart.lines line
  total-there line total listed is =
      let t = is-total chart.lines line total is in
      let (before, known) = kept-line chart lawful line listed rule.UnknownName in
      let (earlier, right_kind) = kept-line chart lawful line listed rule.WrongKind in
      by t (field_named chart.lines t.asked.name) refl
      (sym (ap (breaks rule.UnknownName chart.lines before) t.says_total) ∙ known)
      (sym (ap (breaks rule.WrongKind chart.lines earlier) t.says_total) ∙ right_kind)
    where
      by : (t : IsTotal chart.lines line total) (o : Option Field) → field_named chart.lines t.asked.name ≡ o → is_none (field_named chart.lines t.asked.name) ≡ false
          → names_text (field_named chart.lines t.asked.name) ≡ false → TotalOn chart.lines line
      by t None named some right = absurd (true≢false (sym (ap is_none named) ∙ some))
      by t (Some field) named some right = record {
        asked = t.asked;
        field = field;
        says_total = t.says_total;
        amount = record { named = named; holds_amount = not-false (is_amount field.kind) (sym (ap names_text named) ∙ right) };
      }

  some-digits : (line : Line) (total : TotalOn chart.lines line) → Contains chart.lines line → 1 ≤ total.asked.digits
  some-digits line total listed =
      let its = total-of chart.lines line total.asked listed total.says_total in
      let good = total-digits chart total.asked.name lawful (level_number total.asked.level) line.number total.field its total.amount.named in
      let card = (good-listed chart lawful total.field (field-line chart.lines total.asked.name total.field total.amount.named).among).card in
      omega (arith, good.enough, card.order)

  module _ (setup : Wiring) (its : Lists) (wired : IsWiredBy chart.lines setup its) where
    shown : (line : Line) (listed : Contains chart.lines line) (total : TotalOn chart.lines line) (counter : TotalCounter)
        → counter_for chart.lines its line.number ≡ Some counter
        → IsShownOn chart.lines setup line total counter
        × ((other : TotalCounter) → IsShownOn chart.lines setup line total other → other ≡ counter)
    shown line listed total counter served =
        let a = is-served chart.lines its line.number counter served in
        let there = wired.planned.counters.there a.place counter a.there in
        let of_line = total-of chart.lines line total.asked listed total.says_total in
        let enough = counter-enough chart.lines its wired.planned chart.end total.asked.name (level_number total.asked.level) line.number counter rise of_line served in
        let some = some-digits line total listed in (
          its-shown chart its setup lawful rise wired.planned wired.wired line listed total counter some served there enough,
          λ other is. only-shown chart its setup lawful rise wired.planned wired.wired line listed total counter other some served there enough is,
        )

    small : (line : Line) (total : TotalOn chart.lines line) (counter : TotalCounter) → IsShownOn chart.lines setup line total counter
        → units_wheel chart.lines line total < 256
    small line total (of.Single group) (narrow, there, shows) =
        let at = W-number (units_wheel chart.lines line total) shows.units.to shows.units.entry_numbered in
        omega (arith, at.2)
    small line total (of.Coupled lower upper) (wide, low_there, high_there, shows, carries) =
        let at = W-number (units_wheel chart.lines line total) shows.units.to shows.units.entry_numbered in
        omega (arith, at.2)

    -- what is shown on the line of a total is its counter
    pub found-on : (line : Line) (result : Option TotalCounter) (total : Total) → Contains chart.lines line
        → line_total chart.lines line.number line.statement ≡ Some total
        → ((on : TotalOn chart.lines line) → units_wheel chart.lines line on < 256 → IfSome result (IsShownOn chart.lines setup line on))
        → ((on : TotalOn chart.lines line) → units_wheel chart.lines line on < 256
        → IfNone result ((counter : TotalCounter) → ¬ IsShownOn chart.lines setup line on counter))
        → result ≡ served_on chart.lines its line
    found-on line result total listed is some none =
        let on = total-there line total listed is in
        let counter = its-counter chart.lines chart.end its rise wired.planned line total listed is in
        let known = shown line listed on counter.0 counter.1 in
        let less = small line on counter.0 known.0 in
        only-found (IsShownOn chart.lines setup line on) counter.0 result (some on less) (none on less) known.0 known.1
        ∙ sym counter.1 ∙ sym (ap (served_by chart.lines its line.number) is)

    -- and there is one
    pub served-there : (line : Line) (total : Total) → Contains chart.lines line → line_total chart.lines line.number line.statement ≡ Some total
        → (counter : TotalCounter) × (served_on chart.lines its line ≡ Some counter)
    served-there line total listed is =
        let counter = its-counter chart.lines chart.end its rise wired.planned line total listed is in
        (counter.0, ap (served_by chart.lines its line.number) is ∙ counter.1)

  -- what is found where only the wires that name parts are those of a panel that is wired for the chart
  pub found-alike : (setup other : Wiring) (its : Lists) → ShowsPartsOf chart.lines setup other its → (line : Line) (result : Option TotalCounter)
      (total : Total) → Contains chart.lines line → line_total chart.lines line.number line.statement ≡ Some total
      → ((on : TotalOn chart.lines line) → units_wheel chart.lines line on < 256 → IfSome result (IsShownOn chart.lines setup line on))
      → ((on : TotalOn chart.lines line) → units_wheel chart.lines line on < 256
      → IfNone result ((counter : TotalCounter) → ¬ IsShownOn chart.lines setup line on counter))
      → result ≡ served_on chart.lines its line
  found-alike setup other its shows line result total listed is some none =
      found-on other its shows.wired line result total listed is
      (λ on less.
      if-some (IsShownOn chart.lines setup line on) (IsShownOn chart.lines other line on)
      (is-shown shows.alike (level_number on.asked.level) (units_wheel chart.lines line on) (its_need chart.lines line on)) result (some on less))
      (λ on less.
      if-none ((counter : TotalCounter) → ¬ IsShownOn chart.lines setup line on counter)
      ((counter : TotalCounter) → ¬ IsShownOn chart.lines other line on counter)
      (λ no counter there.
      no counter
      (is-shown (back shows.alike) (level_number on.asked.level) (units_wheel chart.lines line on) (its_need chart.lines line on) counter there))
      result (none on less))
