-- On a panel that is wired for a chart by a plan, the wires that name the storage unit of a text on a total line name that of the plan.
use Rattle.std.proofs.Common.{◌≡◌, ◌∙◌, refl, sym, ap, subst, ℕ, ◌+◌, ◌≤◌, ◌==◌, false, true≢false, List, [], ◌∷◌, Contains, Option, Some, None, IfNone, IfSome, is_none, is_some, map, filter, filter_map, option_map, arith, cond}
use Rattle.std.specs.List.{cons_option}
use Rattle.std.specs.Option.{option_and_then}
use Rattle.std.proofs.lemmas.Bool.Decides.{nat_tests}
use Rattle.chart_rules.specs.Rules.{IsLawful, breaks}
use Rattle.chart_rules.specs.declared.rule.Rule.TheVariants as rule
use Rattle.chart_rules.proofs.Laws.{field-line, good-listed, kept-line}
use Rattle.chart_lines.specs.ChartsWords.Chart.{Chart, NumbersRise}
use Rattle.chart_lines.specs.ChartsWords.Field.{columns_of}
use Rattle.chart_lines.specs.ChartsWords.Levels.{level_number}
use Rattle.chart_lines.specs.declared.charts.chart.Line.{Line}
use Rattle.chart_lines.specs.declared.charts.level.Level.{Level}
use Rattle.chart_lines.specs.declared.charts.statement.BodyLine.TheVariants as body
use Rattle.chart_lines.specs.declared.charts.statement.Field.{Field}
use Rattle.chart_lines.specs.declared.charts.statement.Statement.{Statement}
use Rattle.chart_lines.specs.declared.charts.statement.Statement.TheVariants as says
use Rattle.chart_lines.proofs.ChartsWords.Rising.{one-line as line-by-number}
use Rattle.chart_line_rules.specs.FieldRules.Fields.{field_named, fields_of}
use Rattle.chart_line_rules.specs.FieldRules.Names.{names_amount}
use Rattle.hubs.specs.declared.hub.Hub.{Hub}
use Rattle.hubs.specs.declared.hub.Hub.TheVariants.{PX, SO, SX, W}
use Rattle.match_plans.specs.NamingWires.{ShowsPartsOf}
use Rattle.match_plans.proofs.Asked.{asks}
use Rattle.match_plans.proofs.Alike.{back, if-none, if-some, shows-text}
use Rattle.match_plans.specs.Shown.{ShowsText}
use Rattle.match_plans.specs.Texts.{text_of}
use Rattle.match_plans.specs.Wired.{IsWiredBy}
use Rattle.match_plans.specs.declared.text_units.TextPlace.{TextPlace}
use Rattle.match_plans.proofs.Apart.{HasOwnPlaces, all-numbers, apart-lines, own-place}
use Rattle.match_plans.proofs.Unique.{same-line}
use Rattle.chart_plans.specs.declared.plans.part_numbers.PartKind.TheVariants as kind
use Rattle.chart_plans.specs.PlansWords.Plans.{Lists}
use Rattle.chart_line_rules.specs.PrintRules.Items.{item_of, text_item}
use Rattle.chart_line_rules.specs.declared.print_rules.items.PrintedLine.TheVariants.{Body}
use Rattle.proof_reports.proofs.PrintedLines.Meeting.{one-line}
use Rattle.hubs.specs.SetupsWords.Wiring.{HasWire, Wiring}
use Rattle.chart_plans.specs.WantedWords.Units.{is_of_kind, is_total_text}
use Rattle.chart_plans.specs.WantedWords.Wanted.{Parts}
use Rattle.wiring_table.specs.Figures.{IsText}
use Rattle.wiring_table.specs.Parts.{unit_for}
use Rattle.wiring_table.specs.Wires.{ChartWire, LineWire}
use Rattle.wiring_table.specs.Wires.LineWire.{detail_mark_out, total_text_given, total_text_out}
use Rattle.wiring_table.proofs.Parts.{unit-given, unit-own}
use Rattle.match_plans.proofs.Clashes.{apart, clash, is_giving, is_side, is_stored, side-is, to_wheel}

module _ (lines : List Line) (plan : Lists) where
  -- a text that a storage unit gives in the printing cycle of a level
  record GivenOf (number : ℕ) (statement : Statement) (cycle unit : ℕ) : Type 0 where
    level : Level
    wheel : ℕ
    name : List ℕ
    says_text : statement ≡ says.TotalText level wheel name
    served : unit_for plan number ≡ Some unit
    at : level_number level ≡ cycle

  given-of : {number : ℕ} {statement : Statement} {exit entry : Hub} (cycle unit : ℕ)
      → LineWire lines plan number statement exit entry → exit ≡ PX cycle 3 → entry ≡ SO unit → GivenOf number statement cycle unit
  given-of cycle unit (total_text_given level wheel name its served) e f =
      let same_unit : its ≡ unit = cc in
      let same_cycle : level_number level ≡ cycle = cc in
      record { level = level; wheel = wheel; name = name; says_text = refl; served = served ∙ ap Some same_unit; at = same_cycle }
  given-of cycle unit other e f = clash is_giving (sym f) refl refl

  -- a text whose first column a storage unit puts on a wheel
  record TextOf (number : ℕ) (statement : Statement) (unit v : ℕ) : Type 0 where
    level : Level
    wheel : ℕ
    name : List ℕ
    field : Field
    says_text : statement ≡ says.TotalText level wheel name
    is_text : IsText lines name field
    some : 1 ≤ columns_of field
    served : unit_for plan number ≡ Some unit
    at : wheel ≡ v

  text-at : {number : ℕ} {statement : Statement} {exit entry : Hub} (unit v : ℕ)
      → LineWire lines plan number statement exit entry → exit ≡ SX unit 1 → entry ≡ W v → TextOf number statement unit v
  text-at unit v (total_text_out level wheel name field its j is_text within served) e f =
      let same_unit : its ≡ unit = cc in
      let first : j + 1 ≡ 1 = cc in
      let same_wheel : wheel + j ≡ v = cc in
      record {
        level = level;
        wheel = wheel;
        name = name;
        field = field;
        says_text = refl;
        is_text = is_text;
        some = omega (arith, within);
        served = served ∙ ap Some same_unit;
        at = omega (arith, first, same_wheel);
      }
  text-at unit v (detail_mark_out wheel name mark rule field pilot k row p0 p1 p2 p3) e f = clash is_side e (side-is rule pilot (2 + k)) refl
  text-at unit v other e f = apart (to_wheel is_stored) e f refl refl

-- the unit of a text on a line
abbrev pub unit_on : Lists → Line → Option ℕ
unit_on its line = option_and_then (λ text. unit_for its line.number) (text_of line.statement)

texts-tested : (statement : Statement) → is_total_text statement ≡ is_some (text_of statement)
texts-tested (says.TotalText level wheel name) = refl
texts-tested other = refl

by-lines : (its : Lists) (suffix : List Line)
    → filter_map (unit_on its) suffix
    ≡ filter_map (unit_for its) (map (λ (line : Line). line.number) (filter (λ line. is_total_text line.statement) suffix))
by-lines its [] = refl
by-lines its (line ∷ rest) = by (text_of line.statement) refl (texts-tested line.statement) (by-lines its rest)
  where
    by : (o : Option TextPlace) → text_of line.statement ≡ o → is_total_text line.statement ≡ is_some (text_of line.statement)
        → filter_map (unit_on its) rest
        ≡ filter_map (unit_for its) (map (λ (each : Line). each.number) (filter (λ each. is_total_text each.statement) rest))
        → cons_option (option_and_then (λ text. unit_for its line.number) (text_of line.statement)) (filter_map (unit_on its) rest)
        ≡ filter_map (unit_for its) (map (λ (each : Line). each.number)
        (cond (is_total_text line.statement) (line ∷ filter (λ each. is_total_text each.statement) rest)
        (filter (λ each. is_total_text each.statement) rest)))
    by None none tested later = rw (none, tested, none) later
    by (Some text) is tested later = rw (is, tested, is) (ap (cons_option (unit_for its line.number)) later)

module _ (chart : Chart) (setup : Wiring) (lawful : IsLawful chart) (rise : NumbersRise chart.lines chart.end) (its : Lists)
    (wired : IsWiredBy chart.lines setup its) where
  -- the field of a text
  text-field : (line : Line) (level : Level) (wheel : ℕ) (name : List ℕ) → Contains chart.lines line
      → line.statement ≡ says.TotalText level wheel name → (field : Field) × IsText chart.lines name field
  text-field line level wheel name listed says_it =
      let (before, known) = kept-line chart lawful line listed rule.UnknownName in
      let (earlier, right_kind) = kept-line chart lawful line listed rule.WrongKind in
      by (field_named chart.lines name) refl (sym (ap (breaks rule.UnknownName chart.lines before) says_it) ∙ known)
      (sym (ap (breaks rule.WrongKind chart.lines earlier) says_it) ∙ right_kind)
    where
      by : (o : Option Field) → field_named chart.lines name ≡ o → is_none (field_named chart.lines name) ≡ false
          → names_amount (field_named chart.lines name) ≡ false → (field : Field) × IsText chart.lines name field
      by None named some right = absurd (true≢false (sym (ap is_none named) ∙ some))
      by (Some field) named some right = (field, record { named = named; holds_text = sym (ap names_amount named) ∙ right })

  its-item : (line : Line) (level : Level) (wheel : ℕ) (name : List ℕ) (field : Field) → line.statement ≡ says.TotalText level wheel name
      → IsText chart.lines name field
      → item_of (fields_of chart.lines) line.statement ≡ Some (text_item (Body (body.Total level)) wheel (columns_of field))
  its-item line level wheel name field says_it is =
      ap (item_of (fields_of chart.lines)) says_it
      ∙ ap (λ o. option_map (λ (each : Field). text_item (Body (body.Total level)) wheel (columns_of each)) o) is.named

  module _ (line : Line) (listed : Contains chart.lines line) (level : Level) (wheel : ℕ) (name : List ℕ)
      (says_it : line.statement ≡ says.TotalText level wheel name) where
    some-columns : (field : Field) → IsText chart.lines name field → 1 ≤ columns_of field
    some-columns field is =
        let card = (good-listed chart lawful field (field-line chart.lines name field is.named).among).card in
        omega (arith, card.order)

    -- the unit of the text shows it
    unit-shown : (unit : ℕ) → unit_for its line.number ≡ Some unit → ShowsText setup (level_number level) wheel unit
    unit-shown unit served =
        let (field, is) = text-field line level wheel name listed says_it in
        let first : wheel + 0 ≡ wheel = omega arith in
        record {
          given = asks wired.wired line listed says_it (total_text_given level wheel name unit served);
          first = subst (λ w. HasWire setup (SX unit 1) (W w)) first
              (asks wired.wired line listed says_it (total_text_out level wheel name field unit 0 is (some-columns field is) served));
        }

    -- and no other does
    unit-only : (unit : ℕ) → ShowsText setup (level_number level) wheel unit → unit_for its line.number ≡ Some unit
    unit-only unit shows =
        let (field, is) = text-field line level wheel name listed says_it in
        let some = some-columns field is in
        let gives : ChartWire chart.lines its (PX (level_number level) 3) (SO unit) = (wired.wired.wires (PX (level_number level) 3) (SO unit)).0 shows.given in
        let g = given-of chart.lines its (level_number level) unit gives.wire refl refl in
        let puts : ChartWire chart.lines its (SX unit 1) (W wheel) = (wired.wired.wires (SX unit 1) (W wheel)).0 shows.first in
        let t = text-at chart.lines its unit wheel puts.wire refl refl in
        let numbers = unit-own chart.lines its wired.planned puts.line.number gives.line.number unit t.served g.served in
        let lines = line-by-number chart.lines chart.end puts.line gives.line rise puts.listed gives.listed numbers in
        let says_same : says.TotalText t.level t.wheel t.name ≡ says.TotalText g.level g.wheel g.name =
        sym t.says_text ∙ ap (λ (l : Line). l.statement) lines ∙ g.says_text in
        let levels : t.level ≡ g.level = cc in
        let same_level : level_number t.level ≡ level_number level = ap level_number levels ∙ g.at in
        let t_some = t.some in
        let t_at = t.at in
        let here = one-line chart lawful line puts.line _ _ wheel listed puts.listed
        (its-item line level wheel name field says_it is) (its-item puts.line t.level t.wheel t.name t.field t.says_text t.is_text)
        (same-line level t.level (sym same_level)) (same-line t.level level same_level)
        (omega arith, omega (arith, some)) (omega (arith, t_at), omega (arith, t_at, t_some)) in
        ap (unit_for its) (ap (λ (l : Line). l.number) here) ∙ t.served

    -- so what is found is its unit
    pub unit-found : (result : Option ℕ) → IfSome result (ShowsText setup (level_number level) wheel)
        → IfNone result ((unit : ℕ) → 1 ≤ unit → unit ≤ 4 → ¬ ShowsText setup (level_number level) wheel unit)
        → result ≡ unit_for its line.number
    unit-found None some none =
        let given = unit-given chart.lines its wired.planned line level wheel name listed says_it in
        absurd (none given.n given.from given.to (unit-shown given.n given.is))
    unit-found (Some unit) some none = sym (unit-only unit some)

  pub unit-found-on : (line : Line) (text : TextPlace) → Contains chart.lines line → text_of line.statement ≡ Some text → (result : Option ℕ)
      → IfSome result (ShowsText setup text.level text.wheel)
      → IfNone result ((unit : ℕ) → 1 ≤ unit → unit ≤ 4 → ¬ ShowsText setup text.level text.wheel unit) → result ≡ unit_on its line
  unit-found-on line text listed is result some none = by line.statement refl is
    where
      by : (statement : Statement) → line.statement ≡ statement → text_of statement ≡ Some text → result ≡ unit_on its line
      by (says.TotalText level wheel name) said is =
          let place : TextPlace = record { level = level_number level; wheel = wheel } in
          let same : place ≡ text = cc in
          unit-found line listed level wheel name said result
          (subst (λ (t : TextPlace). IfSome result (ShowsText setup t.level t.wheel)) (sym same) some)
          (subst (λ (t : TextPlace). IfNone result ((unit : ℕ) → 1 ≤ unit → unit ≤ 4 → ¬ ShowsText setup t.level t.wheel unit)) (sym same) none)
          ∙ sym (ap (λ statement. option_and_then (λ (t : TextPlace). unit_for its line.number) (text_of statement)) said)
      by other said is = cc

  pub unit-there : (line : Line) (text : TextPlace) → Contains chart.lines line → text_of line.statement ≡ Some text → unit_on its line ≡ None → ⊥
  unit-there line text listed is none = by line.statement refl is
    where
      by : (statement : Statement) → line.statement ≡ statement → text_of statement ≡ Some text → ⊥
      by (says.TotalText level wheel name) said is =
          let given = unit-given chart.lines its wired.planned line level wheel name listed said in
          let wrong = sym none ∙ ap (λ statement. option_and_then (λ (t : TextPlace). unit_for its line.number) (text_of statement)) said
          ∙ given.is in
          cc
      by other said is = cc

  -- all units of the plan
  pub all-units : filter_map (unit_on its) chart.lines ≡ its.numbers.storage
  unfolding is_of_kind
  all-units =
      let stored = ap (λ (p : Parts). p.storage) wired.planned.parts in
      by-lines its chart.lines ∙ ap (filter_map (unit_for its)) (sym stored)
      ∙ all-numbers (λ one other. other == one) (λ one. grind (arith, nat_tests)) (λ one other same. grind (arith, nat_tests, same))
      its.parts.storage its.numbers.storage (wired.planned.numbers kind.Storage).many
      (subst HasOwnPlaces (sym stored)
      (own-place (map (λ (line : Line). line.number) (filter (λ line. is_total_text line.statement) chart.lines))
      (apart-lines (λ line. is_total_text line.statement) chart.lines chart.end rise)))

-- what is found where only the wires that name parts are those of a panel that is wired for the chart
pub unit-found-alike : (chart : Chart) (setup other : Wiring) (lawful : IsLawful chart) (rise : NumbersRise chart.lines chart.end) (its : Lists)
    → ShowsPartsOf chart.lines setup other its → (line : Line) (text : TextPlace) → Contains chart.lines line → text_of line.statement ≡ Some text
    → (result : Option ℕ) → IfSome result (ShowsText setup text.level text.wheel)
    → IfNone result ((unit : ℕ) → 1 ≤ unit → unit ≤ 4 → ¬ ShowsText setup text.level text.wheel unit) → result ≡ unit_on its line
unit-found-alike chart setup other lawful rise its shows line text listed is result some none =
    unit-found-on chart other lawful rise its shows.wired line text listed is result
    (if-some (ShowsText setup text.level text.wheel) (ShowsText other text.level text.wheel) (shows-text shows.alike text.level text.wheel) result some)
    (if-none ((unit : ℕ) → 1 ≤ unit → unit ≤ 4 → ¬ ShowsText setup text.level text.wheel unit)
    ((unit : ℕ) → 1 ≤ unit → unit ≤ 4 → ¬ ShowsText other text.level text.wheel unit)
    (λ no unit from to there. no unit from to (shows-text (back shows.alike) text.level text.wheel unit there)) result none)
