-- What a plan for a chart gives is given once: no part of the machine serves two things. And all that wants a part has one.
use Rattle.std.proofs.Common.{◌≡◌, ◌∙◌, refl, sym, ap, subst, ℕ, ◌+◌, ◌<◌, ◌≤◌, ◌==◌, Bool, true, List, Option, Some, is_some, length, map, filter, arith}
use Rattle.std.specs.List.{Contains, flat_map, range_with_len}
use Rattle.std.proofs.lemmas.Bool.{and_parts}
use Rattle.std.proofs.lemmas.Bool.Decides.{nat_tests}
use Rattle.chart_plans.specs.Below.chart_lines.ChartsWords.Field.{columns_of, sign_column}
use Rattle.chart_plans.specs.Below.chart_lines.ChartsWords.Levels.{control_number}
use Rattle.chart_plans.specs.Below.chart_lines.ChartsWords.Name.{is_same_name}
use Rattle.chart_plans.specs.Below.chart_lines.declared.charts.chart.Line.{Line}
use Rattle.chart_plans.specs.Below.chart_lines.declared.charts.level.ControlLevel.{ControlLevel}
use Rattle.chart_plans.specs.Below.chart_lines.declared.charts.level.ControlLevel.TheVariants as control
use Rattle.chart_plans.specs.Below.chart_lines.declared.charts.level.Level.{Level}
use Rattle.chart_plans.specs.Below.chart_lines.declared.charts.statement.DetailOption.{DetailOption}
use Rattle.chart_plans.specs.Below.chart_lines.declared.charts.statement.DetailOption.TheVariants as shown
use Rattle.chart_plans.specs.Below.chart_lines.declared.charts.statement.Field.{Field}
use Rattle.chart_plans.specs.Below.chart_lines.declared.charts.statement.Statement.TheVariants as says
use Rattle.chart_plans.proofs.Below.chart_lines.ChartsWords.Listed.{any-listed, listed-filter, listed-map, listed-parts, listed-range}
use Rattle.chart_plans.proofs.Below.chart_rules.Laws.{field-line}
use Rattle.report_definition.proofs.Below.chart_line_rules.FieldRules.Places.{is_same_name-equal, is_same_name-own}
use Rattle.report_definition.specs.Below.chart_line_rules.FieldRules.Fields.{field_named, fields_of}
use Rattle.chart_plans.proofs.PlansWords.Numbers.{HasNumber, both-stand, number-given, number-there}
use Rattle.chart_plans.specs.PlansWords.PartNumbers.{AreNumbers, number_for, numbers_of}
use Rattle.chart_plans.specs.declared.plans.part_numbers.PartKind.TheVariants as kind
use Rattle.chart_plans.specs.PlansWords.Plans.{Lists, ServesChart}
use Rattle.chart_plans.specs.WantedWords.Pilots.{prints_name, pilots_of, shows, wants_pilot}
use Rattle.chart_plans.specs.WantedWords.Positions.{compared_field, field_used, indicated_field, is_same_position, positions_for}
use Rattle.chart_plans.specs.WantedWords.Units.{has_inside_sign, is_inside, is_of_kind, is_split_amount, is_total_text}
use Rattle.chart_plans.specs.WantedWords.Wanted.{Parts, indicate_at}
use Rattle.chart_plans.specs.declared.wanted.position.Position.{Position}
use Rattle.wiring_table.specs.Parts.{column_on, comparing_for, indicate_for, pilot_for, split_for, unit_for}

-- a storage unit or a split serves one line
line-own : (one other part last : ℕ) (list numbers : List ℕ) → AreNumbers last (length list) numbers
    → number_for (λ served. served == one) list numbers ≡ Some part → number_for (λ served. served == other) list numbers ≡ Some part
    → one ≡ other
line-own one other part last list numbers are is is_other =
    let (x, a, b) = both-stand (λ served. served == one) (λ served. served == other) list numbers last (length list) part are is is_other in
    grind (arith, nat_tests, a, b)

-- a comparing position, or an indicate position of a level, serves one column of one line
column-own : (number other column its place : ℕ) (list : List Position) (numbers : List ℕ) → AreNumbers 30 (length list) numbers
    → number_for (λ served. is_same_position served (column_on number column)) list numbers ≡ Some place
    → number_for (λ served. is_same_position served (column_on other its)) list numbers ≡ Some place → (number ≡ other) × (column ≡ its)
column-own number other column its place list numbers are is is_other =
    let (x, a, b) = both-stand (λ served. is_same_position served (column_on number column))
    (λ served. is_same_position served (column_on other its)) list numbers 30 (length list) place are is is_other in
    let (line, at) = and_parts (x.line == number) (x.column == column) a in
    let (line_too, at_too) = and_parts (x.line == other) (x.column == its) b in
    (grind (arith, nat_tests, line, line_too), grind (arith, nat_tests, at, at_too))

-- a line of a list of lines by their numbers has a number
line-given : (lines : List Line) (test : Line → Bool) (list numbers : List ℕ) (last : ℕ) (line : Line) → AreNumbers last (length list) numbers
    → list ≡ map (λ (each : Line). each.number) (filter test lines) → Contains lines line → test line ≡ true
    → HasNumber (number_for (λ served. served == line.number) list numbers) last
line-given lines test list numbers last line are is listed passes =
    number-given (λ served. served == line.number) list numbers last line.number are
    (subst (λ some. Contains some line.number) (sym is)
    (listed-map (λ (each : Line). each.number) (filter test lines) line (listed-filter test lines line listed passes)))
    (grind (arith, nat_tests))

module _ (lines : List Line) (plan : Lists) (planned : ServesChart lines plan) where
  -- no part serves two
  pub unit-own : (one other unit : ℕ) → unit_for plan one ≡ Some unit → unit_for plan other ≡ Some unit → one ≡ other
  unit-own one other unit is is_other =
      line-own one other unit 4 plan.parts.storage plan.numbers.storage (planned.numbers kind.Storage) is is_other

  pub split-own : (one other split : ℕ) → split_for plan one ≡ Some split → split_for plan other ≡ Some split → one ≡ other
  split-own one other split is is_other =
      line-own one other split 16 plan.parts.splits plan.numbers.splits (planned.numbers kind.Split) is is_other

  pub pilot-own : (one other : List ℕ) (pilot : ℕ) → pilot_for plan one ≡ Some pilot → pilot_for plan other ≡ Some pilot → one ≡ other
  pilot-own one other pilot is is_other =
      let (x, a, b) = both-stand (λ served. is_same_name served one) (λ served. is_same_name served other) plan.parts.pilots
      plan.numbers.pilots 16 (length plan.parts.pilots) pilot (planned.numbers kind.Pilot) is is_other in
      sym (is_same_name-equal x one a) ∙ is_same_name-equal x other b

  pub comparing-own : (number other column its place : ℕ) → comparing_for plan number column ≡ Some place
      → comparing_for plan other its ≡ Some place → (number ≡ other) × (column ≡ its)
  comparing-own number other column its place is is_other =
      column-own number other column its place plan.parts.comparing plan.numbers.comparing (planned.numbers kind.Comparing) is is_other

  pub indicate-own : (level : ControlLevel) (number other column its place : ℕ) → indicate_for plan level number column ≡ Some place
      → indicate_for plan level other its ≡ Some place → (number ≡ other) × (column ≡ its)
  indicate-own level number other column its place is is_other =
      column-own number other column its place (indicate_at plan.parts level) (numbers_of plan.numbers (kind.Indicate level))
      (planned.numbers (kind.Indicate level)) is is_other

  -- a storage unit is one of the machine
  pub unit-there : (number unit : ℕ) → unit_for plan number ≡ Some unit → (1 ≤ unit) × (unit ≤ 4)
  unit-there number unit is =
      number-there (λ served. served == number) plan.parts.storage plan.numbers.storage 4 (length plan.parts.storage) unit
      (planned.numbers kind.Storage) is

  -- a split serves the amount on a DETAIL line whose sign column is one of its own
  pub split-given : (line : Line) (wheel : ℕ) (name : List ℕ) (how : DetailOption) (field : Field) → Contains lines line
      → line.statement ≡ says.DetailField wheel name how → field_named lines name ≡ Some field
      → is_inside field (sign_column field.kind) ≡ true → HasNumber (split_for plan line.number) 16
  unfolding is_of_kind
  split-given line wheel name how field listed says_it named inside =
      line-given lines (λ each. is_split_amount lines each.statement) plan.parts.splits plan.numbers.splits 16 line (planned.numbers kind.Split)
      (ap (λ (p : Parts). p.splits) planned.parts) listed (ap (is_split_amount lines) says_it ∙ ap has_inside_sign named ∙ inside)

  -- a storage unit serves the text on a total line
  pub unit-given : (line : Line) (level : Level) (wheel : ℕ) (name : List ℕ) → Contains lines line
      → line.statement ≡ says.TotalText level wheel name → HasNumber (unit_for plan line.number) 4
  unfolding is_of_kind
  unit-given line level wheel name listed says_it =
      line-given lines (λ each. is_total_text each.statement) plan.parts.storage plan.numbers.storage 4 line (planned.numbers kind.Storage)
      (ap (λ (p : Parts). p.storage) planned.parts) listed (ap is_total_text says_it)

  -- a pilot serves an amount with a sign rule that a DETAIL or TOTAL line shows
  pub pilot-given : (line : Line) (name : List ℕ) (field : Field) → Contains lines line → shows name line.statement ≡ true
      → field_named lines name ≡ Some field → is_some (sign_column field.kind) ≡ true → HasNumber (pilot_for plan name) 16
  unfolding wants_pilot
  pilot-given line name field listed shown_on named signed =
      let found = field-line lines name field named in
      let wants : wants_pilot lines field ≡ true =
      rw (signed, ap (prints_name lines) found.own_name ∙ any-listed (λ (each : Line). shows name each.statement) lines line listed shown_on) refl in
      let there : Contains (pilots_of lines) field.name =
      listed-map (λ (each : Field). each.name) (filter (wants_pilot lines) (fields_of lines)) field
      (listed-filter (wants_pilot lines) (fields_of lines) field found.among wants) in
      number-given (λ served. is_same_name served name) plan.parts.pilots plan.numbers.pilots 16 field.name (planned.numbers kind.Pilot)
      (subst (λ list. Contains list field.name) (sym (ap (λ (p : Parts). p.pilots) planned.parts)) there)
      (ap (λ n. is_same_name n name) found.own_name ∙ is_same_name-own name)

  -- a position serves each column of a field that is put to its use
  column-given : (used : Line → Option Field) (list : List Position) (numbers : List ℕ) (line : Line) (field : Field) (place : ℕ)
      → AreNumbers 30 (length list) numbers → list ≡ flat_map (λ each. positions_for each.number (used each)) lines → Contains lines line → used line ≡ Some field
      → place < columns_of field
      → HasNumber (number_for (λ served. is_same_position served (column_on line.number (field.first + place))) list numbers) 30
  unfolding positions_for
  column-given used list numbers line field place are is listed uses within =
      let position = column_on line.number (field.first + place) in
      let own : Contains (positions_for line.number (Some field)) position =
      listed-map (column_on line.number) (range_with_len field.first (columns_of field)) (field.first + place)
      (listed-range field.first (columns_of field) place within) in
      let there = listed-parts (λ each. positions_for each.number (used each)) lines line position listed
      (subst (λ o. Contains (positions_for line.number o) position) (sym uses) own) in
      number-given (λ served. is_same_position served position) list numbers 30 position are (subst (λ some. Contains some position) (sym is) there)
      (grind (arith, nat_tests))

  pub comparing-given : (line : Line) (level : ControlLevel) (name : List ℕ) (field : Field) (place : ℕ) → Contains lines line
      → line.statement ≡ says.Control level name → field_named lines name ≡ Some field → place < columns_of field
      → HasNumber (comparing_for plan line.number (field.first + place)) 30
  unfolding field_used
  comparing-given line level name field place listed says_it named within =
      column-given (λ each. compared_field lines each.statement) plan.parts.comparing plan.numbers.comparing line field place
      (planned.numbers kind.Comparing) (ap (λ (p : Parts). p.comparing) planned.parts) listed (ap (compared_field lines) says_it ∙ named) within

  pub indicate-given : (line : Line) (level : ControlLevel) (wheel : ℕ) (name : List ℕ) (field : Field) (place : ℕ) → Contains lines line
      → line.statement ≡ says.DetailField wheel name (shown.Indicated level) → field_named lines name ≡ Some field → place < columns_of field
      → HasNumber (indicate_for plan level line.number (field.first + place)) 30
  unfolding field_used
  indicate-given line level wheel name field place listed says_it named within =
      let own : (control_number level == control_number level) ≡ true = grind (arith, nat_tests) in
      column-given (λ each. indicated_field lines level each.statement) (indicate_at plan.parts level) (numbers_of plan.numbers (kind.Indicate level)) line
      field place (planned.numbers (kind.Indicate level)) (served level) listed
      (ap (indicated_field lines level) says_it ∙ rw own named) within
    where
      served : (its : ControlLevel) → indicate_at plan.parts its ≡ flat_map (λ each. positions_for each.number (indicated_field lines its each.statement)) lines
      served control.Minor = ap (λ (p : Parts). p.minor) planned.parts
      served control.Intermediate = ap (λ (p : Parts). p.intermediate) planned.parts
      served control.Major = ap (λ (p : Parts). p.major) planned.parts
