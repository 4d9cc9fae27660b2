-- On a panel that is wired for a chart by a plan, the positions that compare a column for a level are those of the plan for such a column;
-- and two of them may change places.
use Rattle.std.proofs.Common.{◌≡◌, ◌∙◌, refl, sym, ap, subst, ℕ, ◌+◌, ◌<◌, ◌≤◌, ◌==◌, true, List, [], ◌∷◌, ◌++◌, Contains, Option, Some, None, length, map, get_or, slice_get, arith}
use Rattle.std.specs.List.{range_with_len}
use Rattle.std.proofs.lemmas.Bool.{and_parts}
use Rattle.std.proofs.lemmas.Bool.Decides.{nat_tests}
use Rattle.std.proofs.lemmas.List.{length-map}
use Rattle.std.proofs.lemmas.Option.{same_Some, slice_get-get_or, slice_get_within}
use Rattle.chart_rules.specs.Rules.{IsLawful}
use Rattle.chart_lines.specs.ChartsWords.Chart.{Chart, NumbersRise}
use Rattle.chart_lines.specs.ChartsWords.Field.{columns_of}
use Rattle.chart_lines.specs.ChartsWords.Levels.{control_number}
use Rattle.chart_lines.specs.declared.charts.chart.Line.{Line}
use Rattle.chart_lines.specs.declared.charts.level.ControlLevel.{ControlLevel}
use Rattle.chart_lines.specs.declared.charts.level.ControlLevel.TheVariants as control
use Rattle.chart_lines.specs.declared.charts.statement.Field.{Field}
use Rattle.chart_lines.specs.declared.charts.statement.Statement.{Statement}
use Rattle.chart_lines.specs.declared.charts.statement.Statement.TheVariants as says
use Rattle.chart_lines.proofs.ChartsWords.Listed.{listed-at, listed-none}
use Rattle.chart_lines.proofs.ChartsWords.Rising.{one-line as line-by-number}
use Rattle.chart_line_rules.specs.FieldRules.Fields.{field_named}
use Rattle.hubs.specs.declared.hub.Hub.{Hub}
use Rattle.hubs.specs.declared.hub.Hub.TheVariants.{CA, CX, FR, ST}
use Rattle.match_plans.specs.ComparedColumns.{IsCompared, columns_for, columns_on, compared_columns, level_of}
use Rattle.match_plans.specs.Renumbered.{with_kind}
use Rattle.match_plans.specs.Wired.{IsWiredBy}
use Rattle.match_plans.specs.declared.compared.ComparedColumn.{ComparedColumn}
use Rattle.match_plans.proofs.Asked.{asks}
use Rattle.match_plans.proofs.Apart.{HasOwnPlaces, number-at, own-place, positions-apart}
use Rattle.match_plans.proofs.Exchange.{Exchanged, Goes, Holds, Whose, ahead, back, from-where, goes-all, goes-more, goes-on, numbers-exchanged, stays, turned}
use Rattle.match_plans.proofs.Planned.{planned-with}
use Rattle.match_plans.proofs.Rewired.{Rewired, kept_wire, of_comparing, other, rewired}
use Rattle.match_plans.proofs.Zipped.{get-map, map-get, part-at, parts-many, range-at, range-get}
use Rattle.chart_plans.specs.PlansWords.PartNumbers.{AreNumbers, AreNumbersOf}
use Rattle.chart_plans.specs.PlansWords.Renumbered.{renumbered}
use Rattle.chart_plans.specs.declared.plans.part_numbers.PartKind.TheVariants as kind
use Rattle.chart_plans.specs.PlansWords.Plans.{Lists, ServesChart}
use Rattle.chart_plans.proofs.PlansWords.Numbers.{first-more, number-serves}
use Rattle.hubs.specs.SetupsWords.Wiring.{HasWire, Wiring}
use Rattle.chart_plans.specs.WantedWords.Positions.{compared_field, comparing_of, field_used, is_same_position, positions_for}
use Rattle.chart_plans.specs.WantedWords.Wanted.{Parts}
use Rattle.chart_plans.specs.declared.wanted.position.Position.{Position}
use Rattle.wiring_table.specs.Parts.{column_on, comparing_for}
use Rattle.wiring_table.specs.Wires.{ChartWire, LineWire}
use Rattle.wiring_table.specs.Wires.LineWire.{compared_first, level_called}
use Rattle.wiring_table.proofs.Parts.{comparing-own}
use Rattle.match_plans.proofs.Clashes.{clash, is_calling, is_compared}

-- a column with the number of its level
abbrev pub compared_in : (column level : ℕ) → ComparedColumn
compared_in column level = record { column = column; level = level }

-- the columns of a row, and one more
pub columns-more : (level from many : ℕ)
    → map (λ (n : ℕ). compared_in n level) (range_with_len from many) ++ compared_in (from + many) level ∷ []
    ≡ map (λ (n : ℕ). compared_in n level) (range_with_len from (many + 1))
columns-more level from many =
    by (range_with_len from many) ∙ ap (map (λ (n : ℕ). compared_in n level)) (sym (first-more from many))
  where
    by : (ns : List ℕ)
        → map (λ (n : ℕ). compared_in n level) ns ++ compared_in (from + many) level ∷ []
        ≡ map (λ (n : ℕ). compared_in n level) (ns ++ (from + many) ∷ [])
    by [] = refl
    by (n ∷ ns) = ap (λ rest. compared_in n level ∷ rest) (by ns)

-- what a CONTROL line is
record ControlAt (lines : List Line) (statement : Statement) (field : Field) : Type 0 where
  level : ControlLevel
  name : List ℕ
  says_control : statement ≡ says.Control level name
  named : field_named lines name ≡ Some field

control-line : (lines : List Line) (statement : Statement) (field : Field) → compared_field lines statement ≡ Some field
    → ControlAt lines statement field
control-line lines (says.Control level name) field is = record { level = level; name = name; says_control = refl; named = is }
control-line lines other field is = cc

same-position : (one other : Position) → is_same_position other one ≡ true → other ≡ one
same-position one other same =
    let (lines_same, columns_same) = and_parts (other.line == one.line) (other.column == one.column) same in
    let lines : other.line ≡ one.line = grind (arith, nat_tests, lines_same) in
    let columns : other.column ≡ one.column = grind (arith, nat_tests, columns_same) in
    ap (λ n. column_on n other.column) lines ∙ ap (column_on one.line) columns

module _ (lines : List Line) (plan : Lists) where
  -- a control field of which a column is compared at a position
  compared-of : {number : ℕ} {statement : Statement} {exit entry : Hub} (column position : ℕ)
      → LineWire lines plan number statement exit entry → exit ≡ FR column → entry ≡ CA position
      → comparing_for plan number column ≡ Some position
  compared-of {number} column position (compared_first level name field j its named within served) e f =
      let same_column : field.first + j ≡ column = cc in
      let same_position : its ≡ position = cc in
      ap (comparing_for plan number) (sym same_column) ∙ served ∙ ap Some same_position
  compared-of column position other e f = clash is_compared (sym f) refl refl

  -- one for whose level a position calls
  record CalledOf (number : ℕ) (statement : Statement) (position at_level : ℕ) : Type 0 where
    level : ControlLevel
    name : List ℕ
    field : Field
    j : ℕ
    says_control : statement ≡ says.Control level name
    served : comparing_for plan number (field.first + j) ≡ Some position
    at : control_number level ≡ at_level

  called-of : {number : ℕ} {statement : Statement} {exit entry : Hub} (position at_level : ℕ)
      → LineWire lines plan number statement exit entry → exit ≡ CX position → entry ≡ ST at_level
      → CalledOf number statement position at_level
  called-of position at_level (level_called level name field j its named within served) e f =
      let same_position : its ≡ position = cc in
      let same_level : control_number level ≡ at_level = cc in
      record {
        level = level;
        name = name;
        field = field;
        j = j;
        says_control = refl;
        served = served ∙ ap Some same_position;
        at = same_level;
      }
  called-of position at_level other e f = clash is_calling (sym f) refl refl

-- the column of a control field that a place of the comparing positions serves
record ColumnAt (lines : List Line) (place : ℕ) (at : Position) : Type 0 where
  line : Line
  listed : Contains lines line
  level : ControlLevel
  name : List ℕ
  field : Field
  j : ℕ
  says_control : line.statement ≡ says.Control level name
  named : field_named lines name ≡ Some field
  within : j < columns_of field
  is_line : line.number ≡ at.line
  is_column : field.first + j ≡ at.column
  beside : slice_get (compared_columns lines) place ≡ Some (record { column = at.column; level = control_number level })

module _ (lines : List Line) where
  abbrev its-positions : Line → List Position
  its-positions line = positions_for line.number (compared_field lines line.statement)

  abbrev its-columns : Line → List ComparedColumn
  its-columns line = columns_on lines line.statement

  many-on : (line : Line) → length (its-positions line) ≡ length (its-columns line)
  unfolding positions_for
  many-on line = by (compared_field lines line.statement)
    where
      by : (o : Option Field) → length (positions_for line.number o) ≡ length (columns_for (level_of line.statement) o)
      by None = refl
      by (Some field) =
          let range = range_with_len field.first (columns_of field) in
          length-map range (column_on line.number) ∙ sym (length-map range (λ column. record { column = column; level = level_of line.statement }))

  many-columns : length (compared_columns lines) ≡ length (comparing_of lines)
  unfolding field_used
  many-columns = parts-many its-positions its-columns many-on lines

  column-at : (place : ℕ) (at : Position) → slice_get (comparing_of lines) place ≡ Some at → ColumnAt lines place at
  unfolding field_used positions_for
  column-at place at here =
      let d = part-at its-positions its-columns many-on lines place at here in
      by d.x d.listed d.j (compared_field lines d.x.statement) refl d.at d.beside
    where
      by : (line : Line) → Contains lines line → (j : ℕ) (o : Option Field) → compared_field lines line.statement ≡ o
          → slice_get (positions_for line.number (compared_field lines line.statement)) j ≡ Some at
          → slice_get (compared_columns lines) place ≡ slice_get (columns_for (level_of line.statement) (compared_field lines line.statement)) j
          → ColumnAt lines place at
      by line listed j None is its beside =
          let none = ap (λ o. slice_get (positions_for line.number o) j) (sym is) ∙ its in
          cc
      by line listed j (Some field) is its beside =
          let c = control-line lines line.statement field is in
          let (column, ranged, same) = map-get (column_on line.number) (range_with_len field.first (columns_of field)) j at
          (ap (λ o. slice_get (positions_for line.number o) j) (sym is) ∙ its) in
          let range = range-at field.first (columns_of field) j column ranged in
          let is_at : field.first + j ≡ at.column = sym range.1 ∙ ap (λ (p : Position). p.column) same in
          let level_here : level_of line.statement ≡ control_number c.level = ap level_of c.says_control in
          let made = get-map (λ (n : ℕ). compared_in n (level_of line.statement)) (range_with_len field.first (columns_of field)) j (field.first + j)
          (range-get field.first (columns_of field) j range.0) in
          record {
            line = line;
            listed = listed;
            level = c.level;
            name = c.name;
            field = field;
            j = j;
            says_control = c.says_control;
            named = c.named;
            within = range.0;
            is_line = ap (λ (p : Position). p.line) same;
            is_column = is_at;
            beside = beside ∙ ap (λ o. slice_get (columns_for (level_of line.statement) o) j) is ∙ made
                ∙ ap (λ n. Some (compared_in n (level_of line.statement))) is_at
                ∙ ap (λ n. Some (compared_in at.column n)) level_here;
          }

-- a place whose number is that of another, of the same column and level
record Partner (lines : List Line) (numbers others : List ℕ) (k : ℕ) : Type 0 where
  m : ℕ
  is : slice_get others m ≡ slice_get numbers k
  alike : slice_get (compared_columns lines) m ≡ slice_get (compared_columns lines) k

module _ (chart : Chart) (rise : NumbersRise chart.lines chart.end) (plan : Lists) (planned : ServesChart chart.lines plan) where
  served-columns : plan.parts.comparing ≡ comparing_of chart.lines
  served-columns = ap (λ (p : Parts). p.comparing) planned.parts

  columns-apart : HasOwnPlaces plan.parts.comparing
  unfolding field_used
  columns-apart =
      subst HasOwnPlaces (sym served-columns)
      (own-place (comparing_of chart.lines)
      (positions-apart (λ line. compared_field chart.lines line.statement) chart.lines chart.end rise))

  -- the position of a column by its place
  position-at : (numbers : List ℕ) (line column place : ℕ) → length numbers ≡ length plan.parts.comparing
      → slice_get (comparing_of chart.lines) place ≡ Some (column_on line column)
      → comparing_for (with_kind plan kind.Comparing numbers) line column ≡ slice_get numbers place
  position-at numbers line column place many here =
      number-at (λ one other. is_same_position other one) (λ one. grind (arith, nat_tests)) same-position plan.parts.comparing numbers many
      columns-apart (column_on line column) place (ap (λ list. slice_get list place) served-columns ∙ here)

  -- the wires by the plan are wires by one in which alike places have changed their positions
  module _ (others : List ℕ) (many : length others ≡ length plan.parts.comparing)
      (partner : (k : ℕ) → Partner chart.lines plan.numbers.comparing others k) where
    rewire : {exit entry : Hub} → ChartWire chart.lines plan exit entry
        → ChartWire chart.lines (with_kind plan kind.Comparing others) exit entry
    rewire {exit} {entry} c = by (rewired chart.lines plan others c.wire)
      where
        by : Rewired chart.lines plan others c.line.number c.line.statement exit entry
            → ChartWire chart.lines (with_kind plan kind.Comparing others) exit entry
        by (kept_wire wire) = record { line = c.line; listed = c.listed; wire = wire }
        by (of_comparing level name field j position said named within served again) =
            let serving = number-serves (λ each. is_same_position each (column_on c.line.number (field.first + j))) plan.parts.comparing
            plan.numbers.comparing position served in
            let here : slice_get (comparing_of chart.lines) serving.place ≡ Some (column_on c.line.number (field.first + j)) =
            ap (λ list. slice_get list serving.place) (sym served-columns) ∙ serving.stands.there
            ∙ ap Some (same-position (column_on c.line.number (field.first + j)) serving.stands.element serving.stands.passes) in
            let mine = column-at chart.lines serving.place (column_on c.line.number (field.first + j)) here in
            let lines_same : mine.line ≡ c.line = line-by-number chart.lines chart.end mine.line c.line rise mine.listed c.listed mine.is_line in
            let says_same : says.Control mine.level mine.name ≡ says.Control level name =
            sym mine.says_control ∙ ap (λ (l : Line). l.statement) lines_same ∙ said in
            let levels : mine.level ≡ level = cc in
            let q = partner serving.place in
            let given : slice_get others q.m ≡ Some position = q.is ∙ serving.given in
            let inside : q.m < length (comparing_of chart.lines) =
            omega (arith, slice_get_within others q.m position given, many, ap length served-columns) in
            let at = get_or (comparing_of chart.lines) q.m (column_on 0 0) in
            let there = slice_get-get_or (comparing_of chart.lines) q.m (column_on 0 0) inside in
            let theirs = column-at chart.lines q.m at there in
            let alike : Some (compared_in at.column (control_number theirs.level)) ≡ Some (compared_in (field.first + j) (control_number mine.level)) =
            sym theirs.beside ∙ q.alike ∙ mine.beside in
            let both = same_Some (compared_in at.column (control_number theirs.level)) (compared_in (field.first + j) (control_number mine.level)) alike in
            let columns : at.column ≡ field.first + j = ap (λ (each : ComparedColumn). each.column) both in
            let numbers : control_number theirs.level ≡ control_number level =
            ap (λ (each : ComparedColumn). each.level) both ∙ ap control_number levels in
            let its_served = position-at others theirs.line.number (theirs.field.first + theirs.j) q.m many
            (there ∙ ap (λ n. Some (column_on n at.column)) (sym theirs.is_line)
            ∙ ap (λ n. Some (column_on theirs.line.number n)) (sym theirs.is_column)) ∙ given in
            record {
              line = theirs.line;
              listed = theirs.listed;
              wire = subst (λ s. LineWire chart.lines (other chart.lines plan others) theirs.line.number s exit entry)
                  (sym theirs.says_control)
                  (again theirs.line.number theirs.level theirs.name theirs.field theirs.j theirs.named theirs.within (theirs.is_column ∙ columns)
                  numbers its_served);
            }

-- two places of one column and level
pub record AreAlike (lines : List Line) (one other : ℕ) : Type 0 where
  pub column : ComparedColumn
  pub first : slice_get (compared_columns lines) one ≡ Some column
  pub second : slice_get (compared_columns lines) other ≡ Some column

partner-of : (lines : List Line) {numbers others : List ℕ} {one other : ℕ} → Exchanged numbers others one other → AreAlike lines one other
    → (k : ℕ) → Partner lines numbers others k
partner-of lines {numbers} {others} {one} {other} e alike k =
    let f = from-where (turned e) k in
    record { m = f.k; is = sym f.is; alike = by f.whose }
  where
    by : {m : ℕ} → Whose one other k m → slice_get (compared_columns lines) m ≡ slice_get (compared_columns lines) k
    by (stays not_one not_other same_place) = ap (slice_get (compared_columns lines)) same_place
    by (ahead at_one same) =
        ap (slice_get (compared_columns lines)) same ∙ alike.second ∙ sym alike.first ∙ sym (ap (slice_get (compared_columns lines)) at_one)
    by (back at_other same) =
        ap (slice_get (compared_columns lines)) same ∙ alike.first ∙ sym alike.second ∙ sym (ap (slice_get (compared_columns lines)) at_other)

-- a plan with other comparing positions
abbrev pub comparing-by : Lists → List ℕ → Lists
comparing-by its numbers = with_kind its kind.Comparing numbers

-- the setup is wired by the plan with these in place of its own
abbrev pub IsGood : Chart → Wiring → Lists → List ℕ → Type 0
IsGood chart setup its numbers = IsWiredBy chart.lines setup (comparing-by its numbers)

-- what is taken so far goes with those of such a plan
abbrev pub GoOn : Chart → Wiring → Lists → List ℕ → Type 0
GoOn chart setup its items = Goes (IsGood chart setup its) (length (compared_columns chart.lines)) items

module _ (chart : Chart) (setup : Wiring) (lawful : IsLawful chart) (rise : NumbersRise chart.lines chart.end) (its : Lists) where
  planned-by : (numbers others : List ℕ) → ServesChart chart.lines (comparing-by its numbers) → AreNumbers 30 (length its.parts.comparing) others
      → ServesChart chart.lines (comparing-by its others)
  planned-by numbers others planned numbered =
      planned-with chart.lines planned refl refl by
    where
      by : AreNumbersOf its.parts (renumbered its.numbers kind.Comparing others)
      by kind.Comparing = numbered
      by kind.Pilot = planned.numbers kind.Pilot
      by kind.Storage = planned.numbers kind.Storage
      by kind.Split = planned.numbers kind.Split
      by (kind.Indicate control.Minor) = planned.numbers (kind.Indicate control.Minor)
      by (kind.Indicate control.Intermediate) = planned.numbers (kind.Indicate control.Intermediate)
      by (kind.Indicate control.Major) = planned.numbers (kind.Indicate control.Major)

  -- two alike places may change their positions
  pub positions-change : (numbers others : List ℕ) (one other : ℕ) → IsGood chart setup its numbers → AreAlike chart.lines one other
      → Exchanged numbers others one other → IsGood chart setup its others
  positions-change numbers others one other good alike e =
      let numbered = numbers-exchanged 30 (length its.parts.comparing) e (good.planned.numbers kind.Comparing) in
      let planned = planned-by numbers others good.planned numbered in
      record {
        planned = planned;
        wired = record {
          wires = λ exit entry. (
            λ wire. rewire chart rise (comparing-by its numbers) good.planned others numbered.many (partner-of chart.lines e alike)
                ((good.wired.wires exit entry).0 wire),
            λ wire. (good.wired.wires exit entry).1
                (rewire chart rise (comparing-by its others) planned numbers (good.planned.numbers kind.Comparing).many
                (partner-of chart.lines (turned e) alike) wire),
          );
          jacks = good.wired.jacks;
          tape = good.wired.tape;
        };
      }

  -- a position that compares the column of a place is that of an alike place
  pub position-held : (numbers : List ℕ) (place number : ℕ) (column : ComparedColumn) → IsGood chart setup its numbers
      → slice_get (compared_columns chart.lines) place ≡ Some column → IsCompared setup column.column column.level number
      → Holds (AreAlike chart.lines) numbers place number
  position-held numbers place number column good here is =
      let plan = comparing-by its numbers in
      let leads : ChartWire chart.lines plan (FR column.column) (CA number) = (good.wired.wires (FR column.column) (CA number)).0 is.leads in
      let calls : ChartWire chart.lines plan (CX number) (ST column.level) = (good.wired.wires (CX number) (ST column.level)).0 is.calls in
      let served = compared-of chart.lines plan column.column number leads.wire refl refl in
      let c = called-of chart.lines plan number column.level calls.wire refl refl in
      let own = comparing-own chart.lines plan good.planned leads.line.number calls.line.number column.column (c.field.first + c.j) number served
      c.served in
      let serving = number-serves (λ each. is_same_position each (column_on calls.line.number (c.field.first + c.j))) plan.parts.comparing
      numbers number c.served in
      let there : slice_get (comparing_of chart.lines) serving.place ≡ Some (column_on calls.line.number (c.field.first + c.j)) =
      ap (λ list. slice_get list serving.place) (sym (served-columns chart rise plan good.planned)) ∙ serving.stands.there
      ∙ ap Some (same-position (column_on calls.line.number (c.field.first + c.j)) serving.stands.element serving.stands.passes) in
      let theirs = column-at chart.lines serving.place (column_on calls.line.number (c.field.first + c.j)) there in
      let lines_same : theirs.line ≡ calls.line =
      line-by-number chart.lines chart.end theirs.line calls.line rise theirs.listed calls.listed theirs.is_line in
      let says_same : says.Control theirs.level theirs.name ≡ says.Control c.level c.name =
      sym theirs.says_control ∙ ap (λ (l : Line). l.statement) lines_same ∙ c.says_control in
      let levels : theirs.level ≡ c.level = cc in
      record {
        other = serving.place;
        is = serving.given;
        alike = record {
          column = column;
          first = here;
          second = theirs.beside ∙ ap (λ n. Some (compared_in n (control_number theirs.level))) (sym own.1)
              ∙ ap (λ n. Some (compared_in column.column n)) (ap control_number levels ∙ c.at);
        };
      }

  -- and that of a place compares its column
  pub position-named : (numbers : List ℕ) (place number : ℕ) (column : ComparedColumn) → IsGood chart setup its numbers
      → slice_get (compared_columns chart.lines) place ≡ Some column → slice_get numbers place ≡ Some number
      → IsCompared setup column.column column.level number
  position-named numbers place number column good here at =
      let plan = comparing-by its numbers in
      let less = slice_get_within numbers place number at in
      let inside : place < length (comparing_of chart.lines) =
      omega (arith, less, (good.planned.numbers kind.Comparing).many, ap length (served-columns chart rise plan good.planned)) in
      let position = get_or (comparing_of chart.lines) place (column_on 0 0) in
      let there = slice_get-get_or (comparing_of chart.lines) place (column_on 0 0) inside in
      let mine = column-at chart.lines place position there in
      let both : compared_in position.column (control_number mine.level) ≡ column =
      same_Some (compared_in position.column (control_number mine.level)) column (sym mine.beside ∙ here) in
      let served = position-at chart rise plan good.planned numbers mine.line.number (mine.field.first + mine.j) place
      (good.planned.numbers kind.Comparing).many
      (there ∙ ap (λ n. Some (column_on n position.column)) (sym mine.is_line)
      ∙ ap (λ n. Some (column_on mine.line.number n)) (sym mine.is_column)) ∙ at in
      subst (λ (c : ComparedColumn). IsCompared setup c.column c.level number) both
      (record {
        leads = subst (λ n. HasWire setup (FR n) (CA number)) mine.is_column
            (asks good.wired mine.line mine.listed mine.says_control
            (compared_first mine.level mine.name mine.field mine.j number mine.named mine.within served));
        calls = asks good.wired mine.line mine.listed mine.says_control
            (level_called mine.level mine.name mine.field mine.j number mine.named mine.within served);
      })

  pub go-none : IsWiredBy chart.lines setup its → GoOn chart setup its []
  go-none wired = record {
    numbers = its.numbers.comparing;
    good = wired;
    many = (wired.planned.numbers kind.Comparing).many ∙ ap length (served-columns chart rise its wired.planned) ∙ sym (many-columns chart.lines);
    begins = λ place number at. absurd (listed-none number (listed-at [] place number at));
  }

  pub go-more : (items : List ℕ) (number : ℕ) (column : ComparedColumn) → slice_get (compared_columns chart.lines) (length items) ≡ Some column
      → IsCompared setup column.column column.level number → ¬ Contains items number → GoOn chart setup its items → GoOn chart setup its (items ++ number ∷ [])
  go-more items number column here is fresh goes =
      goes-more (IsGood chart setup its) (AreAlike chart.lines) (length (compared_columns chart.lines)) positions-change number
      (slice_get_within (compared_columns chart.lines) (length items) column here) fresh
      (λ numbers good. position-held numbers (length items) number column good here is) goes

  pub go-stuck : (items : List ℕ) (column : ComparedColumn) → slice_get (compared_columns chart.lines) (length items) ≡ Some column
      → ((number : ℕ) → 1 ≤ number → number ≤ 30 → IsCompared setup column.column column.level number → Contains items number) → GoOn chart setup its items → ⊥
  go-stuck items column here none goes =
      goes-on (IsGood chart setup its) (AreAlike chart.lines) (length (compared_columns chart.lines)) positions-change 30
      (IsCompared setup column.column column.level) (slice_get_within (compared_columns chart.lines) (length items) column here)
      (λ numbers good. (
        (good.planned.numbers kind.Comparing).there,
        (good.planned.numbers kind.Comparing).own,
        λ number at. position-named numbers (length items) number column good here at,
      )) none goes

  pub go-all : (items : List ℕ) → length (compared_columns chart.lines) ≤ length items → GoOn chart setup its items → IsGood chart setup its items
  go-all items all goes = goes-all (IsGood chart setup its) (AreAlike chart.lines) (length (compared_columns chart.lines)) positions-change all goes
