-- A lawful chart has at most 480 totals of amounts: 120 wheels for the items of each of the four total lines.
use Rattle.std.proofs.Common.{◌≡◌, ◌∙◌, refl, sym, ap, ap₂, subst, ℕ, suc, ◌+◌, ◌-◌, ◌*◌, ◌<◌, ◌≤◌, ◌==◌, ◌&&◌, not, nat_le, nat_lt, max, min, eqb, Bool, true, false, List, [], ◌∷◌, ◌++◌, Contains, append_assoc, is_some, length, length-append, Option, Some, None, option_map, if◌then◌else◌, arith}
use Rattle.std.specs.List.{All, IsDistinct, cons_option, filter_map, list_any}
use Rattle.std.proofs.lemmas.Bool.{both_ways}
use Rattle.std.proofs.lemmas.Bool.Decides.{nat_tests}
use Rattle.std.proofs.lemmas.List.Elements.{filter_map-append, recursion_from_All, All-weaker, All-contains_itself, Contains-append_right}
use Rattle.std.proofs.lemmas.List.Folds.{Any-from_list_any}
use Rattle.std.proofs.lemmas.Map.Steps.{length-le_from_distinct_below}
use Rattle.chart_lines.specs.ChartsWords.Chart.{Chart}
use Rattle.chart_lines.specs.ChartsWords.Field.{decimals_of}
use Rattle.chart_lines.specs.ChartsWords.Levels.{level_number}
use Rattle.chart_lines.specs.declared.charts.chart.Line.{Line}
use Rattle.chart_lines.specs.declared.charts.statement.Field.{Field}
use Rattle.chart_lines.specs.declared.charts.statement.Mark.{Mark}
use Rattle.chart_lines.specs.declared.charts.statement.Statement.{Statement}
use Rattle.chart_lines.specs.declared.charts.statement.TotalLine.{TotalLine}
use Rattle.chart_lines.specs.declared.charts.statement.Statement.TheVariants as says
use Rattle.chart_lines.proofs.ChartsWords.Listed.{Place, given-by, listed-first, listed-place, none-any}
use Rattle.chart_line_rules.specs.FieldRules.Fields.{field_named, fields_of}
use Rattle.chart_line_rules.specs.PrintRules.Items.{figure_width, item_of, mark_width, total_item}
use Rattle.chart_line_rules.specs.declared.print_rules.items.Figure.{Figure}
use Rattle.chart_line_rules.specs.PrintRules.Wheels.{is_off_wheels, overlap}
use Rattle.chart_rules.specs.Rules.{breaks, IsLawful}
use Rattle.chart_rules.specs.declared.rule.Rule.TheVariants as rule
use Rattle.chart_rules.proofs.Laws.{breaks-lawful}
use Rattle.report_definition.proofs.Fitting.{level_range}
use Rattle.report_misfits.proofs.LawfulTotals.{good_total}
use Rattle.report_misfits.specs.OpenTotals.{open_of, open_on, open_totals}
use Rattle.report_misfits.specs.declared.open_total.OpenTotal.{OpenTotal}

-- where the items of total lines begin: no two begin at one place
begins : List Line → Statement → Option ℕ
begins lines (says.TotalAmount total) =
    option_map (λ (field : Field). 120 * (level_number total.level - 1) + (total.wheel - 1)) (field_named lines total.name)
begins lines other = None

-- What begins at a place is a total of a field, on the wheels of its total line.
record Begins (chart : Chart) (line : Line) (place : ℕ) : Type 0 where
  total : TotalLine
  field : Field
  says_so : line.statement ≡ says.TotalAmount total
  named : field_named chart.lines total.name ≡ Some field
  is_place : place ≡ 120 * (level_number total.level - 1) + (total.wheel - 1)
  from : 1 ≤ total.wheel
  to : total.wheel ≤ 120
  some : 1 ≤ total.digits

-- the width of a total's item is at least its digits
wide : (digits : ℕ) (b : Bool) (mark : Option Mark) → digits ≤ digits + (if b then 1 else 0) + mark_width mark
wide digits b mark = omega arith

on_wheels : (wheel width : ℕ) → not (nat_le 1 wheel && nat_le (wheel + width) 121) ≡ false → 1 ≤ width → (1 ≤ wheel) × (wheel ≤ 120)
on_wheels wheel width kept some = (grind (arith, nat_tests, kept), grind (arith, nat_tests, kept, some))

line_begins : (chart : Chart) (line : Line) (place : ℕ) → IsLawful chart → Contains chart.lines line
    → begins chart.lines line.statement ≡ Some place → Begins chart line place
unfolding begins
line_begins chart line place lawful there stands = by line.statement refl stands
  where
    parts : Place chart.lines line
    parts = listed-place line chart.lines there

    of : (total : TotalLine) (o : Option Field) → line.statement ≡ says.TotalAmount total → field_named chart.lines total.name ≡ o
        → option_map (λ (field : Field). 120 * (level_number total.level - 1) + (total.wheel - 1)) o ≡ Some place → Begins chart line place
    of total None is named none = cc
    of total (Some field) is named some =
        let same : 120 * (level_number total.level - 1) + (total.wheel - 1) ≡ place = cc in
        let good = good_total chart parts.earlier line parts.later total field lawful parts.parts is named in
        let order = good.0.on_card.order in
        let enough = good.1.enough in
        let one : 1 ≤ total.digits = omega (arith, order, enough) in
        let figure : Figure = record { digits = total.digits; decimals = decimals_of field.kind; mark = total.mark } in
        let long : 1 ≤ figure_width figure = (let w = wide total.digits (nat_lt 0 (decimals_of field.kind)) total.mark in omega (arith, w, one)) in
        let range : breaks rule.WheelRange chart.lines parts.earlier (says.TotalAmount total) ≡ false
        = sym (ap (breaks rule.WheelRange chart.lines parts.earlier) is)
        ∙ breaks-lawful rule.WheelRange chart parts.earlier line parts.later lawful parts.parts in
        let off : is_off_wheels (option_map (λ (f : Field). total_item total f.kind) (Some field)) ≡ false
        = ap (λ o. is_off_wheels (option_map (λ (f : Field). total_item total f.kind) o)) (sym named) ∙ range in
        let within = on_wheels total.wheel (figure_width figure) off long in
        record {
          total = total;
          field = field;
          says_so = is;
          named = named;
          is_place = sym same;
          from = within.0;
          to = within.1;
          some = one;
        }

    by : (statement : Statement) → line.statement ≡ statement → begins chart.lines statement ≡ Some place → Begins chart line place
    by (says.TotalAmount total) is some = of total (field_named chart.lines total.name) is refl some
    by other is none = cc

-- the item of a total that begins at a place
item_at : (chart : Chart) (line : Line) (place : ℕ) (at : Begins chart line place)
    → item_of (fields_of chart.lines) line.statement ≡ Some (total_item at.total at.field.kind)
item_at chart line place at =
    ap (item_of (fields_of chart.lines)) at.says_so
    ∙ ap (option_map (λ (field : Field). total_item at.total field.kind)) at.named

-- places are one for one with levels and wheels
same_place : (one other wheel its : ℕ) → 1 ≤ one → 1 ≤ other → 1 ≤ wheel → wheel ≤ 120 → 1 ≤ its → its ≤ 120
    → 120 * (one - 1) + (wheel - 1) ≡ 120 * (other - 1) + (its - 1) → (one ≡ other) × (wheel ≡ its)
same_place one other wheel its a b c d e f same = (omega arith, omega arith)

meeting : (level its_level wheel its width its_width : ℕ) → level ≡ its_level → wheel ≡ its → 1 ≤ width → 1 ≤ its_width
    → ((level == its_level) && nat_lt (max wheel its) (min (wheel + width) (its + its_width))) ≡ true
meeting level its_level wheel its width its_width levels wheels some more = grind (arith, nat_tests, levels, wheels, some, more)

-- no later total begins where an earlier one does
apart : (chart : Chart) (earlier later : List Line) (one other : Line) (place : ℕ) → IsLawful chart
    → chart.lines ≡ earlier ++ other ∷ later → Contains earlier one → Begins chart one place → Begins chart other place → ⊥
apart chart earlier later one other place lawful split there at its =
    let none : overlap (item_of (fields_of chart.lines) one.statement) (item_of (fields_of chart.lines) other.statement) ≡ false
    = none-any (λ (line : Line). overlap (item_of (fields_of chart.lines) line.statement) (item_of (fields_of chart.lines) other.statement))
    earlier one (breaks-lawful rule.WheelOverlap chart earlier other later lawful split) there in
    let same = same_place (level_number at.total.level) (level_number its.total.level) at.total.wheel its.total.wheel (level_range at.total.level).0
    (level_range its.total.level).0 at.from at.to its.from its.to (sym at.is_place ∙ its.is_place) in
    both_ways (overlap (item_of (fields_of chart.lines) one.statement) (item_of (fields_of chart.lines) other.statement)) none
    (ap₂ overlap (item_at chart one place at) (item_at chart other place its)
    ∙ meeting (level_number at.total.level) (level_number its.total.level) at.total.wheel its.total.wheel
    (figure_width (record { digits = at.total.digits; decimals = decimals_of at.field.kind; mark = at.total.mark }))
    (figure_width (record { digits = its.total.digits; decimals = decimals_of its.field.kind; mark = its.total.mark }))
    same.0 same.1
    (long at.total.digits (nat_lt 0 (decimals_of at.field.kind)) at.total.mark at.some)
    (long its.total.digits (nat_lt 0 (decimals_of its.field.kind)) its.total.mark its.some))
  where
    long : (digits : ℕ) (b : Bool) (mark : Option Mark) → 1 ≤ digits → 1 ≤ digits + (if b then 1 else 0) + mark_width mark
    long digits b mark some = omega (arith, some)

-- the places of some lines
places : List Line → List Line → List ℕ
places lines some = filter_map (λ (line : Line). begins lines line.statement) some

-- they are below 480
below : (chart : Chart) (line : Line) (place : ℕ) → Begins chart line place → place < 480
below chart line place at =
    let range = level_range at.total.level in
    let is = at.is_place in
    let from = at.from in
    let to = at.to in
    omega (arith, range, is, from, to)

-- a place of some lines is that of one of them
place_of : (chart : Chart) (earlier some : List Line) (place : ℕ) → IsLawful chart → chart.lines ≡ earlier ++ some
    → Contains (places chart.lines some) place → (line : Line) × Contains some line × Begins chart line place
unfolding places
place_of chart earlier some place lawful split there =
    let from = given-by (λ (line : Line). begins chart.lines line.statement) some place there in (
      from.element,
      from.listed,
      line_begins chart from.element place lawful
          (subst (λ l. Contains l from.element) (sym split) (Contains-append_right earlier some from.element from.listed)) from.gives,
    )

-- and no two are the same
distinct : (chart : Chart) (earlier some : List Line) → IsLawful chart → chart.lines ≡ earlier ++ some
    → IsDistinct eqb (places chart.lines some)
unfolding places IsDistinct
distinct chart earlier [] lawful split = tt
distinct chart earlier (line ∷ some) lawful split =
    by (begins chart.lines line.statement) refl
    (distinct chart (earlier ++ line ∷ []) some lawful (split ∙ sym (append_assoc earlier (line ∷ []) some)))
  where
    others : List ℕ
    others = filter_map (λ (each : Line). begins chart.lines each.statement) some

    listed : Contains chart.lines line
    listed = subst (λ l. Contains l line) (sym split) (Contains-append_right earlier (line ∷ some) line (listed-first line some))

    differ : (place other : ℕ) → begins chart.lines line.statement ≡ Some place → Contains others other → eqb place other ≡ false
    differ place other stands there = of (eqb place other) refl
      where
        of : (b : Bool) → eqb place other ≡ b → b ≡ false
        of false is = refl
        of true is =
            let same : place ≡ other = grind (arith, nat_tests, is) in
            let found = place_of chart (earlier ++ line ∷ []) some other lawful (split ∙ sym (append_assoc earlier (line ∷ []) some)) there in
            let parts = listed-place found.0 some found.1 in
            absurd
            (apart chart (earlier ++ line ∷ parts.earlier) parts.later line found.0 place lawful
            (split
            ∙ ap (λ l. earlier ++ line ∷ l) parts.parts
            ∙ sym (append_assoc earlier (line ∷ parts.earlier) (found.0 ∷ parts.later)))
            (Contains-append_right earlier (line ∷ parts.earlier) line (listed-first line parts.earlier))
            (line_begins chart line place lawful listed stands)
            (subst (Begins chart found.0) (sym same) found.2))

    by : (o : Option ℕ) → begins chart.lines line.statement ≡ o → IsDistinct eqb others → IsDistinct eqb (cons_option o others)
    by None none rest = rest
    by (Some place) stands rest = (
      recursion_from_All (λ other. eqb place other ≡ false) others
          (All-weaker (Contains others) (λ other. eqb place other ≡ false) (λ other there. differ place other stands there) others
          (All-contains_itself others)),
      rest,
    )

-- a lawful chart has few places
few_places : (chart : Chart) → IsLawful chart → length (places chart.lines chart.lines) ≤ 480
few_places chart lawful =
    length-le_from_distinct_below (places chart.lines chart.lines) 480 (distinct chart [] chart.lines lawful refl) small
  where
    all : All (λ place. place < 480) (places chart.lines chart.lines)
    all =
        All-weaker (Contains (places chart.lines chart.lines)) (λ place. place < 480)
        (λ place there. (let found = place_of chart [] chart.lines place lawful refl there in below chart found.0 place found.2))
        (places chart.lines chart.lines)
        (All-contains_itself (places chart.lines chart.lines))

    small : (place : ℕ) → list_any (eqb place) (places chart.lines chart.lines) ≡ true → place < 480
    small place is =
        let any = Any-from_list_any (eqb place) (places chart.lines chart.lines) is in
        let test = any.4 in
        let same : place ≡ any.1 = grind (arith, nat_tests, test) in
        let less = subst (λ n. n < 480) any.3 (all any.0 any.1 any.2) in
        omega (arith, same, less)

-- as many as open totals
as_many : (lines : List Line) (so_far : ℕ → List (List ℕ)) (some : List Line)
    → length (open_totals lines so_far some) ≡ length (places lines some)
unfolding places begins
as_many lines so_far [] = refl
as_many lines so_far (line ∷ some) = by (open_on lines so_far line.statement) (begins lines line.statement) (each line.statement) (as_many lines so_far some)
  where
    each : (statement : Statement) → is_some (open_on lines so_far statement) ≡ is_some (begins lines statement)
    each (says.TotalAmount total) = of (field_named lines total.name)
      where
        of : (o : Option Field) → is_some (option_map (open_of total so_far) o)
            ≡ is_some (option_map (λ (field : Field). 120 * (level_number total.level - 1) + (total.wheel - 1)) o)
        of None = refl
        of (Some field) = refl
    each other = refl

    by : (one : Option OpenTotal) (other : Option ℕ) → is_some one ≡ is_some other
        → length (open_totals lines so_far some) ≡ length (places lines some)
        → length (cons_option one (open_totals lines so_far some)) ≡ length (cons_option other (places lines some))
    by None None same rest = rest
    by None (Some place) same rest = cc
    by (Some total) None same rest = cc
    by (Some total) (Some place) same rest = ap suc rest

pub few_totals : (chart : Chart) (so_far : ℕ → List (List ℕ)) (earlier later : List Line) → IsLawful chart → chart.lines ≡ earlier ++ later
    → length (open_totals chart.lines so_far earlier) ≤ 480
few_totals chart so_far earlier later lawful split =
    let most = few_places chart lawful in
    let many = as_many chart.lines so_far chart.lines in
    let parts : length (open_totals chart.lines so_far chart.lines)
    ≡ length (open_totals chart.lines so_far earlier) + length (open_totals chart.lines so_far later)
    = ap (λ l. length (open_totals chart.lines so_far l)) split
    ∙ ap length (filter_map-append (λ (line : Line). open_on chart.lines so_far line.statement) earlier later)
    ∙ length-append (open_totals chart.lines so_far earlier) (open_totals chart.lines so_far later) in
    omega (arith, most, many, parts)
