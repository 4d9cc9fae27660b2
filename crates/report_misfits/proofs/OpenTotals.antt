-- The laws of open totals.
use Rattle.std.proofs.Common.{◌≡◌, ◌∙◌, refl, sym, ap, ap₂, ℕ, zero, suc, ℤ, pos, ◌+ℤ◌, ◌==◌, nat_le, Bool, true, false, List, [], ◌∷◌, ◌++◌, Option, Some, None, option_map, option_and_then, map, if◌then◌else◌, arith}
use Rattle.std.specs.List.{cons_option, filter_map}
use Rattle.std.proofs.lemmas.Int.{ints}
use Rattle.std.proofs.lemmas.Bool.Decides.{nat_tests}
use Rattle.chart_lines.specs.ChartsWords.Levels.{level_number}
use Rattle.chart_lines.specs.declared.charts.chart.Line.{Line}
use Rattle.chart_lines.specs.declared.charts.statement.Field.{Field}
use Rattle.chart_lines.specs.declared.charts.statement.Statement.{Statement}
use Rattle.chart_lines.specs.declared.charts.statement.TotalLine.{TotalLine}
use Rattle.chart_lines.specs.declared.charts.statement.Statement.TheVariants as says
use Rattle.chart_line_rules.specs.FieldRules.Fields.{field_named}
use Rattle.chart_rules.proofs.Laws.{field-line}
use Rattle.report_definition.specs.FollowedDecks.CardMisfits.{misfits_to}
use Rattle.report_definition.specs.Amounts.{value_of}
use Rattle.report_definition.specs.Breaks.{cleared, taking}
use Rattle.report_definition.specs.Misfits.{fits_in, Misfit, misfit_of, misfit_on}
use Rattle.report_definition.specs.Totals.{total_of}
use Rattle.report_definition.proofs.GroupLaws.{total-append}
use Rattle.report_misfits.specs.HelperTotals.{misfits_among}
use Rattle.report_misfits.specs.Laws.{CardsAddToOpenTotals, EndedGroupsClose, EndedGroupsTellMisfits}
use Rattle.report_misfits.specs.OpenTotals.{closed_to, misfit_at, open_of, open_on, open_totals, with_card}
use Rattle.report_misfits.specs.declared.open_total.OpenTotal.{OpenTotal}

-- what is done to each of the open totals of some lines is done line by line
map-open : (lines : List Line) (one other : ℕ → List (List ℕ)) (change : OpenTotal → OpenTotal)
    → ((statement : Statement) → option_map change (open_on lines one statement) ≡ open_on lines other statement)
    → (some : List Line) → map change (open_totals lines one some) ≡ open_totals lines other some
map-open lines one other change each [] = refl
map-open lines one other change each (line ∷ some) =
    by (open_on lines one line.statement)
    ∙ ap₂ cons_option (each line.statement) (map-open lines one other change each some)
  where
    by : (o : Option OpenTotal) → map change (cons_option o (open_totals lines one some))
        ≡ cons_option (option_map change o) (map change (open_totals lines one some))
    by None = refl
    by (Some total) = refl

-- a group with one card more
taken-total : (field : Field) (group : List (List ℕ)) (card : List ℕ)
    → total_of field group +ℤ value_of field card ≡ total_of field (group ++ card ∷ [])
taken-total field group card =
    sym (total-append field group (card ∷ []) ∙ ap (λ t. total_of field group +ℤ t) (plus_none (value_of field card)))
  where
    plus_none : (value : ℤ) → value +ℤ pos 0 ≡ value
    plus_none value = omega (arith, ints)

pub cards_add : CardsAddToOpenTotals
cards_add lines so_far card = map-open lines so_far (taking card so_far) (with_card card) each lines
  where
    by : (asked : TotalLine) (o : Option Field)
        → option_map (with_card card) (option_map (open_of asked so_far) o)
        ≡ option_map (open_of asked (taking card so_far)) o
    by asked None = refl
    by asked (Some field) =
        ap (λ t. Some (record { level = asked.level; digits = asked.digits; field = field; sum = t }))
        (taken-total field (so_far (level_number asked.level)) card)

    each : (statement : Statement) → option_map (with_card card) (open_on lines so_far statement) ≡ open_on lines (taking card so_far) statement
    each (says.TotalAmount total) = by total (field_named lines total.name)
    each other = refl

pub groups_close : EndedGroupsClose
groups_close lines so_far ended = map-open lines so_far (cleared ended so_far) (closed_to ended) each lines
  where
    on : (asked : TotalLine) (field : Field) (b : Bool)
        → (if b then record (open_of asked so_far field) { sum = pos 0 } else open_of asked so_far field)
        ≡ record { level = asked.level; digits = asked.digits; field = field; sum = total_of field (if b then [] else so_far (level_number asked.level)) }
    on asked field true = refl
    on asked field false = refl

    by : (asked : TotalLine) (o : Option Field)
        → option_map (closed_to ended) (option_map (open_of asked so_far) o)
        ≡ option_map (open_of asked (cleared ended so_far)) o
    by asked None = refl
    by asked (Some field) = ap Some (on asked field (nat_le (level_number asked.level) ended))

    each : (statement : Statement) → option_map (closed_to ended) (open_on lines so_far statement) ≡ open_on lines (cleared ended so_far) statement
    each (says.TotalAmount total) = by total (field_named lines total.name)
    each other = refl

pub groups_tell : EndedGroupsTellMisfits
groups_tell lines so_far level card = all lines
  where
    tells : OpenTotal → Option Misfit
    tells = misfit_at level card

    on : (asked : TotalLine) (o : Option Field)
        → ((field : Field) → o ≡ Some field → field.name ≡ asked.name) → (b : Bool) → (level_number asked.level == level) ≡ b
        → option_and_then (λ (field : Field). if b
        then (if fits_in asked.digits (total_of field (so_far (level_number asked.level)))
        then None
        else Some (record { level = asked.level; name = field.name; card = card }))
        else None) o
        ≡ (if b then option_and_then (misfit_of asked card (so_far level)) o else None)
    on asked None own true is = refl
    on asked None own false is = refl
    on asked (Some field) own false is = refl
    on asked (Some field) own true is =
        let same : level_number asked.level ≡ level = grind (arith, nat_tests, is) in
        ap₂ (λ n (other : List ℕ). if fits_in asked.digits (total_of field (so_far n)) then None else Some (record { level = asked.level; name = other; card = card }))
        same (own field refl)

    opened : (asked : TotalLine) (o : Option Field)
        → option_and_then tells (option_map (open_of asked so_far) o) ≡ option_and_then (λ field. tells (open_of asked so_far field)) o
    opened asked None = refl
    opened asked (Some field) = refl

    each : (statement : Statement) → option_and_then tells (open_on lines so_far statement) ≡ misfit_on lines level card (so_far level) statement
    each (says.TotalAmount total) =
        opened total (field_named lines total.name)
        ∙ on total (field_named lines total.name) (λ field named. (field-line lines total.name field named).own_name)
        (level_number total.level == level) refl
    each other = refl

    all : (some : List Line) → filter_map tells (open_totals lines so_far some)
        ≡ filter_map (λ line. misfit_on lines level card (so_far level) line.statement) some
    all [] = refl
    all (line ∷ some) =
        by (open_on lines so_far line.statement)
        ∙ ap₂ cons_option (each line.statement) (all some)
      where
        by : (o : Option OpenTotal) → filter_map tells (cons_option o (open_totals lines so_far some))
            ≡ cons_option (option_and_then tells o) (filter_map tells (open_totals lines so_far some))
        by None = refl
        by (Some total) = refl

-- so the misfits of the groups that end after a card are what the open totals tell, level by level
pub among : (lines : List Line) (so_far : ℕ → List (List ℕ)) (card ended : ℕ)
    → misfits_among (open_totals lines so_far lines) card ended ≡ misfits_to lines card ended so_far
among lines so_far card zero = refl
among lines so_far card (suc level) = ap₂ (λ one other. one ++ other) (among lines so_far card level) (groups_tell lines so_far (suc level) card)
