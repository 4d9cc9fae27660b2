-- What the rules of charts say of two lines of one chart that speak.
use Rattle.std.proofs.Common.{◌≡◌, ◌∙◌, sym, ap, ℕ, zero, suc, ◌<◌, Bool, false, List, [], ◌∷◌, ◌++◌, Contains, Some, slice_get, take, drop, arith}
use Rattle.std.specs.List.{list_any}
use Rattle.std.proofs.lemmas.Bool.{or_parts}
use Rattle.std.proofs.Math.Seq.{split_at}
use Rattle.std.proofs.lemmas.Option.{slice_get_within, get_or_from_slice_get}
use Rattle.wiring_table.proofs.Below.chart_rules.Laws.{breaks-lawful, said-once}
use Rattle.wiring_table.proofs.Below.chart_line_rules.FieldRules.Places.{is_same_name-own}
use Rattle.wiring_table.specs.Below.chart_line_rules.FieldRules.Fields.{fields_of}
use Rattle.wiring_table.specs.Below.chart_line_rules.PrintRules.Items.{item_of}
use Rattle.wiring_table.specs.Below.chart_rules.Rules.{IsLawful, breaks}
use Rattle.wiring_table.specs.Below.chart_line_rules.PrintRules.Wheels.{overlap}
use Rattle.wiring_table.specs.Below.chart_rules.declared.rule.Rule.TheVariants as rule
use Rattle.wiring_table.specs.Below.chart_rules.declared.rule.Rule.{Rule}
use Rattle.wiring_table.specs.Below.chart_lines.ChartsWords.Chart.{Chart}
use Rattle.wiring_table.specs.Below.chart_lines.declared.charts.chart.Line.{Line}
use Rattle.wiring_table.specs.Below.chart_lines.declared.charts.statement.DetailOption.{DetailOption}
use Rattle.wiring_table.specs.Below.chart_lines.declared.charts.statement.Statement.TheVariants as says

-- a line of a lawful chart breaks no rule
pub kept-at :
    (each : Rule) (chart : Chart) (place : ℕ) (line : Line) → IsLawful chart → slice_get chart.lines place ≡ Some line
    → breaks each chart.lines (take place chart.lines) line.statement ≡ false
kept-at each chart place line lawful at =
    breaks-lawful each chart (take place chart.lines) line (drop (suc place) chart.lines) lawful
    (split_at chart.lines place line (slice_get_within chart.lines place line at)
    ∙ ap (λ l. take place chart.lines ++ l ∷ drop (suc place) chart.lines) (get_or_from_slice_get chart.lines place line line at))

-- what holds for none of the first ones
earlier-false : {X : Type 0} (test : X → Bool) (list : List X) (i j : ℕ) (x : X) → list_any test (take j list) ≡ false → i < j
    → slice_get list i ≡ Some x → test x ≡ false
earlier-false test [] i j x none less at = cc
earlier-false test (y ∷ list) i zero x none less at = absurd (omega (arith, less))
earlier-false test (y ∷ list) zero (suc j) x none less at = let e : y ≡ x = cc in ap test (sym e) ∙ (or_parts (test y) _ none).0
earlier-false test (y ∷ list) (suc i) (suc j) x none less at =
    earlier-false test list i j x (or_parts (test y) _ none).1 (omega (arith, less)) at

-- Of two lines of a lawful chart the later shares no wheel of one printed line with the earlier.
pub overlaps-not : (chart : Chart) (i j : ℕ) (one other : Line) → IsLawful chart → i < j → slice_get chart.lines i ≡ Some one
    → slice_get chart.lines j ≡ Some other
    → overlap (item_of (fields_of chart.lines) one.statement) (item_of (fields_of chart.lines) other.statement) ≡ false
overlaps-not chart i j one other lawful less at there =
    earlier-false (λ line. overlap (item_of (fields_of chart.lines) line.statement) (item_of (fields_of chart.lines) other.statement))
    chart.lines i j one (kept-at rule.WheelOverlap chart j other lawful there) less at

-- DETAIL lines with one name are one line
pub detail-same : (chart : Chart) (one other : Line) (wheel its_wheel : ℕ) (name : List ℕ) (how its_how : DetailOption) → IsLawful chart
    → Contains chart.lines one → Contains chart.lines other → one.statement ≡ says.DetailField wheel name how
    → other.statement ≡ says.DetailField its_wheel name its_how → one ≡ other
detail-same chart one other wheel its_wheel name how its_how lawful listed listed_other here there =
    said-once chart lawful one other listed listed_other (rw (here, there) (is_same_name-own name)) (rw (here, there) (is_same_name-own name))
