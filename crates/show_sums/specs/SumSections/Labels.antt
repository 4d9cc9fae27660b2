-- What a sum is called: the name of its amount, or else its counter group, and the figure that was printed.
use Rattle.std.specs.Prelude.{ℕ, List, ◌++◌, Option, Some, None, codes}
use Rattle.chart_lines.specs.ChartsWords.Name.{name_text}
use Rattle.hubs.specs.declared.hub.Group.{Group}
use Rattle.show_drawings.specs.MarkupWords.Escapes.{escaped}
use Rattle.show_links.specs.SumPlaces.Places.{counter_name}
use Rattle.explain_wheel_ledgers.specs.declared.chart_totals.TitledAccount.{TitledAccount}
use Rattle.show_sums.specs.declared.sum_sections.sums.PageSum.{PageSum}

-- the name of a sum
abbrev pub sum_name_text : Option TitledAccount → Group → List ℕ
sum_name_text (Some total) group = escaped (name_text total.title.name)
sum_name_text None group = counter_name group

unfoldable pub label_text : PageSum → List ℕ
label_text sum = sum_name_text sum.total sum.at.group ++ codes " " ++ escaped sum.figure.items
