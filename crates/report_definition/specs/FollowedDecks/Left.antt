-- Places of body lines in parts: where some of them leave the form, those after go on.
use Rattle.std.specs.Prelude.{List, [], ◌∷◌}
use Rattle.std.specs.List.{flat_map}
use Rattle.chart_lines.specs.declared.charts.chart.Line.{Line}
use Rattle.report_definition.specs.Outline.{OutlineLine}
use Rattle.report_definition.specs.Places.{BodyText, Left, left_by}
use Rattle.report_definition.specs.Report.{body_of}

-- the body lines of lines of an outline
abbrev pub bodies_of : List Line → List OutlineLine → List BodyText
bodies_of lines outline = flat_map (body_of lines) outline

-- where body lines leave the form
abbrev pub left_after : List Line → Left → List BodyText → Left
left_after lines left [] = left
left_after lines left (body ∷ others) = left_after lines (left_by lines left body.kind) others
