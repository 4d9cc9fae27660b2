-- Places of body lines in parts.
use Rattle.std.proofs.Common.{◌≡◌, ◌∙◌, refl, sym, ap, List, [], ◌∷◌, ◌++◌}
use Rattle.std.proofs.lemmas.List.{append_assoc}
use Rattle.page_text.specs.declared.placed_lines.placed_line.PlacedLine.{PlacedLine}
use Rattle.chart_lines.specs.declared.charts.chart.Line.{Line}
use Rattle.report_definition.specs.Places.{BodyText, Left, page_of, line_below, left_by, headed, placed}
use Rattle.report_definition.specs.FollowedDecks.Left.{left_after}
use Rattle.report_definition.specs.FollowedDecks.Laws.{PlacesSplit}

-- where two parts leave the form
left-append : (lines : List Line) (left : Left) (one other : List BodyText)
    → left_after lines left (one ++ other) ≡ left_after lines (left_after lines left one) other
left-append lines left [] other = refl
left-append lines left (body ∷ others) other = left-append lines (left_by lines left body.kind) others other

-- the places of two parts
pub placed-append : (lines : List Line) (left : Left) (one other : List BodyText)
    → placed lines left (one ++ other) ≡ placed lines left one ++ placed lines (left_after lines left one) other
placed-append lines left [] other = refl
placed-append lines left (body ∷ others) other =
    let here : PlacedLine =
    record { page = page_of left; line = line_below lines left.line body.kind; text = body.text } in
    ap (λ l. headed lines left ++ (here ∷ l)) (placed-append lines (left_by lines left body.kind) others other)
    ∙ sym (append_assoc (headed lines left) (here ∷ placed lines (left_by lines left body.kind) others)
    (placed lines (left_after lines (left_by lines left body.kind) others) other))

pub places_split : PlacesSplit
places_split lines left one other = (placed-append lines left one other, left-append lines left one other)
