-- How many body lines a card has, and how many pages those of a deck start.
use Rattle.std.proofs.Common.{ℕ, ◌+◌, ◌^◌, ◌≤◌, ◌<◌, List, [], ◌∷◌, Option, Some, None, length, map, arith}
use Rattle.std.specs.List.{All, range_with_len}
use Rattle.std.proofs.lemmas.List.Elements.{All-nil, All-cons, All-append, All-weaker}
use Rattle.page_text.specs.declared.placed_lines.placed_line.PlacedLine.{PlacedLine}
use Rattle.chart_lines.specs.declared.charts.chart.Line.{Line}
use Rattle.report_definition.specs.Breaks.{ended_after, chunk_of}
use Rattle.report_definition.specs.ChartForm.{heading_count}
use Rattle.report_definition.specs.Places.{BodyText, Left, before_all, page_of, line_below, left_by, heading_on, headed, placed}
use Rattle.report_definition.specs.Report.{body_lines}
use Rattle.report_definition.proofs.FewLines.{bodies-few, chunk-few, body_lines-few}
use Rattle.report_definition.specs.FollowedDecks.Left.{left_after}
use Rattle.report_definition.specs.FollowedDecks.Laws.{PagesAreFew, PagesHaveNumbers}
use Rattle.report_definition.specs.FollowedDecks.Stands.{Stand, card_bodies}

-- a card has at most five body lines
pub card_bodies-few : (lines : List Line) (stand : Stand) (card : List ℕ) (next : Option (List ℕ))
    → length (card_bodies lines stand card next) ≤ 5
card_bodies-few lines stand card next =
    let few = chunk-few lines stand.opens stand.so_far card next in
    let most = bodies-few lines (chunk_of stand.opens stand.so_far card (ended_after lines card next)) in
    omega (arith, few, most)

-- the next line is on the same page or the next
page-most : (page : ℕ) (line : Option ℕ) → page_of (record { page = page; line = line }) ≤ page + 1
page-most page None = omega arith
page-most page (Some line) = omega arith

pub after-most : (lines : List Line) (left : Left) (bodies : List BodyText)
    → (left_after lines left bodies).page ≤ left.page + length bodies
after-most lines left [] = omega arith
after-most lines left (body ∷ others) =
    let more = after-most lines (left_by lines left body.kind) others in
    let next = page-most left.page left.line in
    omega (arith, more, next)

-- heading lines are on the page that the next line starts
heads-most : (lines : List Line) (page most : ℕ) (numbers : List ℕ) → page ≤ most
    → All (λ (line : PlacedLine). line.page ≤ most) (map (heading_on lines page) numbers)
heads-most lines page most [] few = All-nil (λ (line : PlacedLine). line.page ≤ most)
heads-most lines page most (number ∷ numbers) few =
    All-cons (λ (line : PlacedLine). line.page ≤ most) (heading_on lines page number) (map (heading_on lines page) numbers) few
    (heads-most lines page most numbers few)

headed-most : (lines : List Line) (page most : ℕ) (line : Option ℕ) → page + 1 ≤ most
    → All (λ (line : PlacedLine). line.page ≤ most) (headed lines (record { page = page; line = line }))
headed-most lines page most None few = heads-most lines (page + 1) most (range_with_len 1 (heading_count lines)) few
headed-most lines page most (Some line) few = All-nil (λ (line : PlacedLine). line.page ≤ most)

placed-most : (lines : List Line) (left : Left) (bodies : List BodyText)
    → All (λ (line : PlacedLine). line.page ≤ left.page + length bodies) (placed lines left bodies)
placed-most lines left [] = All-nil (λ (line : PlacedLine). line.page ≤ left.page + 0)
placed-most lines left (body ∷ others) =
    let most = left.page + length (body ∷ others) in
    let here : PlacedLine =
    record { page = page_of left; line = line_below lines left.line body.kind; text = body.text } in
    let next = page-most left.page left.line in
    let few : page_of left ≤ most = omega (arith, next) in
    let rest = placed lines (left_by lines left body.kind) others in
    let later : All (λ (line : PlacedLine). line.page ≤ most) rest =
    All-weaker (λ (line : PlacedLine). line.page ≤ (left_by lines left body.kind).page + length others)
    (λ (line : PlacedLine). line.page ≤ most) (λ line small. omega (arith, small, next)) rest
    (placed-most lines (left_by lines left body.kind) others) in
    All-append (λ (line : PlacedLine). line.page ≤ most) (headed lines left) (here ∷ rest)
    (headed-most lines left.page most left.line (omega arith))
    (All-cons (λ (line : PlacedLine). line.page ≤ most) here rest few later)

pub pages_few : PagesAreFew
pages_few lines cards =
    (body_lines-few lines cards, (λ left bodies. (after-most lines left bodies, placed-most lines left bodies)))

pub pages_numbered : PagesHaveNumbers
pages_numbered chart cards long =
    let bodies = body_lines chart.lines cards in
    let few = body_lines-few chart.lines cards in
    All-weaker (λ (line : PlacedLine). line.page ≤ 0 + length bodies) (λ (line : PlacedLine). line.page < 2 ^ 32)
    (λ line small. omega (arith, small, few, long)) (placed chart.lines before_all bodies)
    (placed-most chart.lines before_all bodies)
