-- Lines that stand by the line before them are in order.
use Rattle.std.proofs.Common.{◌≡◌, refl, ℕ, zero, suc, ◌+◌, ◌-◌, ◌^◌, ◌<◌, ◌≤◌, inl, inr, ◌==◌, Bool, true, false, List, ◌∷◌, ◌++◌, length, map, if◌then◌else◌, arith}
use Rattle.std.specs.List.{range_with_len}
use Rattle.std.proofs.lemmas.Bool.Decides.{nat_tests}
use Rattle.page_text.specs.PlacedLines.InOrder.{IsAfter, FollowInOrder, IsInOrder}
use Rattle.page_text.specs.declared.placed_lines.placed_line.PlacedLine.{PlacedLine}
use Rattle.chart_lines.specs.declared.charts.chart.Line.{Line}
use Rattle.report_definition.specs.ChartForm.{form_of, heading_count, spacing_of}
use Rattle.report_definition.specs.PlaceLaws.{ComesTo, stays, skips, standing, headings_on, first_body_line, Follow, no_more, on_its_page, on_the_next, ArePlaced, nothing, from_page_1, PlacesRise}
use Rattle.report_definition.specs.Places.{BodyText, heading_on}
use Rattle.report_definition.proofs.FewLines.{body_lines-few}
use Rattle.report_definition.proofs.LawfulForms.{HasRoom, room_of, spacing-range}
use Rattle.report_definition.proofs.LinePlaces.{lines_stand}

module _ (lines : List Line) (room : HasRoom (heading_count lines) (form_of lines)) where
  abbrev long : ℕ
  long = (form_of lines).lines

  abbrev at : ℕ → ℕ
  at number = (form_of lines).first + number - 1

  -- the first body line of a page stands below its heading lines, and on the form
  below_headings : (kind : ℕ) → (1 ≤ first_body_line lines kind) × ((form_of lines).first + heading_count lines ≤ first_body_line lines kind) × (first_body_line lines kind ≤ long)
  below_headings kind = by (heading_count lines == 0) refl
    where
      by : (b : Bool) → (heading_count lines == 0) ≡ b
          → (1 ≤ (if b then (form_of lines).first else at (heading_count lines)) + spacing_of lines kind)
          × ((form_of lines).first + heading_count lines ≤ (if b then (form_of lines).first else at (heading_count lines)) + spacing_of lines kind)
          × ((if b then (form_of lines).first else at (heading_count lines)) + spacing_of lines kind ≤ long)
      by true none =
          let space = spacing-range lines kind in
          let none_at : heading_count lines ≡ 0 = grind (arith, nat_tests, none) in (
            omega (arith, room.first_line),
            omega (arith, none_at),
            grind (arith, nat_tests, none_at, space.1, room.overflow_line, room.last_line),
          )
      by false some =
          let space = spacing-range lines kind in
          let one : 1 ≤ heading_count lines = grind (arith, nat_tests, some) in (
            omega (arith, room.first_line, one),
            omega (arith, space.0, one),
            grind (arith, nat_tests, one, space.1, room.overflow_line, room.last_line),
          )

  -- heading lines and what follows them are in order
  heads : (page number count bottom : ℕ) (rest : List PlacedLine) → 1 ≤ page → page ≤ 2 ^ 32 → 1 ≤ number
      → at number + count ≤ bottom → bottom ≤ long
      → ((before line : ℕ) → IsAfter before line page bottom → FollowInOrder long before line rest)
      → (before line : ℕ) → IsAfter before line page (at number)
      → FollowInOrder long before line (map (heading_on lines page) (range_with_len number count) ++ rest)
  heads page number zero bottom rest from to some fits within next before line after = next before line (lower after)
    where
      lower : IsAfter before line page (at number) → IsAfter before line page bottom
      lower (inl later) = inl later
      lower (inr below) = inr (below.0, omega (arith, below.1, fits))
  heads page number (suc count) bottom rest from to some fits within next before line after = (
    after,
    record { page_from = from; page_to = to; line_from = omega (arith, some, room.first_line); line_to = omega (arith, fits, within) },
    heads page (number + 1) count bottom rest from to (omega arith) (omega (arith, fits, some)) within next page (at number)
        (inr (refl, omega (arith, some))),
  )

  -- a page begins after all lines of the page before it
  turn : (page line : ℕ) (body : BodyText) (others : List PlacedLine) → page < 2 ^ 32
      → FollowInOrder long (page + 1) (first_body_line lines body.kind) others
      → FollowInOrder long page line (headings_on lines (page + 1) ++ (standing body (page + 1) (first_body_line lines body.kind) ∷ others))
  turn page line body others most more =
      let place = below_headings body.kind in
      heads (page + 1) 1 (heading_count lines) (first_body_line lines body.kind) _ (omega arith) (omega (arith, most)) (omega arith)
      (omega (arith, place.1)) place.2
      (λ before above after. (
        after,
        record { page_from = omega arith; page_to = omega (arith, most); line_from = place.0; line_to = omega (arith, place.2) },
        more,
      ))
      page line
      (inl (omega arith))

  comes_down : {kind line to : ℕ} → ComesTo lines kind line to → line ≤ to
  comes_down (stays is) = omega arith
  comes_down (skips channel stop is next) = omega (arith, next.below)

  rises : {kind page line : ℕ} {bodies : List BodyText} {others : List PlacedLine} → Follow lines kind page line bodies others
      → 1 ≤ page → 1 ≤ line → page + length bodies ≤ 2 ^ 32 → FollowInOrder long page line others
  rises (no_more kind page line) from down most = tt
  rises (on_its_page kind page line to body bodies others comes above more) from down most =
      let low = comes_down comes in
      let space = spacing-range lines body.kind in (
        inr (refl, omega (arith, low, space.0)),
        record { page_from = from; page_to = omega (arith, most); line_from = omega (arith, low, down); line_to = omega (arith, above, space.1, room.last_line) },
        rises more from (omega (arith, low, down)) (omega (arith, most)),
      )
  rises (on_the_next kind page line body bodies others ends more) from down most =
      turn page line body others (omega (arith, most))
      (rises more (omega arith) (below_headings body.kind).0 (omega (arith, most)))

  all_rise : {bodies : List BodyText} {others : List PlacedLine} → ArePlaced lines bodies others → length bodies ≤ 2 ^ 32
      → IsInOrder long others
  all_rise nothing most = tt
  all_rise (from_page_1 body bodies those more) most =
      turn 0 0 body those (omega (arith, most)) (rises more (omega arith) (below_headings body.kind).0 (omega (arith, most)))

pub places_rise : PlacesRise
places_rise chart cards lawful few =
    let most = body_lines-few chart.lines cards in
    all_rise chart.lines (room_of chart lawful) (lines_stand chart cards lawful) (omega (arith, most, few))
