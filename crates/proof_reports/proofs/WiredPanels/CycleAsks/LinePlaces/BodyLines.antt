-- A body line comes to the place that the report gives it, and its skip or page turn leaves the carriage where the report says.
use Rattle.std.proofs.Common.{◌≡◌, ℕ, ◌+◌, ◌-◌, ◌<◌, ◌≤◌, ◌&&◌, ◌||◌, nat_lt, nat_le, Bool, true, false, List, Option, Some, None, refl, sym, ap, subst, ◌∙◌, arith, if◌then◌else◌}
use Rattle.std.proofs.lemmas.Bool.Decides.{nat_tests}
use Rattle.carriage.specs.Below.hubs.SetupsWords.Tapes.{CarriageTape}
use Rattle.carriage.specs.Below.net.Printing.{prints}
use Rattle.carriage.specs.Below.net.declared.cycle.Cycle.{Cycle}
use Rattle.carriage.specs.Below.net.declared.cycle.Cycle.TheVariants.{Card, Prog}
use Rattle.carriage.specs.Below.net.declared.cycle.ProgramLevel.TheVariants.{Minor, Intermediate, Major, Final}
use Rattle.carriage.specs.Below.net.declared.cycle.Ordinal.TheVariants.{Third}
use Rattle.carriage.specs.Carriage.{CarriageState, carriage_ended, ended_at, spaced}
use Rattle.carriage.specs.Moves.{down_by, skipped, skipped_to, restored}
use Rattle.carriage.specs.declared.spot.Spot.{Spot}
use Rattle.carriage.proofs.Descents.{down_by-on_form}
use Rattle.report_definition.specs.Below.chart_lines.declared.charts.chart.Line.{Line}
use Rattle.report_definition.specs.Below.chart_lines.declared.charts.statement.After.{After}
use Rattle.report_definition.specs.Below.chart_lines.declared.charts.statement.After.TheVariants as action
use Rattle.report_definition.specs.ChartForm.{form_of, spacing_of, after_of}
use Rattle.report_definition.specs.Places.{Left, page_of, line_below, next_stop, after_action, above_overflow}
use Rattle.proof_reports.specs.WiredPanels.CycleAsks.LinePlaces.Placing.{printing_of_chart, kind_of, prints_kind, channel_of, turns_page, asked_of, IsFormOf, IsCarriageOf, IsOnLine, AwaitsBody, line_above}
use Rattle.proof_reports.specs.WiredPanels.CycleAsks.LinePlaces.CarriageCycles.{carriage_after}
use Rattle.proof_reports.specs.WiredPanels.CycleAsks.LinePlaces.FormFacts.{HasGoodStops, HasGoodForm}
use Rattle.proof_reports.specs.WiredPanels.CycleAsks.LinePlaces.Laws.{IsBodyLinePlaced}
use Rattle.proof_reports.proofs.WiredPanels.CycleAsks.LinePlaces.Stops.{next_stop-of_chart, next_stop-below}

-- a place of the carriage
abbrev pub spot_at : ℕ → ℕ → Bool → Spot
spot_at page line latch = record { page = page; line = line; latch = latch }

-- the jacks of a chart print what it prints
pub jacks-print : (lines : List Line) (cycle : Cycle) (kind : ℕ) → kind_of cycle ≡ Some kind
    → prints (printing_of_chart lines) cycle ≡ prints_kind lines kind
jacks-print lines Card kind is = let same : 0 ≡ kind = cc in ap (prints_kind lines) same
jacks-print lines (Prog Minor Third) kind is = let same : 1 ≡ kind = cc in ap (prints_kind lines) same
jacks-print lines (Prog Intermediate Third) kind is = let same : 2 ≡ kind = cc in ap (prints_kind lines) same
jacks-print lines (Prog Major Third) kind is = let same : 3 ≡ kind = cc in ap (prints_kind lines) same
jacks-print lines (Prog Final Third) kind is = let same : 4 ≡ kind = cc in ap (prints_kind lines) same
jacks-print lines other kind is = cc

-- a cycle that prints a body line goes down by its spacing
ended-printing : (carriage : CarriageState) (cycle : Cycle) (kind : ℕ) → kind_of cycle ≡ Some kind
    → prints carriage.printing cycle ≡ true
    → carriage_ended carriage cycle ≡ ended_at carriage true (down_by carriage.form carriage.asked.lines carriage.spot)
ended-printing carriage Card kind is printing =
    ap (λ b. ended_at carriage b (spaced carriage.form b carriage.asked.lines carriage.spot)) printing
ended-printing carriage (Prog level Third) kind is printing =
    ap (λ b. ended_at carriage b (spaced carriage.form b carriage.asked.lines carriage.spot)) printing
ended-printing carriage other kind is printing = cc

-- the overflow line is noticed from above it
latch-from_above : (line to overflow its : ℕ) → its ≡ overflow → line < overflow
    → (false || (nat_lt line its && nat_le its to)) ≡ nat_le overflow to
latch-from_above line to overflow its same above =
    let test : nat_lt line its ≡ true = grind (arith, nat_tests, same, above) in
    rw (test, same) refl

-- down from above the overflow line: the latch is set where the new line is that line or past it
pub down-from_above : (form : CarriageTape) (spot : Spot) (page line lines to overflow : ℕ) → spot.page ≡ page → spot.line ≡ line
    → spot.latch ≡ false → form.overflow ≡ overflow → line < overflow → line + lines ≡ to → to ≤ form.lines
    → down_by form lines spot ≡ spot_at page to (nat_le overflow to)
down-from_above form spot page line lines to overflow is_page is_line is_reset same above sum fits =
    let stands : spot ≡ spot_at page line false = λ i. record { page = is_page i; line = is_line i; latch = is_reset i } in
    ap (down_by form lines) stands
    ∙ down_by-on_form form (spot_at page line false) lines (omega (arith, sum, fits))
    ∙ ap (λ n. spot_at page n (false || (nat_lt line form.overflow && nat_le form.overflow n))) sum
    ∙ ap (spot_at page to) (latch-from_above line to overflow form.overflow same above)

-- a line with the latch of the overflow line is the line that was left
left-there : (lines : List Line) (page line : ℕ)
    → IsOnLine lines (above_overflow (form_of lines).overflow (Some line)) (spot_at page line (nat_le (form_of lines).overflow line))
left-there lines page line = by (nat_le (form_of lines).overflow line) refl
  where
    by : (b : Bool) → nat_le (form_of lines).overflow line ≡ b
        → IsOnLine lines (if b then None else Some line) (spot_at page line b)
    by true is = refl
    by false is = (refl, refl, grind (arith, nat_tests, is))

-- the overflow line is noticed on the line or on the way to a stop
latch-to_stop : (line stop overflow its : ℕ) → its ≡ overflow → line < stop
    → (nat_le overflow line || (nat_lt line its && nat_le its stop)) ≡ nat_le overflow stop
latch-to_stop line stop overflow its same below = grind (arith, nat_tests, same, below)

-- a skip goes to its stop
skip-to_stop : (form : CarriageTape) (page line stop overflow : ℕ) → form.overflow ≡ overflow → line < stop → stop ≤ form.lines
    → down_by form (stop - line) (spot_at page line (nat_le overflow line)) ≡ spot_at page stop (nat_le overflow stop)
skip-to_stop form page line stop overflow same below fits =
    let sum : line + (stop - line) ≡ stop = omega (arith, below) in
    down_by-on_form form (spot_at page line (nat_le overflow line)) (stop - line) (omega (arith, below, fits))
    ∙ ap (λ n. spot_at page n (nat_le overflow line || (nat_lt line form.overflow && nat_le form.overflow n))) sum
    ∙ ap (spot_at page stop) (latch-to_stop line stop overflow form.overflow same below)

-- The carriage stands where a line on a page left the form.
record IsLeft (lines : List Line) (page : ℕ) (line : Option ℕ) (spot : Spot) : Type 0 where
  same_page : spot.page ≡ page
  on_line : IsOnLine lines (above_overflow (form_of lines).overflow line) spot

-- what follows a line leaves the carriage where the report says
leaves : (lines : List Line) (form : CarriageTape) (follows : Option After) (page line : ℕ) → IsFormOf lines form
    → HasGoodStops lines → ((channel : ℕ) → follows ≡ Some (action.Skip channel) → (2 ≤ channel) × (channel ≤ 11))
    → IsLeft lines page (after_action lines follows line)
    (restored (turns_page follows) (skipped form (channel_of follows) (spot_at page line (nat_le (form_of lines).overflow line))))
leaves lines form None page line is_form good skips = record { same_page = refl; on_line = left-there lines page line }
leaves lines form (Some action.Page) page line is_form good skips = record { same_page = refl; on_line = refl }
leaves lines form (Some (action.Skip channel)) page line is_form good skips =
    let overflow = (form_of lines).overflow in
    let range = skips channel refl in
    let P : Option ℕ → Type 0 =
    λ o. IsLeft lines page (next_stop lines channel line) (skipped_to form o (spot_at page line (nat_le (form_of lines).overflow line))) in
    subst P (sym (next_stop-of_chart lines form channel line is_form good (range.0) (range.1)))
    (by (next_stop lines channel line) refl)
  where
    by : (o : Option ℕ) → next_stop lines channel line ≡ o
        → IsLeft lines page o (skipped_to form o (spot_at page line (nat_le (form_of lines).overflow line)))
    by None none = record { same_page = refl; on_line = refl }
    by (Some stop) found =
        let range = next_stop-below lines channel line stop good found in
        let fits : stop ≤ form.lines = subst (λ n. stop ≤ n) (sym is_form.length) (range.1) in
        subst (IsLeft lines page (Some stop))
        (sym (skip-to_stop form page line stop (form_of lines).overflow is_form.overflow (range.0) fits))
        (record { same_page = refl; on_line = left-there lines page stop })

-- a line is spaced from the line above it
spaced-below : (lines : List Line) (left : Option ℕ) (kind : ℕ)
    → line_above lines left + spacing_of lines kind ≡ line_below lines left kind
spaced-below lines None kind = refl
spaced-below lines (Some line) kind = refl

-- a body line is placed where the report places it
pub body-placed : (lines : List Line) (left : Left) (carriage : CarriageState) (cycle : Cycle) (kind : ℕ)
    → HasGoodForm lines → IsCarriageOf lines carriage → AwaitsBody lines left carriage.spot
    → kind_of cycle ≡ Some kind → prints_kind lines kind ≡ true
    → IsBodyLinePlaced lines left kind (carriage_after carriage (asked_of lines kind) cycle)
body-placed lines left carriage cycle kind good is ready is_kind printed =
    let overflow = (form_of lines).overflow in
    let asking : CarriageState = record carriage { asked = asked_of lines kind } in
    let line = line_below lines left.line kind in
    let sum : carriage.spot.line + spacing_of lines kind ≡ line_below lines left.line kind =
    ap (λ n. n + spacing_of lines kind) ready.line ∙ spaced-below lines left.line kind in
    let above = ready.above in
    let bottom = good.room.bottom in
    let far = good.room.spacing_to kind in
    let length = is.form.length in
    let fits : line_below lines left.line kind ≤ carriage.form.lines = omega (arith, sum, above, bottom, far, length) in
    let prints_it : prints carriage.printing cycle ≡ true =
    ap (λ p. prints p cycle) is.printing ∙ jacks-print lines cycle kind is_kind ∙ printed in
    let there : carriage_after carriage (asked_of lines kind) cycle
    ≡ ended_at asking true (spot_at (page_of left) line (nat_le overflow line)) =
    ended-printing asking cycle kind is_kind prints_it
    ∙ ap (ended_at asking true)
    (down-from_above carriage.form carriage.spot (page_of left) carriage.spot.line (spacing_of lines kind) line overflow ready.page refl ready.latch is.form.overflow above sum fits) in
    let leaving = leaves lines carriage.form (after_of lines kind) (page_of left) line is.form good.stops
    (λ channel follows. (good.skips.from kind channel follows, good.skips.to kind channel follows)) in
    subst (IsBodyLinePlaced lines left kind) (sym there)
    (record {
      place = refl;
      stands = record { page = leaving.same_page; line = leaving.on_line };
      keeps = record { form = is.form; printing = is.printing };
    })
