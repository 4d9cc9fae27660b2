-- A body line with the heading lines before it, and cycles that place no line.
use Rattle.std.proofs.Common.{◌≡◌, ℕ, ◌<◌, ◌^◌, Bool, true, false, List, [], ◌∷◌, ◌++◌, Option, Some, None, refl, sym, ap, ap₂, subst, ◌∙◌, append_assoc}
use Rattle.carriage.specs.Below.hubs.SetupsWords.Wiring.{Wiring}
use Rattle.carriage.specs.Below.net.Printing.{prints}
use Rattle.carriage.specs.Below.net.declared.cycle.Cycle.{Cycle}
use Rattle.carriage.specs.Below.net.declared.cycle.Cycle.TheVariants.{RunIn, Card, Prog, Head}
use Rattle.carriage.specs.Below.net.declared.cycle.Ordinal.TheVariants.{First, Second, Third}
use Rattle.carriage.specs.Asked.{nothing_asked}
use Rattle.carriage.specs.Carriage.{CarriageState, carriage_at_start, ended_at, spaced}
use Rattle.carriage.specs.declared.spot.Spot.{Spot}
use Rattle.report_definition.specs.Below.chart_lines.declared.charts.chart.Line.{Line}
use Rattle.report_definition.specs.ChartForm.{form_of}
use Rattle.report_definition.specs.Places.{BodyText, Left, before_all, left_by, headed}
use Rattle.proof_reports.specs.WiredPanels.CycleAsks.LinePlaces.Placing.{kind_of, prints_kind, asked_of, IsCarriageOf, IsAt, AwaitsBody}
use Rattle.proof_reports.specs.WiredPanels.CycleAsks.LinePlaces.CarriageCycles.{CarriageCycle, carriage_after, carriage_after_all, line_at, lines_placed, heading_cycles, cycles_for, begins_page}
use Rattle.proof_reports.specs.WiredPanels.CycleAsks.LinePlaces.FormFacts.{HasGoodForm}
use Rattle.proof_reports.specs.WiredPanels.CycleAsks.LinePlaces.Laws.{AreHeadingTexts, AreLinesPlaced}
use Rattle.proof_reports.proofs.WiredPanels.CycleAsks.LinePlaces.BodyLines.{body-placed}
use Rattle.proof_reports.proofs.WiredPanels.CycleAsks.LinePlaces.HeadingLines.{headings-placed}

-- a run starts where no line has left a form
pub starts : (lines : List Line) (wiring : Wiring) → IsAt lines before_all (carriage_at_start wiring).spot
starts lines wiring = record { page = refl; line = refl }

-- a line that leaves the form within a page
abbrev within : ℕ → ℕ → Left
within page line = record { page = page; line = Some line }

-- a carriage that stands within a page is ready for the next line
pub ready-within : (lines : List Line) (left : Left) (spot : Spot) (line : ℕ) → IsAt lines left spot → left.line ≡ Some line
    → AwaitsBody lines left spot × (headed lines left ≡ [])
ready-within lines left spot line at is =
    let leaves : left ≡ within left.page line = λ i. record { page = left.page; line = is i } in
    let P : Left → Type 0 = λ l. AwaitsBody lines l spot × (headed lines l ≡ []) in
    subst P (sym leaves) (by (subst (λ l. IsAt lines l spot) leaves at))
  where
    by : IsAt lines (within left.page line) spot → AwaitsBody lines (within left.page line) spot × (headed lines (within left.page line) ≡ [])
    by there = (
      record {
        page = there.page;
        line = there.line.1;
        above = subst (λ n. n < (form_of lines).overflow) (sym there.line.1) (there.line.2);
        latch = there.line.0;
      },
      refl,
    )

-- the lines of some cycles and of others after them
lines_placed-append : (carriage : CarriageState) (one other : List CarriageCycle)
    → lines_placed carriage (one ++ other) ≡ lines_placed carriage one ++ lines_placed (carriage_after_all carriage one) other
lines_placed-append carriage [] other = refl
lines_placed-append carriage (each ∷ one) other =
    let after = carriage_after carriage each.asked each.cycle in
    let first = line_at after.printed each.text in
    ap (λ l. first ++ l) (lines_placed-append after one other)
    ∙ sym (append_assoc first (lines_placed after one) (lines_placed (carriage_after_all after one) other))

-- the carriage after some cycles and others after them
after-append : (carriage : CarriageState) (one other : List CarriageCycle)
    → carriage_after_all carriage (one ++ other) ≡ carriage_after_all (carriage_after_all carriage one) other
after-append carriage [] other = refl
after-append carriage (each ∷ one) other = after-append (carriage_after carriage each.asked each.cycle) one other

-- a body line after cycles that placed its heading lines
line-after : (lines : List Line) (left : Left) (carriage : CarriageState) (cycle : Cycle) (body : BodyText) (heads : List CarriageCycle)
    → HasGoodForm lines → kind_of cycle ≡ Some body.kind → prints_kind lines body.kind ≡ true
    → lines_placed carriage heads ≡ headed lines left → AwaitsBody lines left (carriage_after_all carriage heads).spot
    → IsCarriageOf lines (carriage_after_all carriage heads)
    → AreLinesPlaced lines left body
    (lines_placed carriage (heads ++ (record { cycle = cycle; asked = asked_of lines body.kind; text = body.text } ∷ [])))
    (carriage_after_all carriage (heads ++ (record { cycle = cycle; asked = asked_of lines body.kind; text = body.text } ∷ [])))
line-after lines left carriage cycle body heads good is_kind printed placed_heads ready is =
    let each : CarriageCycle = record { cycle = cycle; asked = asked_of lines body.kind; text = body.text } in
    let before : CarriageState = carriage_after_all carriage heads in
    let done = body-placed lines left before cycle body.kind good is ready is_kind printed in
    let after = after-append carriage heads (each ∷ []) in
    let P : CarriageState → Type 0 = λ c. IsAt lines (left_by lines left body.kind) c.spot in
    record {
      places = lines_placed-append carriage heads (each ∷ [])
          ∙ ap₂ (λ one other. one ++ (line_at other body.text ++ [])) placed_heads done.place;
      stands = subst P (sym after) done.stands;
      keeps = subst (IsCarriageOf lines) (sym after) done.keeps;
    }

-- a body line, with heading cycles before it where the latch is set, is placed as in the report
pub lines-placed : (lines : List Line) (left : Left) (carriage : CarriageState) (cycle : Cycle) (body : BodyText) (texts : ℕ → List ℕ)
    → HasGoodForm lines → IsCarriageOf lines carriage → IsAt lines left carriage.spot
    → kind_of cycle ≡ Some body.kind → prints_kind lines body.kind ≡ true → left.page < 2 ^ 32 → AreHeadingTexts lines texts
    → AreLinesPlaced lines left body
    (lines_placed carriage (cycles_for lines carriage.spot.latch texts cycle body.kind body.text))
    (carriage_after_all carriage (cycles_for lines carriage.spot.latch texts cycle body.kind body.text))
lines-placed lines left carriage cycle body texts good is at is_kind printed below are_texts = by left.line refl
  where
    P : Bool → Type 0
    P latch = AreLinesPlaced lines left body
        (lines_placed carriage (cycles_for lines latch texts cycle body.kind body.text))
        (carriage_after_all carriage (cycles_for lines latch texts cycle body.kind body.text))

    on_a_new_page : left.line ≡ None → IsAt lines (record { page = left.page; line = None }) carriage.spot → P carriage.spot.latch
    on_a_new_page starts stands =
        let heads = headings-placed lines left carriage texts good is at starts below are_texts in
        subst P (sym stands.line)
        (line-after lines left carriage cycle body (heading_cycles texts) good is_kind printed heads.heads heads.ready heads.keeps)

    by : (o : Option ℕ) → left.line ≡ o → P carriage.spot.latch
    by None starts =
        let leaves : left ≡ record { page = left.page; line = None } = λ i. record { page = left.page; line = starts i } in
        on_a_new_page starts (subst (λ l. IsAt lines l carriage.spot) leaves at)
    by (Some line) stays =
        let within = ready-within lines left carriage.spot line at stays in
        subst P (sym (within.0).latch)
        (line-after lines left carriage cycle body [] good is_kind printed (sym (within.1)) (within.0) is)

-- a cycle that doesn't print leaves the carriage where it stands
pub quiet-stays : (carriage : CarriageState) (cycle : Cycle) → prints carriage.printing cycle ≡ false → begins_page cycle ≡ false
    → carriage_after carriage nothing_asked cycle ≡ record carriage { asked = nothing_asked; printed = None }
quiet-stays carriage RunIn quiet same = refl
quiet-stays carriage Card quiet same =
    ap (λ b. ended_at (record carriage { asked = nothing_asked }) b (spaced carriage.form b 1 carriage.spot)) quiet
quiet-stays carriage (Prog level First) quiet same = refl
quiet-stays carriage (Prog level Second) quiet same = refl
quiet-stays carriage (Prog level Third) quiet same =
    ap (λ b. ended_at (record carriage { asked = nothing_asked }) b (spaced carriage.form b 1 carriage.spot)) quiet
quiet-stays carriage (Head First) quiet same = cc
quiet-stays carriage (Head Second) quiet same =
    ap (λ b. ended_at (record carriage { asked = nothing_asked }) b (spaced carriage.form b 1 carriage.spot)) quiet
quiet-stays carriage (Head Third) quiet same =
    ap (λ b. ended_at (record carriage { asked = nothing_asked }) b (spaced carriage.form b 1 carriage.spot)) quiet
