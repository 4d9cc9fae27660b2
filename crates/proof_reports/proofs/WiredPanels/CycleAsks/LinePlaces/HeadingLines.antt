-- The three heading cycles place the heading lines of a page, and leave the carriage at its top line.
use Rattle.std.proofs.Common.{◌≡◌, ℕ, zero, suc, ◌+◌, ◌-◌, ◌^◌, ◌<◌, ◌≤◌, nat_lt, nat_le, max, Bool, true, false, List, [], ◌∷◌, ◌++◌, map, Option, None, refl, sym, ap, subst, ◌∙◌, arith, if◌then◌else◌}
use Rattle.std.specs.List.{range_with_len}
use Rattle.std.proofs.lemmas.Bool.Decides.{nat_tests}
use Rattle.carriage.specs.Below.hubs.SetupsWords.Tapes.{CarriageTape}
use Rattle.carriage.specs.Below.net.declared.cycle.Cycle.TheVariants.{Head}
use Rattle.carriage.specs.Below.net.declared.cycle.Ordinal.TheVariants.{First, Second, Third}
use Rattle.carriage.specs.Below.net.declared.printing.Printing.{Printing}
use Rattle.carriage.specs.Asked.{nothing_asked}
use Rattle.carriage.specs.Carriage as carriages
use Rattle.carriage.specs.Carriage.{CarriageState, ended_at, spaced}
use Rattle.carriage.specs.Moves.{next_page}
use Rattle.report_definition.specs.Below.page_text.declared.placed_lines.placed_line.PlacedLine.{PlacedLine}
use Rattle.carriage.specs.declared.spot.Spot.{Spot}
use Rattle.report_definition.specs.Below.chart_lines.declared.charts.chart.Line.{Line}
use Rattle.report_definition.specs.BodyLines.{heading_line}
use Rattle.report_definition.specs.ChartForm.{form_of, heading_count}
use Rattle.report_definition.specs.Places.{Left, heading_on}
use Rattle.proof_reports.specs.WiredPanels.CycleAsks.LinePlaces.Placing.{IsCarriageOf, IsAt, AwaitsBody}
use Rattle.proof_reports.specs.WiredPanels.CycleAsks.LinePlaces.CarriageCycles.{carriage_after, carriage_after_all, line_at, lines_placed, heading_cycles}
use Rattle.proof_reports.specs.WiredPanels.CycleAsks.LinePlaces.FormFacts.{HasGoodForm}
use Rattle.proof_reports.specs.WiredPanels.CycleAsks.LinePlaces.Laws.{AreHeadingTexts, AreHeadingsPlaced}
use Rattle.proof_reports.proofs.WiredPanels.CycleAsks.LinePlaces.BodyLines.{spot_at, down-from_above}

-- a carriage between cycles
abbrev standing : CarriageTape → Printing → Spot → Option (ℕ × ℕ) → CarriageState
standing form printing spot printed = record { form = form; printing = printing; spot = spot; asked = nothing_asked; printed = printed }

-- a page number below 2^32 is followed by the next
page-turned : (page : ℕ) → page < 2 ^ 32 → next_page page ≡ page + 1
page-turned page below =
    let test : nat_lt page (2 ^ 32) ≡ true = grind (arith, nat_tests, below) in
    ap (λ (b : Bool). if b then page + 1 else page) test

-- the first heading cycle begins the page
page-begun : (carriage : CarriageState) (page first : ℕ) (prints : Bool) → carriage.printing.first_heading ≡ prints
    → next_page carriage.spot.page ≡ page → carriage.form.first ≡ first
    → carriage_after carriage nothing_asked (Head First)
    ≡ standing carriage.form carriage.printing (spot_at page first false) (carriages.placed prints (spot_at page first false))
page-begun carriage page first prints printing is_page is_first =
    λ i. standing carriage.form carriage.printing (spot_at (is_page i) (is_first i) false)
    (carriages.placed (printing i) (spot_at (is_page i) (is_first i) false))

-- a heading line that is printed is spaced by one
heading-spaced : (form : CarriageTape) (page line next overflow : ℕ) (prints : Bool) → form.overflow ≡ overflow → overflow ≤ form.lines
    → line < overflow → next < overflow → next ≡ (if prints then line + 1 else line)
    → spaced form prints 1 (spot_at page line false) ≡ spot_at page next false
heading-spaced form page line next overflow false same fits above next_above is_next = ap (λ n. spot_at page n false) (sym is_next)
heading-spaced form page line next overflow true same fits above next_above is_next =
    let passed : nat_le overflow next ≡ false = grind (arith, nat_tests, next_above) in
    down-from_above form (spot_at page line false) page line 1 next overflow refl refl refl same above (sym is_next) (omega (arith, next_above, fits))
    ∙ ap (spot_at page next) passed

-- the second heading cycle
second-begun : (form : CarriageTape) (printing : Printing) (page line next : ℕ) (prints : Bool) (printed : Option (ℕ × ℕ))
    → printing.second_heading ≡ prints → spaced form prints 1 (spot_at page line false) ≡ spot_at page next false
    → carriage_after (standing form printing (spot_at page line false) printed) nothing_asked (Head Second)
    ≡ standing form printing (spot_at page next false) (carriages.placed prints (spot_at page next false))
second-begun form printing page line next prints printed is_printing goes =
    let here : CarriageState = standing form printing (spot_at page line false) printed in
    ap (λ b. ended_at here b (spaced form b 1 (spot_at page line false))) is_printing ∙ ap (ended_at here prints) goes

-- the third heading cycle
third-begun : (form : CarriageTape) (printing : Printing) (page line next : ℕ) (prints : Bool) (printed : Option (ℕ × ℕ))
    → printing.third_heading ≡ prints → spaced form prints 1 (spot_at page line false) ≡ spot_at page next false
    → carriage_after (standing form printing (spot_at page line false) printed) nothing_asked (Head Third)
    ≡ standing form printing (spot_at page next false) (carriages.placed prints (spot_at page next false))
third-begun form printing page line next prints printed is_printing goes =
    let here : CarriageState = standing form printing (spot_at page line false) printed in
    ap (λ b. ended_at here b (spaced form b 1 (spot_at page line false))) is_printing ∙ ap (ended_at here prints) goes

-- the line at the end of the second heading cycle
abbrev second_line : ℕ → ℕ → ℕ
second_line count first = if nat_le 2 count then first + 1 else first

-- the line at the end of the third
abbrev third_line : ℕ → ℕ → ℕ
third_line count first = if nat_le 3 count then second_line count first + 1 else second_line count first

-- the third line is the last heading line, or the first line where there is none
third-line : (count first : ℕ) → count ≤ 3 → third_line count first ≡ first + max count 1 - 1
third-line (suc (suc (suc (suc more)))) first few = absurd (omega (arith, few))
third-line other first few = omega arith

-- the lines do not rise up the page
second-line : (count first : ℕ) → second_line count first ≤ third_line count first
second-line count first = grind arith

first-line : (count first : ℕ) → first ≤ second_line count first
first-line count first = grind arith

-- a line with its place
abbrev placed_line : ℕ → ℕ → List ℕ → PlacedLine
placed_line page line text = record { page = page; line = line; text = text }

-- a heading line at its place
heading-there : (lines : List Line) (page line number : ℕ) (text : List ℕ) → line ≡ (form_of lines).first + number - 1
    → text ≡ heading_line lines number
    → placed_line page line text ≡ heading_on lines page number
heading-there lines page line number text is_line is_text = λ i. placed_line page (is_line i) (is_text i)

-- the lines that three heading cycles place are the heading lines of the page
heads-placed : (lines : List Line) (page count : ℕ) (texts : ℕ → List ℕ) → count ≤ 3
    → ((number : ℕ) → 1 ≤ number → number ≤ count → texts number ≡ heading_line lines number)
    → line_at (carriages.placed (nat_le 1 count) (spot_at page (form_of lines).first false)) (texts 1)
    ++ (line_at (carriages.placed (nat_le 2 count) (spot_at page (second_line count (form_of lines).first) false)) (texts 2)
    ++ (line_at (carriages.placed (nat_le 3 count) (spot_at page (third_line count (form_of lines).first) false)) (texts 3)
    ++ []))
    ≡ map (heading_on lines page) (range_with_len 1 count)
heads-placed lines page zero texts few are = refl
heads-placed lines page (suc zero) texts few are =
    let one = heading-there lines page (form_of lines).first 1 (texts 1) (omega arith) (are 1 (omega arith) (omega arith)) in
    λ i. one i ∷ []
heads-placed lines page (suc (suc zero)) texts few are =
    let one = heading-there lines page (form_of lines).first 1 (texts 1) (omega arith) (are 1 (omega arith) (omega arith)) in
    let two = heading-there lines page ((form_of lines).first + 1) 2 (texts 2) (omega arith) (are 2 (omega arith) (omega arith)) in
    λ i. one i ∷ two i ∷ []
heads-placed lines page (suc (suc (suc zero))) texts few are =
    let one = heading-there lines page (form_of lines).first 1 (texts 1) (omega arith) (are 1 (omega arith) (omega arith)) in
    let two = heading-there lines page ((form_of lines).first + 1) 2 (texts 2) (omega arith) (are 2 (omega arith) (omega arith)) in
    let three = heading-there lines page ((form_of lines).first + 1 + 1) 3 (texts 3) (omega arith) (are 3 (omega arith) (omega arith)) in
    λ i. one i ∷ two i ∷ three i ∷ []
heads-placed lines page (suc (suc (suc (suc more)))) texts few are = absurd (omega (arith, few))

-- the place of the heading line with a number, if the chart has it, where the carriage stands on a line at the end of its cycle
abbrev place_on : List Line → ℕ → ℕ → ℕ → Option (ℕ × ℕ)
place_on lines page number line = carriages.placed (nat_le number (heading_count lines)) (spot_at page line false)

-- The states after the three heading cycles.
record AreBegun (lines : List Line) (page : ℕ) (carriage : CarriageState) : Type 0 where
  one : carriage_after carriage nothing_asked (Head First)
      ≡ standing carriage.form carriage.printing (spot_at page (form_of lines).first false)
      (place_on lines page 1 (form_of lines).first)
  two : (printed : Option (ℕ × ℕ))
      → carriage_after (standing carriage.form carriage.printing (spot_at page (form_of lines).first false) printed) nothing_asked (Head Second)
      ≡ standing carriage.form carriage.printing (spot_at page (second_line (heading_count lines) (form_of lines).first) false)
      (place_on lines page 2 (second_line (heading_count lines) (form_of lines).first))
  three : (printed : Option (ℕ × ℕ))
      → carriage_after (standing carriage.form carriage.printing (spot_at page (second_line (heading_count lines) (form_of lines).first) false) printed) nothing_asked (Head Third)
      ≡ standing carriage.form carriage.printing (spot_at page (third_line (heading_count lines) (form_of lines).first) false)
      (place_on lines page 3 (third_line (heading_count lines) (form_of lines).first))

begun : (lines : List Line) (page : ℕ) (carriage : CarriageState) → HasGoodForm lines → IsCarriageOf lines carriage
    → next_page carriage.spot.page ≡ page → AreBegun lines page carriage
begun lines page carriage good is is_page =
    let first = (form_of lines).first in
    let overflow = (form_of lines).overflow in
    let count = heading_count lines in
    let top = good.room.top in
    let bottom = good.room.bottom in
    let length = is.form.length in
    let third : third_line count first < overflow = subst (λ n. n < overflow) (sym (third-line count first good.room.few_headings)) top in
    let rises = second-line count first in
    let second : second_line count first < overflow = omega (arith, rises, third) in
    let rises_first = first-line count first in
    let above : first < overflow = omega (arith, rises_first, second) in
    let fits : overflow ≤ carriage.form.lines = omega (arith, bottom, length) in
    record {
      one = page-begun carriage page first (nat_le 1 count) (ap (λ p. p.first_heading) is.printing) is_page is.form.first;
      two = λ printed. second-begun carriage.form carriage.printing page first (second_line count first) (nat_le 2 count) printed
          (ap (λ p. p.second_heading) is.printing)
          (heading-spaced carriage.form page first (second_line count first) overflow (nat_le 2 count) is.form.overflow fits above second refl);
      three = λ printed. third-begun carriage.form carriage.printing page (second_line count first) (third_line count first) (nat_le 3 count) printed
          (ap (λ p. p.third_heading) is.printing)
          (heading-spaced carriage.form page (second_line count first) (third_line count first) overflow (nat_le 3 count) is.form.overflow fits second third refl);
    }

-- after the three heading cycles the carriage stands at the last heading line, or at the first line
after-all : (lines : List Line) (page : ℕ) (carriage : CarriageState) (texts : ℕ → List ℕ) → AreBegun lines page carriage
    → carriage_after_all carriage (heading_cycles texts)
    ≡ standing carriage.form carriage.printing (spot_at page (third_line (heading_count lines) (form_of lines).first) false)
    (place_on lines page 3 (third_line (heading_count lines) (form_of lines).first))
after-all lines page carriage texts are =
    ap (λ c. carriage_after (carriage_after c nothing_asked (Head Second)) nothing_asked (Head Third)) are.one
    ∙ ap (λ c. carriage_after c nothing_asked (Head Third)) (are.two (place_on lines page 1 (form_of lines).first))
    ∙ are.three (place_on lines page 2 (second_line (heading_count lines) (form_of lines).first))

-- the lines that the heading cycles place, by where the carriage stands at the end of each
placed-all : (lines : List Line) (page : ℕ) (carriage : CarriageState) (texts : ℕ → List ℕ) → AreBegun lines page carriage
    → lines_placed carriage (heading_cycles texts)
    ≡ line_at (place_on lines page 1 (form_of lines).first) (texts 1)
    ++ (line_at (place_on lines page 2 (second_line (heading_count lines) (form_of lines).first)) (texts 2)
    ++ (line_at (place_on lines page 3 (third_line (heading_count lines) (form_of lines).first)) (texts 3)
    ++ []))
placed-all lines page carriage texts are =
    let first : Option (ℕ × ℕ) = place_on lines page 1 (form_of lines).first in
    let second : Option (ℕ × ℕ) =
    place_on lines page 2 (second_line (heading_count lines) (form_of lines).first) in
    let after_second : CarriageState → CarriageState = λ c. carriage_after c nothing_asked (Head Second) in
    let after_third : CarriageState → CarriageState = λ c. carriage_after c nothing_asked (Head Third) in
    ap (λ c. line_at c.printed (texts 1) ++ (line_at (after_second c).printed (texts 2) ++ (line_at (after_third (after_second c)).printed (texts 3) ++ []))) are.one
    ∙ ap (λ c. line_at first (texts 1) ++ (line_at c.printed (texts 2) ++ (line_at (after_third c).printed (texts 3) ++ []))) (are.two first)
    ∙ ap (λ c. line_at first (texts 1) ++ (line_at second (texts 2) ++ (line_at c.printed (texts 3) ++ []))) (are.three second)

-- where the next line starts a page, the heading cycles place that page's heading lines
pub headings-placed : (lines : List Line) (left : Left) (carriage : CarriageState) (texts : ℕ → List ℕ)
    → HasGoodForm lines → IsCarriageOf lines carriage → IsAt lines left carriage.spot
    → left.line ≡ None → left.page < 2 ^ 32 → AreHeadingTexts lines texts → AreHeadingsPlaced lines left carriage texts
headings-placed lines left carriage texts good is at starts below are_texts =
    let are = begun lines (left.page + 1) carriage good is (ap next_page at.page ∙ page-turned left.page below) in
    let leaves : left ≡ record { page = left.page; line = None } = λ i. record { page = left.page; line = starts i } in
    let after = after-all lines (left.page + 1) carriage texts are in
    let top = third-line (heading_count lines) (form_of lines).first good.room.few_headings in
    let P : CarriageState → Type 0 = λ c. AwaitsBody lines (record { page = left.page; line = None }) c.spot in
    let Q : Left → Type 0 = λ l. AreHeadingsPlaced lines l carriage texts in
    subst Q (sym leaves)
    (record {
      heads = placed-all lines (left.page + 1) carriage texts are
          ∙ heads-placed lines (left.page + 1) (heading_count lines) texts good.room.few_headings are_texts;
      ready = subst P (sym after)
          (record {
            page = refl;
            line = top;
            above = subst (λ n. n < (form_of lines).overflow) (sym top) good.room.top;
            latch = refl;
          });
      keeps = subst (IsCarriageOf lines) (sym after) (record { form = is.form; printing = is.printing });
    })
