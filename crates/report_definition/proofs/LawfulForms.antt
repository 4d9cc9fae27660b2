-- What a lawful chart says of the form: it has room for a page, stops rise on it, and skips go to channels with stops.
use Rattle.std.proofs.Common.{◌≡◌, ◌∙◌, refl, sym, ap, subst, ℕ, ◌+◌, ◌-◌, ◌<◌, ◌≤◌, ◌==◌, ◌&&◌, ◌⊎◌, inl, inr, nat_le, nat_lt, max, Bool, true, false, List, [], ◌∷◌, Some, None, if◌then◌else◌, arith}
use Rattle.std.specs.List.{Contains}
use Rattle.std.proofs.lemmas.Bool.{and_parts, not-false}
use Rattle.std.proofs.lemmas.Bool.Decides.{nat_tests}
use Rattle.chart_lines.specs.ChartsWords.Chart.{Chart}
use Rattle.chart_lines.specs.declared.charts.chart.Line.{Line}
use Rattle.chart_lines.specs.ChartsWords.Spacings.{spacing_number}
use Rattle.chart_lines.specs.declared.charts.heading.HeadingLine.TheVariants as heading
use Rattle.chart_lines.specs.declared.charts.spacing.Spacing.{Spacing}
use Rattle.chart_lines.specs.declared.charts.spacing.Spacing.TheVariants.{Single, Double, Triple}
use Rattle.chart_lines.specs.declared.charts.statement.After.TheVariants as action
use Rattle.chart_lines.specs.declared.charts.statement.Statement.{Statement}
use Rattle.chart_lines.specs.declared.charts.statement.Statement.TheVariants as says
use Rattle.chart_lines.proofs.ChartsWords.Listed.{any-passing}
use Rattle.chart_rules.specs.declared.rule.Rule.TheVariants as rule
use Rattle.chart_rules.specs.Below.chart_line_rules.PrintRules.Forms.{has_form, has_room, heading_of, breaks_form}
use Rattle.chart_rules.specs.Rules.{IsLawful}
use Rattle.chart_rules.specs.Below.chart_line_rules.PrintRules.Tapes.{form_lines, form_lines_of, rise_above, are_within, is_good_tape, is_tape_of, has_tape, breaks_tape}
use Rattle.chart_rules.proofs.Laws.{kept-line, lacks-lawful}
use Rattle.report_definition.specs.ChartForm.{Form, after_of, form_of, form_from, heading_count, spacing_from, spacing_of, kind_number, stops_of}
use Rattle.report_definition.proofs.Said.{SaysTape, after-said, form-said, tape-said}

-- the spacing of a kind of line is 1 to 3
pub spacing-range : (lines : List Line) (kind : ℕ) → (1 ≤ spacing_of lines kind) × (spacing_of lines kind ≤ 3)
spacing-range [] kind = (omega arith, omega arith)
spacing-range (line ∷ lines) kind = by line.statement (spacing-range lines kind)
  where
    of_spacing : (spacing : Spacing) → (1 ≤ spacing_number spacing) × (spacing_number spacing ≤ 3)
    of_spacing Single = (omega arith, omega arith)
    of_spacing Double = (omega arith, omega arith)
    of_spacing Triple = (omega arith, omega arith)

    chosen : (b : Bool) (one other : ℕ) → (1 ≤ one) × (one ≤ 3) → (1 ≤ other) × (other ≤ 3)
        → (1 ≤ (if b then one else other)) × ((if b then one else other) ≤ 3)
    chosen true one other good below = good
    chosen false one other good below = below

    by : (statement : Statement) → (1 ≤ spacing_of lines kind) × (spacing_of lines kind ≤ 3)
        → (1 ≤ spacing_from kind statement (spacing_of lines kind)) × (spacing_from kind statement (spacing_of lines kind) ≤ 3)
    by (says.Space line spacing) below =
        chosen (kind_number line == kind) (spacing_number spacing) (spacing_of lines kind) (of_spacing spacing) below
    by other below = below

-- a page has at most three heading lines
heading-few : (statement : Statement) → heading_of statement ≤ 3
heading-few (says.Head heading.First wheel literal) = omega arith
heading-few (says.Head heading.Second wheel literal) = omega arith
heading-few (says.Head heading.Third wheel literal) = omega arith
heading-few other = omega arith

pub headings-few : (lines : List Line) → heading_count lines ≤ 3
headings-few [] = omega arith
headings-few (line ∷ lines) =
    let one = heading-few line.statement in
    let rest = headings-few lines in
    omega (arith, one, rest)

-- a form has room for a page with so many heading lines
pub record HasRoom (headings : ℕ) (form : Form) : Type 0 where
  pub first_line : 1 ≤ form.first
  pub overflow_line : form.first + max headings 1 - 1 < form.overflow
  pub last_line : form.overflow + 2 ≤ form.lines
  pub few_lines : form.lines ≤ 144

roomy : (headings lines first overflow : ℕ) → has_room headings lines first overflow ≡ true
    → HasRoom headings (record { lines = lines; first = first; overflow = overflow })
roomy headings lines first overflow room =
    let (three, long) = and_parts (nat_le 1 first && nat_lt (first + max headings 1 - 1) overflow && nat_le (overflow + 2) lines) (nat_le lines 144) room in
    let (two, last) = and_parts (nat_le 1 first && nat_lt (first + max headings 1 - 1) overflow) (nat_le (overflow + 2) lines) three in
    let (one, below) = and_parts (nat_le 1 first) (nat_lt (first + max headings 1 - 1) overflow) two in
    record {
      first_line = grind (arith, nat_tests, one);
      overflow_line = grind (arith, nat_tests, below);
      last_line = grind (arith, nat_tests, last);
      few_lines = grind (arith, nat_tests, long);
    }

-- the form of a lawful chart has room for its heading lines
pub room_of : (chart : Chart) → IsLawful chart → HasRoom (heading_count chart.lines) (form_of chart.lines)
room_of chart lawful =
    let form = form_of chart.lines in
    let (line, listed, is) = form-said chart.lines (not-false (has_form chart.lines) (lacks-lawful rule.Form chart lawful)) in
    let kept = sym (ap (breaks_form chart.lines) is) ∙ (kept-line chart lawful line listed rule.Form).1 in
    roomy (heading_count chart.lines) form.lines form.first form.overflow (not-false _ kept)

-- the lines of the form by the rule are those of the report
form_lines-same : (lines : List Line) → form_lines lines ≡ (form_of lines).lines
form_lines-same [] = refl
form_lines-same (line ∷ lines) = by line.statement (form_lines-same lines)
  where
    by : (statement : Statement) → form_lines lines ≡ (form_of lines).lines
        → (elim (form_lines_of statement) [ None ↦ form_lines lines | Some count ↦ count ]) ≡ (form_from statement (form_of lines)).lines
    by (says.Form count first overflow) rest = refl
    by other rest = rest

-- A good tape has one of the channels 2 to 11, and its stops rise on the form.
pub record IsGoodTape (lines channel : ℕ) (stops : List ℕ) : Type 0 where
  pub from : 2 ≤ channel
  pub to : channel ≤ 11
  pub rise : rise_above 0 stops ≡ true
  pub within : are_within lines stops ≡ true

good-tape : (lines channel : ℕ) (stops : List ℕ) → is_good_tape lines channel stops ≡ true → IsGoodTape lines channel stops
good-tape lines channel stops good =
    let (three, within) = and_parts (nat_le 2 channel && nat_le channel 11 && rise_above 0 stops) (are_within lines stops) good in
    let (two, rise) = and_parts (nat_le 2 channel && nat_le channel 11) (rise_above 0 stops) three in
    let (from, to) = and_parts (nat_le 2 channel) (nat_le channel 11) two in
    record { from = grind (arith, nat_tests, from); to = grind (arith, nat_tests, to); rise = rise; within = within }

module _ (chart : Chart) (lawful : IsLawful chart) where
  tape-kept : (line : Line) (channel : ℕ) (stops : List ℕ) → Contains chart.lines line → line.statement ≡ says.Tape channel stops
      → IsGoodTape (form_of chart.lines).lines channel stops
  tape-kept line channel stops listed is =
      let kept = sym (ap (breaks_tape chart.lines) is) ∙ (kept-line chart lawful line listed rule.Tape).1 in
      subst (λ n. IsGoodTape n channel stops) (form_lines-same chart.lines)
      (good-tape (form_lines chart.lines) channel stops (not-false _ kept))

  -- the stops of a channel, if it has some, are those of a good tape
  pub stops-good : (channel : ℕ) → (stops_of chart.lines channel ≡ []) ⊎ IsGoodTape (form_of chart.lines).lines channel (stops_of chart.lines channel)
  stops-good channel = by (tape-said chart.lines channel)
    where
      by : (stops_of chart.lines channel ≡ []) ⊎ SaysTape chart.lines channel (stops_of chart.lines channel)
          → (stops_of chart.lines channel ≡ []) ⊎ IsGoodTape (form_of chart.lines).lines channel (stops_of chart.lines channel)
      by (inl none) = inl none
      by (inr s) =
          inr (subst (λ n. IsGoodTape (form_of chart.lines).lines n (stops_of chart.lines channel)) s.same_channel
          (tape-kept s.line s.its_channel (stops_of chart.lines channel) s.listed s.is_tape))

  -- they rise
  pub stops_rise : (channel : ℕ) → rise_above 0 (stops_of chart.lines channel) ≡ true
  stops_rise channel = elim (stops-good channel) [ inl none ↦ ap (rise_above 0) none | inr good ↦ good.rise ]

  pub stops_within : (channel : ℕ) → are_within (form_of chart.lines).lines (stops_of chart.lines channel) ≡ true
  stops_within channel = elim (stops-good channel) [ inl none ↦ ap (are_within (form_of chart.lines).lines) none | inr good ↦ good.within ]

  -- a skip that follows a kind of line goes to one of the channels 2 to 11
  pub skip-range : (kind channel : ℕ) → after_of chart.lines kind ≡ Some (action.Skip channel) → (2 ≤ channel) × (channel ≤ 11)
  skip-range kind channel is =
      let s = after-said chart.lines kind (action.Skip channel) is in
      let kept = sym (ap (breaks_tape chart.lines) s.is_after) ∙ (kept-line chart lawful s.line s.listed rule.Tape).1 in
      let tape = any-passing (λ l. is_tape_of channel l.statement) chart.lines (not-false (has_tape chart.lines channel) kept) in
      by tape.element.statement (λ its stops is_tape. tape-kept tape.element its stops tape.listed is_tape) tape.passes
    where
      ends : (its : ℕ) (stops : List ℕ) → IsGoodTape (form_of chart.lines).lines its stops → (2 ≤ its) × (its ≤ 11)
      ends its stops tape = (tape.from, tape.to)

      by : (statement : Statement)
          → ((its : ℕ) (stops : List ℕ) → statement ≡ says.Tape its stops → IsGoodTape (form_of chart.lines).lines its stops)
          → is_tape_of channel statement ≡ true → (2 ≤ channel) × (channel ≤ 11)
      by (says.Tape its stops) good same =
          let (from, to) = ends its stops (good its stops refl) in
          (grind (arith, nat_tests, from, same), grind (arith, nat_tests, to, same))
      by other good same = cc
