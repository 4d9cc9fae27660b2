-- Where lines of a lawful chart's report stand.
use Rattle.std.proofs.Common.{◌≡◌, refl, sym, ap, subst, ℕ, ◌+◌, ◌-◌, ◌<◌, ◌==◌, nat_le, Bool, true, false, List, [], ◌∷◌, ◌++◌, Option, Some, None, if◌then◌else◌, arith}
use Rattle.std.proofs.lemmas.Bool.Decides.{nat_tests}
use Rattle.chart_lines.specs.declared.charts.chart.Line.{Line}
use Rattle.chart_lines.specs.declared.charts.statement.After.{After}
use Rattle.chart_lines.specs.declared.charts.statement.After.TheVariants as action
use Rattle.chart_rules.specs.Below.chart_line_rules.PrintRules.Tapes.{rise_above}
use Rattle.report_definition.specs.ChartForm.{form_of, heading_count, spacing_of, after_of, stops_of}
use Rattle.report_definition.specs.PlaceLaws.{ComesTo, stays, skips, EndsPage, full, asked, no_stop, standing, headings_on, first_body_line, Follow, no_more, on_its_page, on_the_next, ArePlaced, nothing, from_page_1, LinesStandByTheLineBefore}
use Rattle.report_definition.specs.Places.{BodyText, before_all, top_line, next_stop, after_action, above_overflow, placed}
use Rattle.report_definition.specs.Report.{body_lines}
use Rattle.report_definition.proofs.LawfulForms.{stops_rise}
use Rattle.report_definition.proofs.NextStops.{found, missing}

-- where a line of a kind on a line leaves its page
abbrev leaves : List Line → ℕ → ℕ → Option ℕ
leaves lines kind line = above_overflow (form_of lines).overflow (after_action lines (after_of lines kind) line)

-- what is told by where a line leaves its page
abbrev Way : List Line → ℕ → ℕ → Option ℕ → Type 0
Way lines kind line None = EndsPage lines kind line
Way lines kind line (Some to) = ComesTo lines kind line to × (to < (form_of lines).overflow)

module _ (lines : List Line) (rise : (channel : ℕ) → rise_above 0 (stops_of lines channel) ≡ true) where
  -- each line leaves its page in one of these ways
  way : (kind line : ℕ) → Way lines kind line (leaves lines kind line)
  way kind line = by (after_of lines kind) refl
    where
      come : (to : ℕ) → ComesTo lines kind line to → Way lines kind line (above_overflow (form_of lines).overflow (Some to))
      come to here = at (nat_le (form_of lines).overflow to) refl
        where
          at : (b : Bool) → nat_le (form_of lines).overflow to ≡ b → Way lines kind line (if b then None else Some to)
          at true past = full to here (grind (arith, nat_tests, past))
          at false above = (here, grind (arith, nat_tests, above))

      skip : (channel : ℕ) → after_of lines kind ≡ Some (action.Skip channel) → (o : Option ℕ) → next_stop lines channel line ≡ o
          → Way lines kind line (above_overflow (form_of lines).overflow o)
      skip channel is None none = no_stop channel is (λ stop there. missing line (stops_of lines channel) stop none there)
      skip channel is (Some stop) some =
          let next = found 0 line (stops_of lines channel) stop (rise channel) some in
          come stop (skips channel stop is (record { is_stop = next.is_stop; below = next.below; first = next.first }))

      by : (after : Option After) → after_of lines kind ≡ after
          → Way lines kind line (above_overflow (form_of lines).overflow (after_action lines after line))
      by None is = come line (stays is)
      by (Some action.Page) is = asked is
      by (Some (action.Skip channel)) is = skip channel is (next_stop lines channel line) refl

  -- the line from which the first body line of a page is spaced
  top : (kind : ℕ) → top_line lines + spacing_of lines kind ≡ first_body_line lines kind
  top kind = by (heading_count lines == 0) refl
    where
      by : (b : Bool) → (heading_count lines == 0) ≡ b → top_line lines + spacing_of lines kind
          ≡ (if b then (form_of lines).first else (form_of lines).first + heading_count lines - 1) + spacing_of lines kind
      by true none = grind (arith, nat_tests, none)
      by false some = grind (arith, nat_tests, some)

  -- body lines that begin a page
  begin : (page : ℕ) (body : BodyText) (bodies : List BodyText)
      → placed lines (record { page = page; line = None }) (body ∷ bodies)
      ≡ headings_on lines (page + 1)
      ++ (standing body (page + 1) (first_body_line lines body.kind)
      ∷ placed lines (record { page = page + 1; line = leaves lines body.kind (first_body_line lines body.kind) }) bodies)
  begin page body bodies =
      ap
      (λ n. headings_on lines (page + 1)
      ++ (standing body (page + 1) n ∷ placed lines (record { page = page + 1; line = leaves lines body.kind n }) bodies))
      (top body.kind)

  -- body lines follow a line
  follow : (bodies : List BodyText) (kind page line : ℕ)
      → Follow lines kind page line bodies (placed lines (record { page = page; line = leaves lines kind line }) bodies)
  follow [] kind page line = no_more kind page line
  follow (body ∷ bodies) kind page line =
      by (leaves lines kind line) (way kind line) (λ later on. follow bodies body.kind later on)
    where
      by : (o : Option ℕ) → Way lines kind line o
          → ((later on : ℕ) → Follow lines body.kind later on bodies (placed lines (record { page = later; line = leaves lines body.kind on }) bodies))
          → Follow lines kind page line (body ∷ bodies) (placed lines (record { page = page; line = o }) (body ∷ bodies))
      by None ends more =
          subst (Follow lines kind page line (body ∷ bodies)) (sym (begin page body bodies))
          (on_the_next kind page line body bodies _ ends (more (page + 1) (first_body_line lines body.kind)))
      by (Some to) comes more =
          on_its_page kind page line to body bodies _ comes.0 comes.1 (more page (to + spacing_of lines body.kind))

  stand : (bodies : List BodyText) → ArePlaced lines bodies (placed lines before_all bodies)
  stand [] = nothing
  stand (body ∷ bodies) =
      subst (ArePlaced lines (body ∷ bodies)) (sym (begin 0 body bodies))
      (from_page_1 body bodies _ (follow bodies body.kind 1 (first_body_line lines body.kind)))

pub lines_stand : LinesStandByTheLineBefore
lines_stand chart cards lawful = stand chart.lines (stops_rise chart lawful) (body_lines chart.lines cards)
