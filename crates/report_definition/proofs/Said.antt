-- What the lines of a chart say of its form: the form, the spacings, what follows lines, and the stops of channels. Where the chart has
-- it, a line says it.
use Rattle.std.proofs.Common.{◌≡◌, ◌∙◌, refl, ap, ℕ, ◌≤◌, ◌==◌, ◌||◌, ◌⊎◌, inl, inr, Bool, true, false, List, [], ◌∷◌, Some, if◌then◌else◌, arith}
use Rattle.std.specs.List.{Contains}
use Rattle.std.proofs.lemmas.Bool.Decides.{nat_tests}
use Rattle.chart_lines.specs.ChartsWords.Spacings.{spacing_number}
use Rattle.chart_lines.specs.declared.charts.chart.Line.{Line}
use Rattle.chart_lines.specs.declared.charts.spacing.Spacing.{Spacing}
use Rattle.chart_lines.specs.declared.charts.statement.After.{After}
use Rattle.chart_lines.specs.declared.charts.statement.BodyLine.{BodyLine}
use Rattle.chart_lines.specs.declared.charts.statement.Statement.{Statement}
use Rattle.chart_lines.specs.declared.charts.statement.Statement.TheVariants as says
use Rattle.chart_lines.proofs.ChartsWords.Listed.{listed-first, listed-after}
use Rattle.chart_rules.specs.Below.chart_line_rules.PrintRules.Forms.{has_form, is_form}
use Rattle.report_definition.specs.ChartForm.{after_from, after_of, form_from, form_of, kind_number, spacing_from, spacing_of, stops_from, stops_of}

-- A line of a chart gives the kind of body line with a number a spacing of so many lines.
pub record SaysSpace (lines : List Line) (kind many : ℕ) : Type 0 where
  pub line : Line
  pub listed : Contains lines line
  pub its_kind : BodyLine
  pub its_spacing : Spacing
  pub is_space : line.statement ≡ says.Space its_kind its_spacing
  pub same_kind : kind_number its_kind ≡ kind
  pub same_spacing : spacing_number its_spacing ≡ many

-- A line of a chart says what follows the kind of body line with a number.
pub record SaysAfter (lines : List Line) (kind : ℕ) (follows : After) : Type 0 where
  pub line : Line
  pub listed : Contains lines line
  pub its_kind : BodyLine
  pub is_after : line.statement ≡ says.After its_kind follows
  pub same_kind : kind_number its_kind ≡ kind

-- a spacing that isn't single is said
pub space-said : (lines : List Line) (kind many : ℕ) → 2 ≤ many → spacing_of lines kind ≡ many → SaysSpace lines kind many
space-said [] kind many more is = absurd (omega (arith, more, is))
space-said (line ∷ lines) kind many more is = by line.statement refl is (λ found. after (space-said lines kind many more found))
  where
    after : SaysSpace lines kind many → SaysSpace (line ∷ lines) kind many
    after s = record {
      line = s.line;
      listed = listed-after line lines s.listed;
      its_kind = s.its_kind;
      its_spacing = s.its_spacing;
      is_space = s.is_space;
      same_kind = s.same_kind;
      same_spacing = s.same_spacing;
    }

    either : (its : BodyLine) (spacing : Spacing) → line.statement ≡ says.Space its spacing → (b : Bool) → (kind_number its == kind) ≡ b
        → (if b then spacing_number spacing else spacing_of lines kind) ≡ many
        → (spacing_of lines kind ≡ many → SaysSpace (line ∷ lines) kind many) → SaysSpace (line ∷ lines) kind many
    either its spacing says_it true same found below = record {
      line = line;
      listed = listed-first line lines;
      its_kind = its;
      its_spacing = spacing;
      is_space = says_it;
      same_kind = grind (arith, nat_tests, same);
      same_spacing = found;
    }
    either its spacing says_it false same found below = below found

    by : (statement : Statement) → line.statement ≡ statement → spacing_from kind statement (spacing_of lines kind) ≡ many
        → (spacing_of lines kind ≡ many → SaysSpace (line ∷ lines) kind many) → SaysSpace (line ∷ lines) kind many
    by (says.Space its spacing) says_it found below = either its spacing says_it (kind_number its == kind) refl found below
    by other says_it found below = below found

-- what follows a kind is said
pub after-said : (lines : List Line) (kind : ℕ) (follows : After) → after_of lines kind ≡ Some follows → SaysAfter lines kind follows
after-said [] kind follows is = cc
after-said (line ∷ lines) kind follows is = by line.statement refl is (λ found. after (after-said lines kind follows found))
  where
    after : SaysAfter lines kind follows → SaysAfter (line ∷ lines) kind follows
    after s = record {
      line = s.line;
      listed = listed-after line lines s.listed;
      its_kind = s.its_kind;
      is_after = s.is_after;
      same_kind = s.same_kind;
    }

    either : (its : BodyLine) (action : After) → line.statement ≡ says.After its action → (b : Bool) → (kind_number its == kind) ≡ b
        → (if b then Some action else after_of lines kind) ≡ Some follows
        → (after_of lines kind ≡ Some follows → SaysAfter (line ∷ lines) kind follows) → SaysAfter (line ∷ lines) kind follows
    either its action says_it true same found below = record {
      line = line;
      listed = listed-first line lines;
      its_kind = its;
      is_after = let one : action ≡ follows = cc in says_it ∙ ap (λ a. says.After its a) one;
      same_kind = grind (arith, nat_tests, same);
    }
    either its action says_it false same found below = below found

    by : (statement : Statement) → line.statement ≡ statement → after_from kind statement (after_of lines kind) ≡ Some follows
        → (after_of lines kind ≡ Some follows → SaysAfter (line ∷ lines) kind follows) → SaysAfter (line ∷ lines) kind follows
    by (says.After its action) says_it found below = either its action says_it (kind_number its == kind) refl found below
    by other says_it found below = below found

-- A line of a chart gives a channel its stops.
pub record SaysTape (lines : List Line) (channel : ℕ) (stops : List ℕ) : Type 0 where
  pub line : Line
  pub listed : Contains lines line
  pub its_channel : ℕ
  pub is_tape : line.statement ≡ says.Tape its_channel stops
  pub same_channel : its_channel ≡ channel

-- stops are said
pub tape-said : (lines : List Line) (channel : ℕ) → (stops_of lines channel ≡ []) ⊎ SaysTape lines channel (stops_of lines channel)
tape-said [] channel = inl refl
tape-said (line ∷ lines) channel = by line.statement refl (after (tape-said lines channel))
  where
    after : {stops : List ℕ} → (stops ≡ []) ⊎ SaysTape lines channel stops → (stops ≡ []) ⊎ SaysTape (line ∷ lines) channel stops
    after (inl none) = inl none
    after (inr s) =
        inr (record {
          line = s.line;
          listed = listed-after line lines s.listed;
          its_channel = s.its_channel;
          is_tape = s.is_tape;
          same_channel = s.same_channel;
        })

    either : (its : ℕ) (stops below : List ℕ) → line.statement ≡ says.Tape its stops → (b : Bool) → (its == channel) ≡ b
        → (below ≡ []) ⊎ SaysTape (line ∷ lines) channel below
        → ((if b then stops else below) ≡ []) ⊎ SaysTape (line ∷ lines) channel (if b then stops else below)
    either its stops below says_it true same later =
        inr (record {
          line = line;
          listed = listed-first line lines;
          its_channel = its;
          is_tape = says_it;
          same_channel = grind (arith, nat_tests, same);
        })
    either its stops below says_it false same later = later

    by : (statement : Statement) → line.statement ≡ statement
        → (stops_of lines channel ≡ []) ⊎ SaysTape (line ∷ lines) channel (stops_of lines channel)
        → (stops_from channel statement (stops_of lines channel) ≡ [])
        ⊎ SaysTape (line ∷ lines) channel (stops_from channel statement (stops_of lines channel))
    by (says.Tape its stops) says_it later = either its stops (stops_of lines channel) says_it (its == channel) refl later
    by other says_it later = later

-- the form is said
pub form-said : (lines : List Line) → has_form lines ≡ true
    → (line : Line) × Contains lines line
    × (line.statement ≡ says.Form (form_of lines).lines (form_of lines).first (form_of lines).overflow)
form-said [] some = cc
form-said (line ∷ lines) some = by line.statement refl some (form-said lines)
  where
    by : (statement : Statement) → line.statement ≡ statement → (is_form statement || has_form lines) ≡ true
        → (has_form lines ≡ true
        → (each : Line) × Contains lines each × (each.statement ≡ says.Form (form_of lines).lines (form_of lines).first (form_of lines).overflow))
        → (each : Line) × Contains (line ∷ lines) each
        × (each.statement ≡ says.Form (form_from statement (form_of lines)).lines (form_from statement (form_of lines)).first
        (form_from statement (form_of lines)).overflow)
    by (says.Form long first overflow) says_it there below = (line, listed-first line lines, says_it)
    by other says_it there below =
        let (each, listed, is) = below there in (each, listed-after line lines listed, is)
