-- What a lawful chart says once: no line says again what an earlier one said.
use Rattle.std.proofs.Common.{◌≡◌, ◌∙◌, refl, sym, ap, ℕ, zero, suc, ◌==◌, Bool, true, false, List, [], ◌∷◌, ◌++◌, Contains, Some, arith, append_assoc}
use Rattle.std.proofs.lemmas.Bool.Decides.{nat_tests}
use Rattle.std.specs.List.{list_any}
use Rattle.wiring_table.proofs.Below.chart_rules.Laws.{breaks-lawful}
use Rattle.wiring_table.specs.Below.chart_line_rules.FieldRules.Repeats.{repeats, is_same_body}
use Rattle.wiring_table.specs.Below.chart_rules.Rules.{IsLawful}
use Rattle.wiring_table.specs.Below.chart_rules.declared.rule.Rule.TheVariants as rule
use Rattle.wiring_table.specs.Below.chart_lines.ChartsWords.Chart.{Chart}
use Rattle.wiring_table.specs.Below.chart_lines.ChartsWords.Levels.{level_number}
use Rattle.wiring_table.specs.Below.chart_lines.ChartsWords.Spacings.{spacing_number}
use Rattle.wiring_table.specs.Below.chart_lines.declared.charts.chart.Line.{Line}
use Rattle.wiring_table.specs.Below.chart_lines.declared.charts.level.Level.{Level}
use Rattle.wiring_table.specs.Below.chart_lines.declared.charts.level.Level.TheVariants as level
use Rattle.wiring_table.specs.Below.chart_lines.declared.charts.spacing.Spacing.{Spacing}
use Rattle.wiring_table.specs.Below.chart_lines.declared.charts.statement.After.{After}
use Rattle.wiring_table.specs.Below.chart_lines.declared.charts.statement.BodyLine.{BodyLine}
use Rattle.wiring_table.specs.Below.chart_lines.declared.charts.statement.BodyLine.TheVariants as body
use Rattle.wiring_table.specs.Below.chart_lines.declared.charts.statement.Statement.{Statement}
use Rattle.wiring_table.specs.Below.chart_lines.declared.charts.statement.Statement.TheVariants as says
use Rattle.report_definition.specs.ChartForm.{kind_number, spacing_of, spacing_from, after_of, after_from}
use Rattle.std.proofs.lemmas.List.Elements.{Contains-append_right}
use Rattle.report_definition.proofs.Said.{SaysAfter, SaysSpace}
use Rattle.wiring_table.proofs.Below.chart_lines.ChartsWords.Listed.{listed-first, none-any}

-- no line of a list says again what another before it says
abbrev pub IsSaidOnce : List Line → Type 0
IsSaidOnce [] = Unit {0}
IsSaidOnce (line ∷ lines) = (list_any (λ other. repeats line.statement other.statement) lines ≡ false) × IsSaidOnce lines

-- what a line of a lawful chart says, none of those after it says again
after-once : (chart : Chart) → IsLawful chart → (before : List Line) (line : Line) (middle rest : List Line)
    → chart.lines ≡ (before ++ line ∷ middle) ++ rest → list_any (λ other. repeats line.statement other.statement) rest ≡ false
after-once chart lawful before line middle [] split = refl
after-once chart lawful before line middle (other ∷ rest) split =
    let kept : list_any (λ each. repeats each.statement other.statement) (before ++ line ∷ middle) ≡ false =
    breaks-lawful rule.LineTwice chart (before ++ line ∷ middle) other rest lawful split in
    let here : repeats line.statement other.statement ≡ false =
    none-any (λ each. repeats each.statement other.statement) (before ++ line ∷ middle) line kept
    (Contains-append_right before (line ∷ middle) line (listed-first line middle)) in
    rw here (after-once chart lawful before line (middle ++ other ∷ []) rest
    (split ∙ append_assoc before (line ∷ middle) (other ∷ rest)
    ∙ ap (λ l. before ++ line ∷ l) (sym (append_assoc middle (other ∷ []) rest))
    ∙ sym (append_assoc before (line ∷ (middle ++ other ∷ [])) rest)))

rest-once : (chart : Chart) → IsLawful chart → (before rest : List Line) → chart.lines ≡ before ++ rest → IsSaidOnce rest
rest-once chart lawful before [] split = tt
rest-once chart lawful before (line ∷ rest) split =
    let further : chart.lines ≡ (before ++ line ∷ []) ++ rest = split ∙ sym (append_assoc before (line ∷ []) rest) in
    (after-once chart lawful before line [] rest further, rest-once chart lawful (before ++ line ∷ []) rest further)

-- a lawful chart says things once
pub said-once : (chart : Chart) → IsLawful chart → IsSaidOnce chart.lines
said-once chart lawful = rest-once chart lawful [] chart.lines refl

-- kinds of body lines with one number are the same
pub same-body : (one other : BodyLine) → kind_number one ≡ kind_number other → is_same_body one other ≡ true
same-body body.Detail body.Detail is = refl
same-body (body.Total one) (body.Total other) is = grind (arith, nat_tests, is)
same-body body.Detail (body.Total other) is = absurd (by other is)
  where
    by : (its : Level) → 0 ≡ level_number its → ⊥
    by level.Minor e = omega (arith, e)
    by level.Intermediate e = omega (arith, e)
    by level.Major e = omega (arith, e)
    by level.Final e = omega (arith, e)
same-body (body.Total one) body.Detail is = absurd (by one is)
  where
    by : (its : Level) → level_number its ≡ 0 → ⊥
    by level.Minor e = omega (arith, e)
    by level.Intermediate e = omega (arith, e)
    by level.Major e = omega (arith, e)
    by level.Final e = omega (arith, e)

-- a line that speaks of the spacing of a kind is the only one that does
module _ (kind : ℕ) (rest : List Line) (its_kind : BodyLine) (same_kind : kind_number its_kind ≡ kind) where
  other-kind : (its : BodyLine) → is_same_body its its_kind ≡ false → (kind_number its == kind) ≡ false
  other-kind its apart = by (kind_number its == kind) refl
    where
      by : (b : Bool) → (kind_number its == kind) ≡ b → b ≡ false
      by false same = refl
      by true same =
          let one : kind_number its ≡ kind_number its_kind = grind (arith, nat_tests, same, same_kind) in
          let is_same = same-body its its_kind one in cc

  space-other : (spacing : Spacing) (statement : Statement) → repeats statement (says.Space its_kind spacing) ≡ false
      → spacing_from kind statement (spacing_of rest kind) ≡ spacing_of rest kind
  space-other spacing (says.Space its other) apart = rw (other-kind its apart) refl
  space-other spacing other apart = refl

  after-other : (follows : After) (statement : Statement) → repeats statement (says.After its_kind follows) ≡ false
      → after_from kind statement (after_of rest kind) ≡ after_of rest kind
  after-other follows (says.After its other) apart = rw (other-kind its apart) refl
  after-other follows other apart = refl

-- what is said of a spacing is the spacing, where things are said once
space-at : (lines : List Line) (line : Line) (kind : ℕ) (its : BodyLine) (spacing : Spacing) → IsSaidOnce lines → Contains lines line
    → line.statement ≡ says.Space its spacing → kind_number its ≡ kind → spacing_of lines kind ≡ spacing_number spacing
space-at [] line kind its spacing once (k, within, is) says_it same = absurd (omega (arith, within))
space-at (first ∷ rest) line kind its spacing once (zero, within, is) says_it same =
    let own : (kind_number its == kind) ≡ true = grind (arith, nat_tests, same) in
    let here : first.statement ≡ says.Space its spacing = ap (λ (l : Line). l.statement) is ∙ says_it in
    ap (λ statement. spacing_from kind statement (spacing_of rest kind)) here ∙ rw own refl
space-at (first ∷ rest) line kind its spacing once (suc k, within, is) says_it same =
    let listed : Contains rest line = (k, omega (arith, within), is) in
    let apart : repeats first.statement (says.Space its spacing) ≡ false =
    ap (λ statement. repeats first.statement statement) (sym says_it)
    ∙ none-any (λ other. repeats first.statement other.statement) rest line (once.0) listed in
    space-other kind rest its same spacing first.statement apart ∙ space-at rest line kind its spacing (once.1) listed says_it same

pub space-is : (lines : List Line) (kind many : ℕ) → IsSaidOnce lines → SaysSpace lines kind many → spacing_of lines kind ≡ many
space-is lines kind many once s =
    space-at lines s.line kind s.its_kind s.its_spacing once s.listed s.is_space s.same_kind ∙ s.same_spacing

-- what is said to follow a kind follows it, where things are said once
after-at : (lines : List Line) (line : Line) (kind : ℕ) (its : BodyLine) (follows : After) → IsSaidOnce lines → Contains lines line
    → line.statement ≡ says.After its follows → kind_number its ≡ kind → after_of lines kind ≡ Some follows
after-at [] line kind its follows once (k, within, is) says_it same = absurd (omega (arith, within))
after-at (first ∷ rest) line kind its follows once (zero, within, is) says_it same =
    let own : (kind_number its == kind) ≡ true = grind (arith, nat_tests, same) in
    let here : first.statement ≡ says.After its follows = ap (λ (l : Line). l.statement) is ∙ says_it in
    ap (λ statement. after_from kind statement (after_of rest kind)) here ∙ rw own refl
after-at (first ∷ rest) line kind its follows once (suc k, within, is) says_it same =
    let listed : Contains rest line = (k, omega (arith, within), is) in
    let apart : repeats first.statement (says.After its follows) ≡ false =
    ap (λ statement. repeats first.statement statement) (sym says_it)
    ∙ none-any (λ other. repeats first.statement other.statement) rest line (once.0) listed in
    after-other kind rest its same follows first.statement apart ∙ after-at rest line kind its follows (once.1) listed says_it same

pub after-is : (lines : List Line) (kind : ℕ) (follows : After) → IsSaidOnce lines → SaysAfter lines kind follows
    → after_of lines kind ≡ Some follows
after-is lines kind follows once s = after-at lines s.line kind s.its_kind follows once s.listed s.is_after s.same_kind
