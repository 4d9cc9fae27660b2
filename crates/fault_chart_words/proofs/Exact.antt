-- What is left out follows from what is listed, and the lowest rule that is broken is listed.
use Rattle.std.proofs.Common.{◌≡◌, ℕ, ◌<◌, ◌≤◌, Bool, true, false, not, ◌&&◌, ◌||◌, nat_le, nat_lt, List, [], ◌∷◌, ◌++◌, refl, sym, ap, ◌∙◌, arith, true≢false, ◌⊎◌, inl, inr, subst}
use Rattle.std.proofs.lemmas.Bool.{cases_lt}
use Rattle.std.proofs.lemmas.Bool.Decides.{nat_tests}
use Rattle.std.specs.List.{list_any}
use Rattle.chart_lines.specs.ChartsWords.Field.{sign_column}
use Rattle.chart_lines.specs.ChartsWords.Chart.{Chart}
use Rattle.chart_lines.specs.declared.charts.chart.Line.{Line}
use Rattle.chart_lines.specs.declared.charts.statement.Statement.{Statement}
use Rattle.chart_lines.specs.declared.charts.statement.Statement.TheVariants as says
use Rattle.chart_line_rules.specs.FieldRules.Columns.{breaks_columns, has_good_sign}
use Rattle.chart_line_rules.specs.FieldRules.Fields.{fields_of}
use Rattle.chart_line_rules.specs.FieldRules.Names.{breaks_unknown_name, breaks_wrong_kind}
use Rattle.chart_line_rules.specs.PrintRules.Forms.{breaks_form, lacks_form}
use Rattle.chart_line_rules.specs.PrintRules.Tapes.{is_good_tape}
use Rattle.chart_rules.specs.declared.rule.Rule.{Rule}
use Rattle.chart_rules.specs.declared.rule.Rule.TheVariants as rule
use Rattle.chart_rules.specs.Rules as law
use Rattle.chart_rules.specs.Rules.{breaks_at, Broken, IsKept, IsFirstBroken, rule_number}
use Rattle.fault_chart_words.specs.declared.listing.BrokenRule.{BrokenRule}
use Rattle.fault_chart_words.specs.Listed.{has_no_columns, lacks_good_form, misnames, only_follows, Listed, by_line, by_end, HasAllListed, BeginsAsChecked, IsListedOrFollows, LeavesOutWhatFollows}

-- a test and another that fails
both : (one other : Bool) → one ≡ true → other ≡ false → (one && not other) ≡ true
both one other e f = rw (e, f) refl

-- the first of two tests that both pass
one_of : (one other : Bool) → (one && other) ≡ true → one ≡ true
one_of true other e = refl
one_of false other e = e

-- one of two tests passes
either : (one other : Bool) → (one || other) ≡ true → (one ≡ true) ⊎ (other ≡ true)
either true other e = inl refl
either false other e = inr e

-- one of four tests fails
one_fails : (one other third last : Bool) → other ≡ false → not (one && other && third && last) ≡ true
one_fails false other third last e = refl
one_fails true false third last e = refl
one_fails true true third last e = absurd (true≢false e)

-- a field without columns breaks the rule on columns
no_columns : (statement : Statement) → has_no_columns statement ≡ true → breaks_columns statement ≡ true
no_columns (says.Field field) e =
    one_fails (nat_le 1 field.first) (nat_le field.first field.last) (nat_le field.last 80) (has_good_sign (sign_column field.kind))
    (not_le field.last field.first e)
  where
    not_le : (last first : ℕ) → nat_lt last first ≡ true → nat_le first last ≡ false
    not_le last first below = grind (arith, nat_tests, below)
no_columns other e = absurd (true≢false (sym e))

-- a line of some lines that passes a test, between the others
passes : (test : Line → Bool) (lines : List Line) → list_any test lines ≡ true
    → (earlier : List Line) × (line : Line) × (later : List Line) × (lines ≡ earlier ++ line ∷ later) × (test line ≡ true)
passes test [] e = absurd (true≢false (sym e))
passes test (line ∷ lines) e = by (either (test line) (list_any test lines) e) (passes test lines)
  where
    by : (test line ≡ true) ⊎ (list_any test lines ≡ true)
        → (list_any test lines ≡ true
        → (earlier : List Line) × (each : Line) × (later : List Line) × (lines ≡ earlier ++ each ∷ later) × (test each ≡ true))
        → (earlier : List Line) × (each : Line) × (later : List Line) × (line ∷ lines ≡ earlier ++ each ∷ later) × (test each ≡ true)
    by (inl here) below = ([], line, lines, refl, here)
    by (inr later) below =
        let at = below later in
        (line ∷ at.0, at.1, at.2, ap (λ more. line ∷ more) at.3, at.4)

module _ (chart : Chart) (earlier : List Line) (line : Line) (later : List Line) (split : chart.lines ≡ earlier ++ line ∷ later) where
  -- a line whose name is at fault is listed for that
  misnamed : (above : Rule) → 25 < rule_number above → misnames chart line.statement ≡ true → IsListedOrFollows chart above line.number
  misnamed above higher wrong =
      by (either (breaks_unknown_name (fields_of chart.lines) line.statement) (breaks_wrong_kind (fields_of chart.lines) line.statement) wrong)
    where
      by : (breaks_unknown_name (fields_of chart.lines) line.statement ≡ true) ⊎ (breaks_wrong_kind (fields_of chart.lines) line.statement ≡ true)
          → IsListedOrFollows chart above line.number
      by (inl unknown) = inr (rule.UnknownName, line.number, omega (arith, higher), by_line earlier line later split (both _ false unknown refl))
      by (inr kind) = inr (rule.WrongKind, line.number, omega (arith, higher), by_line earlier line later split (both _ false kind refl))

  -- a tape in a chart without a good form
  formless : (statement : Statement) → only_follows rule.Tape chart statement ≡ true → lacks_good_form chart.lines ≡ true
  formless (says.Tape channel stops) e = one_of (lacks_good_form chart.lines) (is_good_tape 144 channel stops) e
  formless other e = absurd (true≢false (sym e))

  -- a chart without a good form is listed for that
  bad_form : lacks_good_form chart.lines ≡ true → IsListedOrFollows chart rule.Tape line.number
  bad_form wrong = by (either (lacks_form chart.lines) (list_any (λ each. breaks_form chart.lines each.statement) chart.lines) wrong)
    where
      by : (lacks_form chart.lines ≡ true) ⊎ (list_any (λ each. breaks_form chart.lines each.statement) chart.lines ≡ true)
          → IsListedOrFollows chart rule.Tape line.number
      by (inl lacking) = inr (rule.Form, chart.end, omega arith, by_end lacking)
      by (inr bad) =
          let at = passes (λ each. breaks_form chart.lines each.statement) chart.lines bad in
          inr (rule.Form, at.1.number, omega arith, by_line at.0 at.1 at.2 at.3 (both _ false at.4 refl))

  -- what only follows
  from_other : (broken : Rule) → only_follows broken chart line.statement ≡ true → IsListedOrFollows chart broken line.number
  from_other rule.TotalTextNotControl follows = misnamed rule.TotalTextNotControl (omega arith) follows
  from_other rule.CoupledMark follows = misnamed rule.CoupledMark (omega arith) follows
  from_other rule.Tape follows = bad_form (formless line.statement follows)
  from_other rule.AmountSize follows =
      inr (rule.Columns, line.number, omega arith, by_line earlier line later split (both _ false (no_columns line.statement follows) refl))
  from_other other follows = absurd (true≢false (sym follows))

  -- a line that breaks a rule
  by_rule : (broken : Rule) → breaks_at broken chart earlier line ≡ true → IsListedOrFollows chart broken line.number
  by_rule broken breaks = by (only_follows broken chart line.statement) refl
    where
      by : (follows : Bool) → only_follows broken chart line.statement ≡ follows → IsListedOrFollows chart broken line.number
      by true follows = from_other broken follows
      by false own = inl (by_line earlier line later split (both (breaks_at broken chart earlier line) (only_follows broken chart line.statement) breaks own))

-- nothing but what follows is left out
pub nothing_else : LeavesOutWhatFollows
nothing_else chart broken line is = by is
  where
    by : {line : ℕ} → Broken broken chart line → IsListedOrFollows chart broken line
    by (law.by_line earlier line later split breaks) = by_rule chart earlier line later split broken breaks
    by (law.by_end lacking) = inl (by_end lacking)

module _ (chart : Chart) where
  -- what is listed is broken
  pub broken_of : {broken : Rule} {line : ℕ} → Listed broken chart line → Broken broken chart line
  broken_of {broken} (by_line earlier line later split fault) =
      law.by_line earlier line later split (one_of (breaks_at broken chart earlier line) (not (only_follows broken chart line.statement)) fault)
  broken_of (by_end lacking) = law.by_end lacking

  -- the lowest rule that is broken is listed
  first_listed : (first : Rule) (line : ℕ) → IsFirstBroken chart first line → Listed first chart line
  unfolding IsKept
  first_listed first line is = by (nothing_else chart first line is.broken)
    where
      by : IsListedOrFollows chart first line → Listed first chart line
      by (inl listed) = listed
      by (inr (lower, other, below, listed)) = absurd (is.lowest_rule lower below other (broken_of listed))

  -- so a list of exactly what is listed begins with it by the rules' numbers
  pub begins : (list : List BrokenRule) → HasAllListed chart list → BeginsAsChecked chart list
  unfolding IsKept
  begins list all first line is = record {
    there = (all (record { line = line; rule = first })).1 (first_listed first line is);
    lowest_rule = λ other has. by other (broken_of ((all other).0 has)) (cases_lt (rule_number other.rule) (rule_number first));
    lowest_line = λ other has same. is.lowest_line other.line (subst (λ (r : Rule). Broken r chart other.line) same (broken_of ((all other).0 has)));
  }
    where
      by : (other : BrokenRule) → Broken other.rule chart other.line
          → (rule_number other.rule < rule_number first) ⊎ (rule_number first ≤ rule_number other.rule) → rule_number first ≤ rule_number other.rule
      by other broken (inl below) = absurd (is.lowest_rule other.rule below other.line broken)
      by other broken (inr above) = above
