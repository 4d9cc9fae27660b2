-- Two cards are not the same at a level exactly where they differ in a column of a control field of the level.
use Rattle.std.proofs.Common.{◌≡◌, ◌∙◌, refl, ap, ℕ, zero, suc, ◌+◌, ◌<◌, ◌==◌, ◌&&◌, Bool, true, false, List, [], ◌∷◌, Contains, Option, Some, None, arith, if◌then◌else◌}
use Rattle.std.proofs.lemmas.Bool.Decides.{nat_tests}
use Rattle.std.proofs.lemmas.List.Folds.{list_all_at}
use Rattle.std.proofs.lemmas.List.FromFn.{length-range_with_len, get_or-range_with_len}
use Rattle.std.specs.List.{cons_option, filter_map, list_all, range_with_len}
use Rattle.std.proofs.lemmas.Bool.{and_right}
use Rattle.wiring_table.specs.Below.chart_line_rules.FieldRules.Fields.{field_named}
use Rattle.wiring_table.specs.Below.chart_rules.Controls.{control_on}
use Rattle.wiring_table.specs.Below.chart_rules.ValidCard.{column_of}
use Rattle.wiring_table.specs.Below.chart_lines.ChartsWords.Field.{columns_of}
use Rattle.wiring_table.specs.Below.chart_lines.ChartsWords.Levels.{control_number}
use Rattle.wiring_table.specs.Below.chart_lines.declared.charts.chart.Line.{Line}
use Rattle.wiring_table.specs.Below.chart_lines.declared.charts.level.ControlLevel.{ControlLevel}
use Rattle.wiring_table.specs.Below.chart_lines.declared.charts.statement.Field.{Field}
use Rattle.wiring_table.specs.Below.chart_lines.declared.charts.statement.Statement.{Statement}
use Rattle.wiring_table.specs.Below.chart_lines.declared.charts.statement.Statement.TheVariants as says
use Rattle.report_definition.specs.Groups.{is_same_on, is_same_at}
use Rattle.proof_reports.specs.WiredPanels.PanelCycles.{Differs}
use Rattle.wiring_table.proofs.Below.chart_lines.ChartsWords.Listed.{listed-after}

-- A column of a row of them that fails a test.
record Fails (test : ℕ → Bool) (first many : ℕ) : Type 0 where
  place : ℕ
  within : place < many
  fails : test (first + place) ≡ false

range-fails : (test : ℕ → Bool) (first many : ℕ) → list_all test (range_with_len first many) ≡ false → Fails test first many
range-fails test first zero is = cc
range-fails test first (suc many) is = by (test first) refl is (λ left. after (range-fails test (first + 1) many left))
  where
    after : Fails test (first + 1) many → Fails test first (suc many)
    after f = let within = f.within in let place : first + suc f.place ≡ first + 1 + f.place = omega arith in
        record { place = suc f.place; within = omega (arith, within); fails = ap test place ∙ f.fails }

    by : (b : Bool) → test first ≡ b → (b && list_all test (range_with_len (first + 1) many)) ≡ false
        → (list_all test (range_with_len (first + 1) many) ≡ false → Fails test first (suc many)) → Fails test first (suc many)
    by true at left below = below left
    by false at left below =
        let place : first + 0 ≡ first = omega arith in
        record { place = 0; within = omega arith; fails = ap test place ∙ at }

fails-range : (test : ℕ → Bool) (first many place : ℕ) → place < many → test (first + place) ≡ false
    → list_all test (range_with_len first many) ≡ false
fails-range test first many place within fails =
    list_all_at test (range_with_len first many) place 0 (omega (arith, within, length-range_with_len first many))
    (ap test (get_or-range_with_len first many place 0 within) ∙ fails)

-- a control field of a level on which two cards are not the same
record FailsOn (whole lines : List Line) (level : ℕ) (card next : List ℕ) : Type 0 where
  line : Line
  listed : Contains lines line
  its_level : ControlLevel
  name : List ℕ
  field : Field
  controls : line.statement ≡ says.Control its_level name
  same_level : control_number its_level ≡ level
  named : field_named whole name ≡ Some field
  fails : is_same_on field card next ≡ false

abbrev are_same : List Line → List Line → ℕ → List ℕ → List ℕ → Bool
are_same whole lines level card next =
    list_all (λ field. is_same_on field card next) (filter_map (λ line. control_on whole level line.statement) lines)

fields-fail : (whole lines : List Line) (level : ℕ) (card next : List ℕ) → are_same whole lines level card next ≡ false
    → FailsOn whole lines level card next
fields-fail whole [] level card next is = cc
fields-fail whole (line ∷ lines) level card next is =
    by line.statement refl is (λ left. after (fields-fail whole lines level card next left))
  where
    after : FailsOn whole lines level card next → FailsOn whole (line ∷ lines) level card next
    after f = record {
      line = f.line;
      listed = listed-after line lines f.listed;
      its_level = f.its_level;
      name = f.name;
      field = f.field;
      controls = f.controls;
      same_level = f.same_level;
      named = f.named;
      fails = f.fails;
    }

    tested : (its : ControlLevel) (name : List ℕ) (field : Field) → line.statement ≡ says.Control its name → control_number its ≡ level
        → field_named whole name ≡ Some field → (b : Bool) → is_same_on field card next ≡ b → (b && are_same whole lines level card next) ≡ false
        → (are_same whole lines level card next ≡ false → FailsOn whole (line ∷ lines) level card next)
        → FailsOn whole (line ∷ lines) level card next
    tested its name field says_it same named true at left below = below left
    tested its name field says_it same named false at left below = record {
      line = line;
      listed = (0, omega arith, refl);
      its_level = its;
      name = name;
      field = field;
      controls = says_it;
      same_level = same;
      named = named;
      fails = at;
    }

    either : (its : ControlLevel) (name : List ℕ) → line.statement ≡ says.Control its name → control_number its ≡ level → (found : Option Field)
        → field_named whole name ≡ found
        → list_all (λ field. is_same_on field card next)
        (cons_option found (filter_map (λ line. control_on whole level line.statement) lines)) ≡ false
        → (are_same whole lines level card next ≡ false → FailsOn whole (line ∷ lines) level card next)
        → FailsOn whole (line ∷ lines) level card next
    either its name says_it same None named left below = below left
    either its name says_it same (Some field) named left below =
        tested its name field says_it same named (is_same_on field card next) refl left below

    of_level : (its : ControlLevel) (name : List ℕ) → line.statement ≡ says.Control its name → (b : Bool) → (control_number its == level) ≡ b
        → list_all (λ field. is_same_on field card next)
        (cons_option (if b then field_named whole name else None) (filter_map (λ line. control_on whole level line.statement) lines)) ≡ false
        → (are_same whole lines level card next ≡ false → FailsOn whole (line ∷ lines) level card next)
        → FailsOn whole (line ∷ lines) level card next
    of_level its name says_it true same left below =
        either its name says_it (grind (arith, nat_tests, same)) (field_named whole name) refl left below
    of_level its name says_it false same left below = below left

    by : (statement : Statement) → line.statement ≡ statement
        → list_all (λ field. is_same_on field card next)
        (cons_option (control_on whole level statement) (filter_map (λ line. control_on whole level line.statement) lines)) ≡ false
        → (are_same whole lines level card next ≡ false → FailsOn whole (line ∷ lines) level card next)
        → FailsOn whole (line ∷ lines) level card next
    by (says.Control its name) says_it left below = of_level its name says_it (control_number its == level) refl left below
    by other says_it left below = below left

-- a control field of a level on which they are not the same makes them differ at the level
fails-fields : (whole lines : List Line) (level : ℕ) (card next : List ℕ) (line : Line) (its : ControlLevel) (name : List ℕ) (field : Field)
    → Contains lines line → line.statement ≡ says.Control its name → control_number its ≡ level → field_named whole name ≡ Some field
    → is_same_on field card next ≡ false → are_same whole lines level card next ≡ false
fails-fields whole [] level card next line its name field (k, within, is) says_it same named fails = absurd (omega (arith, within))
fails-fields whole (first ∷ lines) level card next line its name field (zero, within, is) says_it same named fails =
    let here : first.statement ≡ says.Control its name = ap (λ (l : Line). l.statement) is ∙ says_it in
    let own : (control_number its == level) ≡ true = grind (arith, nat_tests, same) in
    ap (λ statement. list_all (λ f. is_same_on f card next)
    (cons_option (control_on whole level statement) (filter_map (λ l. control_on whole level l.statement) lines))) here
    ∙ rw (own, named, fails) refl
fails-fields whole (first ∷ lines) level card next line its name field (suc k, within, is) says_it same named fails =
    by (control_on whole level first.statement)
    (fails-fields whole lines level card next line its name field (k, omega (arith, within), is) says_it same named fails)
  where
    by : (found : Option Field) → are_same whole lines level card next ≡ false
        → list_all (λ f. is_same_on f card next)
        (cons_option found (filter_map (λ l. control_on whole level l.statement) lines)) ≡ false
    by None below = below
    by (Some its_field) below = and_right (is_same_on its_field card next) (are_same whole lines level card next) below

-- where two cards are not the same at a level
pub differs-where : (lines : List Line) (level : ℕ) (card next : List ℕ) → is_same_at lines level card next ≡ false
    → Differs lines level card next
differs-where lines level card next is =
    let f = fields-fail lines lines level card next is in
    let c = range-fails (λ column. column_of card column == column_of next column) f.field.first (columns_of f.field) f.fails in
    record {
      line = f.line;
      listed = f.listed;
      its_level = f.its_level;
      name = f.name;
      field = f.field;
      place = c.place;
      controls = f.controls;
      same_level = f.same_level;
      named = f.named;
      within = c.within;
      differs = c.fails;
    }

-- and the other way
pub where-differs : (lines : List Line) (level : ℕ) (card next : List ℕ) → Differs lines level card next
    → is_same_at lines level card next ≡ false
where-differs lines level card next d =
    fails-fields lines lines level card next d.line d.its_level d.name d.field d.listed d.controls d.same_level d.named
    (fails-range (λ column. column_of card column == column_of next column) d.field.first (columns_of d.field) d.place d.within d.differs)
