-- Single tokens are exactly the levels, heading lines and spacings that their readers answer.
use Rattle.std.proofs.Common.{◌≡◌, ℕ, Bool, true, false, cond, eqb, List, Option, Some, refl, ap, sym, ◌∙◌, subst}
use Rattle.std.proofs.lemmas.Bool.{eqb-true}
use Rattle.std.proofs.lemmas.Option.{same_Some}
use Rattle.chart_lines.specs.TokensWords.Number.{IsNumber}
use Rattle.chart_lines.specs.TokensWords.NumberReading.{number_of}
use Rattle.chart_lines.proofs.TokensWords.Steps.{bound}
use Rattle.chart_lines.proofs.TokensWords.NumberGrammar.{number_is, number_read}
use Rattle.chart_lines.specs.ChartsWords.Levels.{level_number, level_with, control_number, control_with}
use Rattle.chart_lines.specs.ChartsWords.Headings.{heading_number, heading_with}
use Rattle.chart_lines.specs.ChartsWords.Spacings.{spacing_number, spacing_with}
use Rattle.chart_text.specs.HelperWords.{level_of, control_level_of, heading_line_of, spacing_lines_of}
use Rattle.chart_lines.specs.declared.charts.heading.HeadingLine.{HeadingLine}
use Rattle.chart_lines.specs.declared.charts.heading.HeadingLine.TheVariants as heading
use Rattle.chart_lines.specs.declared.charts.level.ControlLevel.{ControlLevel}
use Rattle.chart_lines.specs.declared.charts.level.ControlLevel.TheVariants as control
use Rattle.chart_lines.specs.declared.charts.level.Level.{Level}
use Rattle.chart_lines.specs.declared.charts.level.Level.TheVariants as level
use Rattle.chart_lines.specs.declared.charts.spacing.Spacing.{Spacing}
use Rattle.chart_lines.specs.declared.charts.spacing.Spacing.TheVariants as spacing

-- the next number to try: what has it, or one of the others
try_number : {A : Type 0} (number_of : A → ℕ) (n wanted : ℕ) (there x : A) (others : Option A)
    → number_of there ≡ wanted → cond (eqb n wanted) (Some there) others ≡ Some x
    → (others ≡ Some x → n ≡ number_of x) → n ≡ number_of x
try_number {A} number_of n wanted there x others has read later = by_test (eqb n wanted) refl read
  where
    by_test : (b : Bool) → eqb n wanted ≡ b → cond b (Some there) others ≡ Some x → n ≡ number_of x
    by_test true e r = eqb-true n wanted e ∙ sym has ∙ ap number_of (same_Some there x r)
    by_test false e r = later r

level_has : (n : ℕ) (l : Level) → level_with n ≡ Some l → n ≡ level_number l
level_has n l read =
    try_number level_number n 1 level.Minor l _ refl read λ r1.
    try_number level_number n 2 level.Intermediate l _ refl r1 λ r2.
    try_number level_number n 3 level.Major l _ refl r2 λ r3.
    try_number level_number n 4 level.Final l _ refl r3 λ r4. cc

control_has : (n : ℕ) (l : ControlLevel) → control_with n ≡ Some l → n ≡ control_number l
control_has n l read =
    try_number control_number n 1 control.Minor l _ refl read λ r1.
    try_number control_number n 2 control.Intermediate l _ refl r1 λ r2.
    try_number control_number n 3 control.Major l _ refl r2 λ r3. cc

heading_has : (n : ℕ) (h : HeadingLine) → heading_with n ≡ Some h → n ≡ heading_number h
heading_has n h read =
    try_number heading_number n 1 heading.First h _ refl read λ r1.
    try_number heading_number n 2 heading.Second h _ refl r1 λ r2.
    try_number heading_number n 3 heading.Third h _ refl r2 λ r3. cc

spacing_has : (n : ℕ) (s : Spacing) → spacing_with n ≡ Some s → n ≡ spacing_number s
spacing_has n s read =
    try_number spacing_number n 1 spacing.Single s _ refl read λ r1.
    try_number spacing_number n 2 spacing.Double s _ refl r1 λ r2.
    try_number spacing_number n 3 spacing.Triple s _ refl r2 λ r3. cc

level_numbered : (l : Level) → level_with (level_number l) ≡ Some l
level_numbered level.Minor = refl
level_numbered other = refl

control_numbered : (l : ControlLevel) → control_with (control_number l) ≡ Some l
control_numbered control.Minor = refl
control_numbered control.Intermediate = refl
control_numbered control.Major = refl

heading_numbered : (h : HeadingLine) → heading_with (heading_number h) ≡ Some h
heading_numbered heading.First = refl
heading_numbered heading.Second = refl
heading_numbered heading.Third = refl

spacing_numbered : (s : Spacing) → spacing_with (spacing_number s) ≡ Some s
spacing_numbered spacing.Single = refl
spacing_numbered spacing.Double = refl
spacing_numbered spacing.Triple = refl

-- what is read as a level is this level
pub level_is : (token : List ℕ) (l : Level) → level_of token ≡ Some l → IsNumber token (level_number l)
unfolding level_of
level_is token l read =
    let n = bound (number_of token) _ l read in
    subst (IsNumber token) (level_has n.0 l n.2) (number_is token n.0 n.1)

pub level_read : (token : List ℕ) (l : Level) → IsNumber token (level_number l) → level_of token ≡ Some l
unfolding level_of
level_read token l is = rw (number_read token (level_number l) is) (level_numbered l)

-- what is read as a control level is this one
pub control_level_is : (token : List ℕ) (l : ControlLevel) → control_level_of token ≡ Some l
    → IsNumber token (control_number l)
unfolding control_level_of
control_level_is token l read =
    let n = bound (number_of token) _ l read in
    subst (IsNumber token) (control_has n.0 l n.2) (number_is token n.0 n.1)

pub control_level_read : (token : List ℕ) (l : ControlLevel) → IsNumber token (control_number l)
    → control_level_of token ≡ Some l
unfolding control_level_of
control_level_read token l is = rw (number_read token (control_number l) is) (control_numbered l)

-- what is read as a heading line is this line
pub heading_line_is : (token : List ℕ) (h : HeadingLine) → heading_line_of token ≡ Some h
    → IsNumber token (heading_number h)
unfolding heading_line_of
heading_line_is token h read =
    let n = bound (number_of token) _ h read in
    subst (IsNumber token) (heading_has n.0 h n.2) (number_is token n.0 n.1)

pub heading_line_read : (token : List ℕ) (h : HeadingLine) → IsNumber token (heading_number h)
    → heading_line_of token ≡ Some h
unfolding heading_line_of
heading_line_read token h is = rw (number_read token (heading_number h) is) (heading_numbered h)

-- what is read as a spacing is this spacing
pub spacing_lines_is : (token : List ℕ) (s : Spacing) → spacing_lines_of token ≡ Some s
    → IsNumber token (spacing_number s)
unfolding spacing_lines_of
spacing_lines_is token s read =
    let n = bound (number_of token) _ s read in
    subst (IsNumber token) (spacing_has n.0 s n.2) (number_is token n.0 n.1)

pub spacing_lines_read : (token : List ℕ) (s : Spacing) → IsNumber token (spacing_number s)
    → spacing_lines_of token ≡ Some s
unfolding spacing_lines_of
spacing_lines_read token s is = rw (number_read token (spacing_number s) is) (spacing_numbered s)
