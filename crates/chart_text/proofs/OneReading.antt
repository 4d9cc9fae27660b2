-- A line says one thing at most.
use Rattle.std.proofs.Common.{◌≡◌, ℕ, List, sym, ◌∙◌}
use Rattle.chart_lines.specs.declared.charts.chart.Version.{Version}
use Rattle.chart_lines.specs.declared.charts.chart.Version.TheVariants.{First}
use Rattle.chart_lines.specs.TokensWords.Frame.{IsEmptyLine, IsEndLine}
use Rattle.chart_text.specs.ChartText.{IsFormLine}
use Rattle.chart_text.specs.declared.forms.Said.{Said}
use Rattle.chart_lines.specs.declared.tokens.frame.Content.TheVariants.{Empty, End, Says}
use Rattle.chart_text.proofs.ChartGrammar.{empty_read, end_read, form_read}

pub one_statement : (version : Version) (line : List ℕ) (one other : Said) → IsFormLine version line one → IsFormLine version line other
    → one ≡ other
one_statement version line one other is also =
    let same : Says one ≡ Says other = sym (form_read version line one is) ∙ form_read version line other also in
    cc

pub end_is_no_form : (version : Version) (line : List ℕ) (said : Said) → IsEndLine line → ¬ IsFormLine version line said
end_is_no_form version line said end form =
    let same : End ≡ Says said = sym (end_read version line end) ∙ form_read version line said form in
    cc

pub empty_is_no_form : (version : Version) (line : List ℕ) (said : Said) → IsEmptyLine line → ¬ IsFormLine version line said
empty_is_no_form version line said empty form =
    let same : Empty ≡ Says said = sym (empty_read version line empty) ∙ form_read version line said form in
    cc

pub empty_is_no_end : (line : List ℕ) → IsEmptyLine line → ¬ IsEndLine line
empty_is_no_end line empty end =
    let same : Empty ≡ End = sym (empty_read First line empty) ∙ end_read First line end in
    cc
