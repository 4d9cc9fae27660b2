-- The literals of charts that are read from a text.
use Rattle.std.proofs.Common.{◌≡◌, ◌∙◌, ap, subst, ℕ, zero, suc, List, Some, arith}
use Rattle.chart_lines.specs.ChartsWords.Chart.{Chart}
use Rattle.chart_text.specs.ChartText.{Reads, ReadsFrom, SaysIn, in_both, in_second, empty_line, form_line, end_line}
use Rattle.chart_text.specs.Forms.{Says, head, detail_literal, total_literal, coupled_amount}
use Rattle.chart_lines.specs.ChartsWords.Literal.{IsLiteralText}
use Rattle.chart_lines.specs.ChartsWords.Literals.{HaveLiteralTexts, literal_in}
use Rattle.chart_lines.specs.declared.charts.chart.Line.{Line}
use Rattle.chart_lines.specs.declared.charts.statement.Statement.{Statement}
use Rattle.chart_lines.specs.declared.charts.chart.Version.{Version}
use Rattle.chart_text.specs.declared.forms.Said.{Said}

-- a literal text by another name
same-text : (characters literal : List ℕ) → IsLiteralText characters → Some characters ≡ Some literal → IsLiteralText literal
same-text characters literal text same = let is : characters ≡ literal = cc in subst IsLiteralText is text

-- the literal of a line that is a form has print characters and blanks alone
form-literal : {tokens : List (List ℕ)} {statement : Statement} → Says tokens statement → (literal : List ℕ)
    → literal_in statement ≡ Some literal → IsLiteralText literal
form-literal (head line wheel is) literal same = same-text _ literal is.text same
form-literal (detail_literal wheel is) literal same = same-text _ literal is.text same
form-literal (total_literal level wheel is) literal same = same-text _ literal is.text same
form-literal other literal same = cc

said-literal : {version : Version} {tokens : List (List ℕ)} {said : Said} → SaysIn version tokens said → (literal : List ℕ)
    → literal_in said.statement ≡ Some literal → IsLiteralText literal
said-literal (in_both is) literal same = form-literal is literal same
said-literal (in_second (coupled_amount level wheel name digits mark)) literal same = cc

-- and so have those of the lines that are read
read-literals : {version : Version} {number end : ℕ} {lines : List (List ℕ)} {said : List Line} {coupled : List ℕ}
    → ReadsFrom version number lines said coupled end → HaveLiteralTexts said
read-literals (empty_line empty rest) line literal there same = read-literals rest line literal there same
read-literals (form_line form rest) line literal (zero, within, is) same =
    said-literal form.said literal (ap (λ (l : Line). literal_in l.statement) is ∙ same)
read-literals (form_line form rest) line literal (suc k, within, is) same =
    read-literals rest line literal (k, omega (arith, within), is) same
read-literals (end_line end empty) line literal (k, within, is) same = absurd (omega (arith, within))

pub read_literals : (text : List ℕ) (chart : Chart) → Reads text chart → HaveLiteralTexts chart.lines
read_literals text chart reads = read-literals reads.said
