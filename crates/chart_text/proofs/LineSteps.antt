-- Reading the lines of a chart one after another.
use Rattle.std.proofs.Common.{◌≡◌, ℕ, ◌+◌, ◌<◌, ◌≤◌, List, [], ◌∷◌, ◌++◌, length, Option, Some, None, Result, Ok, Err, unwrap_or, IfSome, refl, ap, ap₂, sym, ◌∙◌, append_assoc, append-nil, arith, suc, subst}
use Rattle.card_code.specs.Lines.{lines_of}
use Rattle.chart_lines.specs.ChartsWords.Chart.{Chart, NumbersRise}
use Rattle.std.proofs.Math.Numerals.{add-one}
use Rattle.chart_text.specs.ChartText.{line_of, number_if_coupled}
use Rattle.chart_text.specs.HelperText.{Content, with_lines, line_then, chart_from, content_of, Faults, TakesLine, RefusesLine}
use Rattle.chart_lines.specs.declared.charts.chart.Line.{Line}
use Rattle.chart_lines.specs.declared.charts.chart.Version.{Version}
use Rattle.chart_text.specs.declared.forms.Said.{Said}
use Rattle.chart_lines.specs.declared.tokens.frame.Content.TheVariants.{Says}
use Rattle.chart_text.specs.declared.fault.TextFault.{TextFault}
use Rattle.chart_text.specs.declared.fault.TextFault.TheVariants.{TooLarge, NoFirstLine, NotALine, NoEnd, Memory}

-- The lines that are read, before what the rest says, are what the text says, and their numbers rise up to the next.
pub record ReadsSoFar (version : Version) (lines : List Line) (coupled : List ℕ) (end : Option ℕ) (number : ℕ) (rest text : List ℕ) : Type 0 where
  pub same : with_lines lines coupled (chart_from version end number (lines_of rest)) ≡ chart_from version None 2 (lines_of text)
  pub rising : NumbersRise lines (unwrap_or end number)
  pub placed : IfSome end (λ e. e < number)
  pub numbered : number + length (lines_of rest) ≡ 2 + length (lines_of text)

pub with_lines-none : (read : Result Chart TextFault) → with_lines [] [] read ≡ read
with_lines-none (Ok chart) = refl
with_lines-none (Err fault) = refl

pub with_lines-push : (front : List Line) (line : Line) (coupled more : List ℕ) (read : Result Chart TextFault)
    → with_lines front coupled (with_lines (line ∷ []) more read) ≡ with_lines (front ++ line ∷ []) (coupled ++ more) read
with_lines-push front line coupled more (Ok chart) = ap₂
    (λ (ls : List Line) (ns : List ℕ).
    let c : Chart = record { version = chart.version; lines = ls; coupled = ns; end = chart.end } in Ok c)
    (sym (append_assoc front (line ∷ []) chart.lines)) (sym (append_assoc coupled more chart.coupled))
with_lines-push front line coupled more (Err fault) = refl

-- a line that says something is taken
pub taken_said : (said : Said) (number : ℕ) (old new : List Line) (coupled more : List ℕ) (end : Option ℕ)
    → end ≡ None → new ≡ old ++ line_of number said ∷ [] → more ≡ coupled ++ number_if_coupled number said
    → TakesLine (Says said) number old coupled end new more end
taken_said said number old new coupled more end none lines_are numbers_are others =
    ap (λ (e : Option ℕ). with_lines old coupled (line_then e number (Says said) others)) none
    ∙ with_lines-push old (line_of number said) coupled (number_if_coupled number said) (others None)
    ∙ ap₂ (λ (ls : List Line) (ns : List ℕ). with_lines ls ns (others None)) (sym lines_are) (sym numbers_are)
    ∙ ap (λ (e : Option ℕ). with_lines new more (others e)) (sym none)

-- numbers that rise up to a number rise up to a higher one
pub NumbersRise-more : (lines : List Line) (low high : ℕ) → low ≤ high → NumbersRise lines low → NumbersRise lines high
NumbersRise-more [] low high below rising = tt
NumbersRise-more (line ∷ []) low high below rising = omega (arith, rising)
NumbersRise-more (line ∷ next ∷ lines) low high below rising =
    (rising.0, NumbersRise-more (next ∷ lines) low high below rising.1)

-- a line of the next number
pub NumbersRise-push : (lines : List Line) (line : Line) (number end : ℕ) → line.number ≡ number → number < end
    → NumbersRise lines number → NumbersRise (lines ++ line ∷ []) end
NumbersRise-push [] line number end is below rising = omega arith
NumbersRise-push (first ∷ []) line number end is below rising = (omega (arith, rising), omega arith)
NumbersRise-push (first ∷ next ∷ lines) line number end is below rising =
    (rising.0, NumbersRise-push (next ∷ lines) line number end is below rising.1)

-- an empty line
pub NumbersRise-empty : (lines : List Line) (end : Option ℕ) (number : ℕ) → NumbersRise lines (unwrap_or end number)
    → NumbersRise lines (unwrap_or end (number + 1))
NumbersRise-empty lines None number rising = NumbersRise-more lines number (number + 1) (omega arith) rising
NumbersRise-empty lines (Some end) number rising = rising

-- a form
pub NumbersRise-form : (old new : List Line) (line : Line) (end : Option ℕ) (number : ℕ) → end ≡ None
    → line.number ≡ number → new ≡ old ++ line ∷ []
    → NumbersRise old (unwrap_or end number) → NumbersRise new (unwrap_or end (number + 1))
NumbersRise-form old new line end number none is pushed rising =
    let before_it : NumbersRise old number = subst (λ (e : Option ℕ). NumbersRise old (unwrap_or e number)) none
    rising in
    subst (λ (ls : List Line). NumbersRise ls (unwrap_or end (number + 1))) (sym pushed)
    (subst (λ (e : Option ℕ). NumbersRise (old ++ line ∷ []) (unwrap_or e (number + 1))) (sym none)
    (NumbersRise-push old line number (number + 1) is (omega arith) before_it))

-- the lines from a number on, by the first of them
chart_from-cons : (version : Version) (end : Option ℕ) (number : ℕ) (line : List ℕ) (lines : List (List ℕ))
    → chart_from version end number (line ∷ lines) ≡ line_then end number (content_of version line)
    (λ e. chart_from version e (suc number) lines)
unfolding chart_from
chart_from-cons version None number line lines = refl
chart_from-cons version (Some end) number line lines = refl

-- the rest of a text, by its first line
rest_from : (version : Version) (end : Option ℕ) (number : ℕ) (content : Content) (line rest after : List ℕ)
    → lines_of rest ≡ line ∷ lines_of after → content ≡ content_of version line
    → chart_from version end number (lines_of rest) ≡ line_then end number content
    (λ e. chart_from version e (suc number) (lines_of after))
rest_from version end number content line rest after first is =
    ap (chart_from version end number) first ∙ chart_from-cons version end number line (lines_of after)
    ∙ ap (λ c. line_then end number c (λ e. chart_from version e (suc number) (lines_of after))) (sym is)

-- one line more is read
pub same_more : (version : Version) (lines new : List Line) (coupled more : List ℕ) (end new_end : Option ℕ) (number : ℕ) (content : Content)
    (line rest after : List ℕ) (all : Result Chart TextFault)
    → lines_of rest ≡ line ∷ lines_of after → content ≡ content_of version line
    → TakesLine content number lines coupled end new more new_end
    → with_lines lines coupled (chart_from version end number (lines_of rest)) ≡ all
    → with_lines new more (chart_from version new_end (number + 1) (lines_of after)) ≡ all
same_more version lines new coupled more end new_end number content line rest after all first is takes same =
    ap (λ n. with_lines new more (chart_from version new_end n (lines_of after))) (add-one number)
    ∙ sym (takes (λ e. chart_from version e (suc number) (lines_of after)))
    ∙ ap (with_lines lines coupled) (sym (rest_from version end number content line rest after first is))
    ∙ same

-- one line is the fault
fault_of_all : (fault : TextFault) (lines : List Line) (coupled : List ℕ) (read all : Result Chart TextFault) → Faults fault read
    → with_lines lines coupled read ≡ all → Faults fault all
fault_of_all TooLarge lines coupled read all faults same = sym same ∙ ap (with_lines lines coupled) faults
fault_of_all NoFirstLine lines coupled read all faults same = sym same ∙ ap (with_lines lines coupled) faults
fault_of_all (NotALine line) lines coupled read all faults same = sym same ∙ ap (with_lines lines coupled) faults
fault_of_all NoEnd lines coupled read all faults same = sym same ∙ ap (with_lines lines coupled) faults
fault_of_all Memory lines coupled read all faults same = tt

pub fault_more : (version : Version) (lines : List Line) (coupled : List ℕ) (end : Option ℕ) (number : ℕ) (content : Content)
    (line rest after : List ℕ) (all : Result Chart TextFault) (fault : TextFault)
    → lines_of rest ≡ line ∷ lines_of after → content ≡ content_of version line → RefusesLine content number end fault
    → with_lines lines coupled (chart_from version end number (lines_of rest)) ≡ all → Faults fault all
fault_more version lines coupled end number content line rest after all fault first is refuses same =
    fault_of_all fault lines coupled (line_then end number content (λ e. chart_from version e (suc number) (lines_of after))) all
    (refuses (λ e. chart_from version e (suc number) (lines_of after)))
    (ap (with_lines lines coupled) (sym (rest_from version end number content line rest after first is)) ∙ same)

-- no line is left, after END
pub same_at_end : (version : Version) (lines : List Line) (coupled : List ℕ) (end : Option ℕ) (number last : ℕ) (rest : List ℕ)
    (all : Result Chart TextFault) (chart : Chart)
    → lines_of rest ≡ [] → end ≡ Some last → chart.version ≡ version → chart.lines ≡ lines → chart.coupled ≡ coupled → chart.end ≡ last
    → with_lines lines coupled (chart_from version end number (lines_of rest)) ≡ all → all ≡ Ok chart
unfolding chart_from
same_at_end version lines coupled end number last rest all chart none is same_version same_lines same_coupled same_end same =
    sym same
    ∙ ap (λ (e : Option ℕ). with_lines lines coupled (chart_from version e number (lines_of rest))) is
    ∙ ap (λ (ls : List (List ℕ)). with_lines lines coupled (chart_from version (Some last) number ls)) none
    ∙ rw (append-nil lines, append-nil coupled, sym same_version, sym same_lines, sym same_coupled, sym same_end) refl

-- no line is left, and there was no END
pub same_without_end : (version : Version) (lines : List Line) (coupled : List ℕ) (end : Option ℕ) (number : ℕ) (rest : List ℕ) (all : Result Chart TextFault)
    → lines_of rest ≡ [] → end ≡ None → with_lines lines coupled (chart_from version end number (lines_of rest)) ≡ all → all ≡ Err NoEnd
unfolding chart_from
same_without_end version lines coupled end number rest all none is same =
    sym same
    ∙ ap (λ (e : Option ℕ). with_lines lines coupled (chart_from version e number (lines_of rest))) is
    ∙ ap (λ (ls : List (List ℕ)). with_lines lines coupled (chart_from version None number ls)) none
