-- The open totals of a chart before the first card, line by line.
use Rattle.std.proofs.Common.{◌≡◌, ◌∙◌, sym, ap, subst, ℕ, ◌+◌, ◌<◌, ◌≤◌, List, [], ◌∷◌, ◌++◌, Contains, Option, Some, None, slice_get, length, length-append, get_or, take, drop, append-nil, arith}
use Rattle.std.specs.List.{All, cons_option}
use Rattle.std.proofs.lemmas.List.{take-append-drop, take_all, take_more}
use Rattle.std.proofs.lemmas.List.Elements.{filter_map-append}
use Rattle.chart_lines.specs.ChartsWords.Chart.{Chart}
use Rattle.chart_lines.specs.declared.charts.chart.Line.{Line}
use Rattle.chart_rules.specs.Rules.{IsLawful}
use Rattle.report_definition.specs.Breaks.{no_cards}
use Rattle.report_misfits.specs.HelperNumbers.{AreNumbered, AreWith, IsNamedAmount, fields_of_amounts}
use Rattle.report_misfits.specs.HelperTotals.{IsKept}
use Rattle.report_misfits.specs.OpenTotals.{open_on, open_totals}
use Rattle.report_misfits.specs.declared.open_total.Amount.{Amount}
use Rattle.report_misfits.specs.declared.open_total.OpenTotal.{OpenTotal}
use Rattle.report_misfits.proofs.FewTotals.{few_totals}
use Rattle.report_misfits.proofs.LawfulTotals.{kept_at_first, kept_line, named_line}
use Rattle.report_misfits.proofs.Numbering.{few-more, named-more, numbered-more}

-- one line more
more : (lines given : List Line) (i : ℕ) (line : Line) (o : Option OpenTotal) → given ≡ lines → i < length given
    → line ≡ get_or given i line → open_on lines no_cards line.statement ≡ o
    → open_totals lines no_cards (take (i + 1) lines) ≡ open_totals lines no_cards (take i lines) ++ cons_option o []
more lines given i line o same within at is =
    ap (open_totals lines no_cards) longer
    ∙ filter_map-append (λ (each : Line). open_on lines no_cards each.statement) (take i lines) (line ∷ [])
    ∙ ap (λ one. open_totals lines no_cards (take i lines) ++ cons_option one []) is
  where
    longer : take (i + 1) lines ≡ take i lines ++ line ∷ []
    longer =
        ap (take (i + 1)) (sym same)
        ∙ take_more given i line within
        ∙ ap (λ each. take i given ++ each ∷ []) (sym at)
        ∙ ap (λ l. take i l ++ line ∷ []) same

pub one_line : (lines given : List Line) (i : ℕ) (line : Line) (total : OpenTotal) (old new : List OpenTotal) → given ≡ lines
    → i < length given → line ≡ get_or given i line → old ≡ open_totals lines no_cards (take i lines)
    → open_on lines no_cards line.statement ≡ Some total → new ≡ old ++ total ∷ [] → new ≡ open_totals lines no_cards (take (i + 1) lines)
one_line lines given i line total old new same within at so_far opens is =
    is ∙ ap (λ l. l ++ total ∷ []) so_far ∙ sym (more lines given i line (Some total) same within at opens)

pub no_line : (lines given : List Line) (i : ℕ) (line : Line) (old : List OpenTotal) → given ≡ lines
    → i < length given → line ≡ get_or given i line → old ≡ open_totals lines no_cards (take i lines)
    → open_on lines no_cards line.statement ≡ None → old ≡ open_totals lines no_cards (take (i + 1) lines)
no_line lines given i line old same within at so_far none =
    so_far
    ∙ sym (append-nil (open_totals lines no_cards (take i lines)))
    ∙ sym (more lines given i line None same within at none)

-- there is room for one more
pub has_room : (chart : Chart) (given : List Line) (i : ℕ) (line : Line) (total : OpenTotal) (old : List OpenTotal) → IsLawful chart
    → given ≡ chart.lines → i < length given → line ≡ get_or given i line → old ≡ open_totals chart.lines no_cards (take i chart.lines)
    → open_on chart.lines no_cards line.statement ≡ Some total → length old < 480
has_room chart given i line total old lawful same within at so_far opens =
    let most = few_totals chart no_cards (take (i + 1) chart.lines) (drop (i + 1) chart.lines) lawful (sym (take-append-drop (i + 1) chart.lines)) in
    let is = ap length (more chart.lines given i line (Some total) same within at opens) in
    let parts = length-append (open_totals chart.lines no_cards (take i chart.lines)) (total ∷ []) in
    let long = ap length so_far in
    omega (arith, most, is, parts, long)

-- What is kept once some lines were read: the open totals, the places of their amounts, and the amounts.
pub record IsOpened (lines : List Line) (i : ℕ) (totals : List OpenTotal) (places : List ℕ) (amounts : List Amount) : Type 0 where
  pub opened : totals ≡ open_totals lines no_cards (take i lines)
  pub numbered : AreNumbered totals places amounts
  pub named : All (IsNamedAmount lines) amounts
  pub few : length amounts ≤ length totals

-- an element of a list that is another
element : {X : Type 0} (xs given : List X) (i : ℕ) (x : X) → given ≡ xs → i < length given → x ≡ get_or given i x → Contains xs x
element xs given i x same within at = subst (λ l. Contains l x) same (i, within, sym at)

-- one total more
pub opened-one : (chart : Chart) (given : List Line) (i : ℕ) (line : Line) (total : OpenTotal) (place : ℕ)
    (totals more_totals : List OpenTotal) (places more_places : List ℕ) (amounts more_amounts : List Amount)
    → IsLawful chart → given ≡ chart.lines → i < length given → line ≡ get_or given i line → IsOpened chart.lines i totals places amounts
    → open_on chart.lines no_cards line.statement ≡ Some total → more_totals ≡ totals ++ total ∷ [] → more_places ≡ places ++ place ∷ []
    → AreWith total.field amounts more_amounts → slice_get (fields_of_amounts more_amounts) place ≡ Some total.field
    → IsOpened chart.lines (i + 1) more_totals more_places more_amounts
opened-one chart given i line total place totals more_totals places more_places amounts more_amounts lawful same within at so_far opens is is_place grows there =
    let numbered = numbered-more totals places amounts more_amounts total place so_far.numbered grows there in
    let kept = kept_line chart line total lawful (element chart.lines given i line same within at) opens in
    record {
      opened = one_line chart.lines given i line total totals more_totals same within at so_far.opened opens is;
      numbered = subst (λ l. AreNumbered l more_places more_amounts) (sym is)
          (subst (λ l. AreNumbered (totals ++ total ∷ []) l more_amounts) (sym is_place) numbered);
      named = named-more chart.lines amounts more_amounts total.field so_far.named grows kept.amount (named_line chart line total opens);
      few =
          let most = few-more amounts more_amounts total.field (length totals) grows so_far.few in
          let long = length-append totals (total ∷ []) in
          let e = ap length is in
          omega (arith, most, long, e);
    }

-- a line without one
pub opened-none : (lines given : List Line) (i : ℕ) (line : Line) (totals : List OpenTotal) (places : List ℕ) (amounts : List Amount)
    → given ≡ lines → i < length given → line ≡ get_or given i line → IsOpened lines i totals places amounts
    → open_on lines no_cards line.statement ≡ None → IsOpened lines (i + 1) totals places amounts
opened-none lines given i line totals places amounts same within at so_far none = record {
  opened = no_line lines given i line totals same within at so_far.opened none;
  numbered = so_far.numbered;
  named = so_far.named;
  few = so_far.few;
}

pub all_open : (lines given : List Line) (i : ℕ) (old : List OpenTotal) → given ≡ lines → length given ≤ i
    → old ≡ open_totals lines no_cards (take i lines) → old ≡ open_totals lines no_cards lines
all_open lines given i old same past so_far =
    so_far ∙ ap (open_totals lines no_cards) (ap (take i) (sym same) ∙ take_all i given past ∙ same)

pub all_kept : (chart : Chart) (given : List Line) (i : ℕ) (old : List OpenTotal) → IsLawful chart → given ≡ chart.lines → length given ≤ i
    → old ≡ open_totals chart.lines no_cards (take i chart.lines) → All (IsKept 0) old
all_kept chart given i old lawful same past so_far =
    subst (All (IsKept 0)) (sym (all_open chart.lines given i old same past so_far)) (kept_at_first chart lawful)
