-- Steps of the loop that lists the faults of the lines.
use Rattle.std.proofs.Common.{◌≡◌, ℕ, suc, ◌+◌, ◌≤◌, List, [], ◌∷◌, ◌++◌, length, take, drop, slice_get, Some, refl, sym, ap, ◌∙◌, append_assoc, append-nil, subst}
use Rattle.std.proofs.Math.Seq.{drop-cons, take-suc}
use Rattle.std.proofs.Math.ListN.{drop_of_length-le}
use Rattle.std.proofs.Math.Numerals.{suc-eq-add-one}
use Rattle.std.proofs.lemmas.Option.{slice_get_within, get_or_from_slice_get}
use Rattle.chart_lines.specs.ChartsWords.Chart.{Chart}
use Rattle.chart_lines.specs.declared.charts.chart.Line.{Line}
use Rattle.fault_chart_words.specs.declared.listing.BrokenRule.{BrokenRule}
use Rattle.fault_chart_words.specs.HelperLists.{faults_at, faults_from}

-- the list so far and the faults of the lines that are left are those of all lines
abbrev pub ListedTo : Chart → ℕ → List BrokenRule → Type 0
ListedTo chart count list = list ++ faults_from chart (take count chart.lines) (drop count chart.lines) ≡ faults_from chart [] chart.lines

-- the first of some lines, and the others
faults_from-cons : (chart : Chart) (earlier : List Line) (line : Line) (lines : List Line)
    → faults_from chart earlier (line ∷ lines) ≡ faults_at chart earlier line ++ faults_from chart (earlier ++ line ∷ []) lines
unfolding faults_from
faults_from-cons chart earlier line lines = refl

ListedTo-suc : (chart : Chart) (count : ℕ) (list : List BrokenRule) (line : Line) → slice_get chart.lines count ≡ Some line
    → ListedTo chart count list → ListedTo chart (suc count) (list ++ faults_at chart (take count chart.lines) line)
ListedTo-suc chart count list line at listed =
    let within = slice_get_within chart.lines count line at in
    let is = get_or_from_slice_get chart.lines count line line at in
    let left : drop count chart.lines ≡ line ∷ drop (suc count) chart.lines =
    drop-cons chart.lines count line within ∙ ap (λ each. each ∷ drop (suc count) chart.lines) is in
    let front : take (suc count) chart.lines ≡ take count chart.lines ++ line ∷ [] =
    take-suc chart.lines count line within ∙ ap (λ each. take count chart.lines ++ each ∷ []) is in
    let here = faults_at chart (take count chart.lines) line in
    let step : faults_from chart (take count chart.lines) (drop count chart.lines)
    ≡ here ++ faults_from chart (take (suc count) chart.lines) (drop (suc count) chart.lines) =
    ap (faults_from chart (take count chart.lines)) left
    ∙ faults_from-cons chart (take count chart.lines) line (drop (suc count) chart.lines)
    ∙ ap (λ before. here ++ faults_from chart before (drop (suc count) chart.lines)) (sym front) in
    append_assoc list here (faults_from chart (take (suc count) chart.lines) (drop (suc count) chart.lines))
    ∙ ap (λ rest. list ++ rest) (sym step)
    ∙ listed

-- one line more
pub ListedTo-more : (chart : Chart) (count : ℕ) (list : List BrokenRule) (line : Line) → slice_get chart.lines count ≡ Some line
    → ListedTo chart count list → ListedTo chart (count + 1) (list ++ faults_at chart (take count chart.lines) line)
ListedTo-more chart count list line at listed =
    subst (λ (n : ℕ). ListedTo chart n (list ++ faults_at chart (take count chart.lines) line)) (suc-eq-add-one count)
    (ListedTo-suc chart count list line at listed)

-- all lines
pub ListedTo-all : (chart : Chart) (count : ℕ) (list : List BrokenRule) → length chart.lines ≤ count → ListedTo chart count list
    → list ≡ faults_from chart [] chart.lines
unfolding faults_from
ListedTo-all chart count list all listed =
    sym (append-nil list)
    ∙ ap (λ lines. list ++ faults_from chart (take count chart.lines) lines) (sym (drop_of_length-le chart.lines all))
    ∙ listed
