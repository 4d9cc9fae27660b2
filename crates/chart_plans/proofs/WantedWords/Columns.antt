-- The positions of a field's columns.
use Rattle.std.proofs.Common.{◌≡◌, ℕ, suc, ◌+◌, ◌<◌, ◌≤◌, List, [], ◌∷◌, ◌++◌, map, length, Option, Some, None, slice_get, take, drop, refl, sym, ap, ◌∙◌, arith, append_assoc, length-append, EachIndex, ◌≢◌}
use Rattle.std.proofs.Math.Seq.{take-append_seam}
use Rattle.std.proofs.lemmas.List.{length-take-le, take-append-drop}
use Rattle.std.proofs.lemmas.Option.{slice_get-get_or}
use Rattle.std.specs.List.{range_with_len}
use Rattle.std.proofs.lemmas.List.FromFn.{map-range_with_len_more, length-map-range_with_len, get_or-map-range_with_len}
use Rattle.chart_lines.specs.declared.charts.statement.Field.{Field}
use Rattle.chart_lines.specs.ChartsWords.Field.{columns_of}
use Rattle.chart_plans.specs.declared.wanted.position.Position.{Position}
use Rattle.chart_plans.specs.WantedWords.Positions.{positions_for}

-- the position of a column that a line names
abbrev pub at_column : ℕ → ℕ → Position
at_column line column = record { line = line; column = column }

-- one column more
pub columns-more : (front list new : List Position) (line first place column : ℕ)
    → list ≡ front ++ map (at_column line) (range_with_len first place) → column ≡ first + place
    → new ≡ list ++ at_column line column ∷ []
    → new ≡ front ++ map (at_column line) (range_with_len first (place + 1))
columns-more front list new line first place column were at pushed =
    let more = map-range_with_len_more (at_column line) first place column (sym at) in
    pushed ∙ ap (λ each. each ++ at_column line column ∷ []) were
    ∙ append_assoc front (map (at_column line) (range_with_len first place)) (at_column line column ∷ [])
    ∙ ap (λ each. front ++ each) (sym more)

-- all columns of a field
pub columns-all : (front list : List Position) (line : ℕ) (field : Field) (place : ℕ)
    → list ≡ front ++ map (at_column line) (range_with_len field.first place) → place ≡ columns_of field
    → list ≡ front ++ positions_for line (Some field)
unfolding positions_for
columns-all front list line field place were all = were ∙ ap (λ count. front ++ map (at_column line) (range_with_len field.first count)) all

-- a list that is shorter than a field has columns does not begin with their positions
pub columns-short : (list : List Position) (line : ℕ) (field : Field) → length list < columns_of field
    → (after : List Position) → list ≢ positions_for line (Some field) ++ after
unfolding positions_for
columns-short list line field short after e =
    absurd (omega (arith, ap length e, length-append (map (at_column line) (range_with_len field.first (columns_of field))) after, length-map-range_with_len (at_column line) field.first (columns_of field)))

-- a list has the positions of columns that follow one another
abbrev pub Follow : List Position → ℕ → ℕ → Type 0
Follow list line first = EachIndex list (λ place. slice_get list place ≡ Some (at_column line (first + place)))

-- a list whose positions follow one another is those of as many columns
pub Follow-columns : (list : List Position) (line first : ℕ) → Follow list line first
    → list ≡ map (at_column line) (range_with_len first (length list))
Follow-columns [] line first each = refl
Follow-columns (position ∷ list) line first each =
    let head : Some position ≡ Some (at_column line first) = each 0 (omega arith) ∙ ap (λ column. Some (at_column line column)) (omega arith) in
    let same : position ≡ at_column line first = cc in
    let tail : Follow list line (first + 1) = λ k lt. each (suc k) (omega arith) ∙ ap (λ column. Some (at_column line column)) (omega arith) in
    ap (λ p. p ∷ list) same ∙ ap (λ ps. at_column line first ∷ ps) (Follow-columns list line (first + 1) tail)

-- the positions of columns follow one another
pub columns-Follow : (list : List Position) (line first count : ℕ)
    → list ≡ map (at_column line) (range_with_len first count) → Follow list line first
columns-Follow list line first count e k lt =
    let long : length list ≡ count = ap length e ∙ length-map-range_with_len (at_column line) first count in
    ap (λ ps. slice_get ps k) e
    ∙ slice_get-get_or (map (at_column line) (range_with_len first count)) k (at_column line first) (omega (arith, length-map-range_with_len (at_column line) first count))
    ∙ ap Some (get_or-map-range_with_len (at_column line) first count k (first + k) (at_column line first) (omega arith) refl)

-- the front of a list is the positions of a field's columns
pub columns-front : (list front after : List Position) (line : ℕ) (field : Field) (count : ℕ) → count ≡ columns_of field
    → count ≤ length list → front ≡ take count list → after ≡ drop count list → Follow front line field.first
    → list ≡ positions_for line (Some field) ++ after
unfolding positions_for
columns-front list front after line field count all within is_front is_after follow =
    let long : length front ≡ columns_of field = ap length is_front ∙ length-take-le count list within ∙ all in
    sym (take-append-drop count list) ∙ ap (λ ps. ps ++ drop count list) (sym is_front) ∙ ap (λ ps. front ++ ps) (sym is_after)
    ∙ ap (λ ps. ps ++ after) (Follow-columns front line field.first follow ∙ ap (λ n. map (at_column line) (range_with_len field.first n)) long)

-- a list whose front is not the positions of a field's columns does not begin with them
pub columns-differ : (list front : List Position) (line : ℕ) (field : Field) (count : ℕ) → count ≡ columns_of field
    → front ≡ take count list → (Follow front line field.first → ⊥)
    → (after : List Position) → list ≢ positions_for line (Some field) ++ after
unfolding positions_for
columns-differ list front line field count all is_front differ after e =
    let columns = map (at_column line) (range_with_len field.first (columns_of field)) in
    let long : length columns ≡ count = length-map-range_with_len (at_column line) field.first (columns_of field) ∙ sym all in
    differ (columns-Follow front line field.first (columns_of field)
    (is_front ∙ ap (λ n. take n list) (sym long) ∙ ap (λ ps. take (length columns) ps) e ∙ take-append_seam columns after))

-- where no field is named there is no position
pub positions_for-none : (line : ℕ) (field : Option Field) → None ≡ field → positions_for line field ≡ []
unfolding positions_for
positions_for-none line None e = refl
positions_for-none line (Some field) e = cc
