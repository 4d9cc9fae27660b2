-- A line of the report that is drawn item by item, from the last one up.
use Rattle.std.proofs.Common.{◌≡◌, ◌∙◌, refl, sym, ap, ℕ, ◌+◌, ◌-◌, ◌<◌, ◌≤◌, List, [], ◌∷◌, Option, Some, length, drop, get_or, replicate, arith}
use Rattle.std.specs.List.{cons_option, filter_map}
use Rattle.std.proofs.lemmas.Grind.{same_number_lists}
use Rattle.std.proofs.lemmas.List.{drop_all, drop_more}
use Rattle.std.proofs.lemmas.List.FromFn.{get_or-map-range_with_len, length-map-range_with_len}
use Rattle.chart_lines.specs.declared.charts.chart.Line.{Line}
use Rattle.report_definition.specs.BodyLines.{Piece, char_at, line_of, piece_at}
use Rattle.cli_sheets.specs.SheetsWords.Helper.{over}

-- a line has 120 characters, and each is what stands on its wheel
pub length-line : (pieces : List Piece) → length (line_of pieces) ≡ 120
unfolding line_of
length-line pieces = length-map-range_with_len (char_at pieces) 1 120

pub at-wheel : (pieces : List Piece) (k : ℕ) → k < 120 → get_or (line_of pieces) k 0 ≡ char_at pieces (k + 1)
unfolding line_of
at-wheel pieces k less = get_or-map-range_with_len (char_at pieces) 1 120 k (k + 1) 0 less (omega arith)

-- a bare line
pub bare-line : replicate 120 32 ≡ line_of []
unfolding line_of
bare-line = refl

-- a text put over a line is its first piece
pub put-over : (first : ℕ) (text old new : List ℕ) (pieces : List Piece) → old ≡ line_of pieces → length new ≡ 120
    → ((k : ℕ) → k < 120 → get_or new k 0 ≡ over first text (k + 1) (get_or old k 0)) → new ≡ line_of (piece_at first text ∷ pieces)
put-over first text old new pieces before long each =
    same_number_lists new (line_of (piece_at first text ∷ pieces)) (long ∙ sym (length-line (piece_at first text ∷ pieces)))
    (λ k less.
    let within : k < 120 = omega (arith, less, long) in
    each k within
    ∙ ap (λ (below : ℕ). over first text (k + 1) below) (ap (λ (line : List ℕ). get_or line k 0) before ∙ at-wheel pieces k within)
    ∙ sym (at-wheel (piece_at first text ∷ pieces) k within))

-- the pieces of the lines before a place, with the one line more
module _ (puts : Line → Option Piece) (lines : List Line) (above : ℕ) (line : Line) (some : 0 < above) (within : above ≤ length lines)
    (is : get_or lines (above - 1) line ≡ line) where
  one-more : filter_map puts (drop (above - 1) lines) ≡ cons_option (puts line) (filter_map puts (drop above lines))
  one-more =
      let next : above - 1 + 1 ≡ above = omega (arith, some) in
      ap (filter_map puts) (drop_more lines (above - 1) line (omega (arith, some, within)))
      ∙ ap (λ (l : Line). cons_option (puts l) (filter_map puts (drop (above - 1 + 1) lines))) is
      ∙ ap (λ (n : ℕ). cons_option (puts line) (filter_map puts (drop n lines))) next

  -- a line that puts a text there
  pub piece-some : (first : ℕ) (text old new : List ℕ) → puts line ≡ Some (piece_at first text)
      → old ≡ line_of (filter_map puts (drop above lines)) → length new ≡ 120
      → ((k : ℕ) → k < 120 → get_or new k 0 ≡ over first text (k + 1) (get_or old k 0))
      → new ≡ line_of (filter_map puts (drop (above - 1) lines))
  piece-some first text old new puts_it before long each =
      put-over first text old new (filter_map puts (drop above lines)) before long each
      ∙ ap line_of (sym (one-more ∙ ap (λ (p : Option Piece). cons_option p (filter_map puts (drop above lines))) puts_it))

-- no line yet
pub none-drawn : (puts : Line → Option Piece) (lines : List Line) (above : ℕ) → length lines ≤ above
    → replicate 120 32 ≡ line_of (filter_map puts (drop above lines))
none-drawn puts lines above all = bare-line ∙ ap (λ (l : List Line). line_of (filter_map puts l)) (sym (drop_all above lines all))
