-- A printed line is the line of the report where each item spells what the report puts at its wheels.
use Rattle.std.proofs.Common.{◌≡◌, ◌∙◌, refl, sym, ap, ap₂, ℕ, suc, pred, ◌+◌, ◌-◌, ◌<◌, ◌≤◌, ◌&&◌, not, nat_le, nat_lt, ◌||◌, cond, if◌then◌else◌, Bool, true, false, List, [], ◌∷◌, length, map, slice_index_or, Contains, Option, Some, None, arith}
use Rattle.std.specs.List.{filter_map, cons_option, range_with_len}
use Rattle.std.proofs.lemmas.List.{length-map, get_or-map}
use Rattle.std.proofs.lemmas.List.FromFn.{get_or-map-range_with_len, length-map-range_with_len}
use Rattle.wiring_table.specs.Below.chart_lines.ChartsWords.Chart.{Chart}
use Rattle.wiring_table.specs.Below.chart_lines.declared.charts.chart.Line.{Line}
use Rattle.wiring_table.specs.Below.chart_lines.declared.charts.statement.Statement.{Statement}
use Rattle.wiring_table.specs.Below.chart_line_rules.declared.print_rules.items.PrintedLine.{PrintedLine}
use Rattle.print_unit.specs.ZeroControl.{Wheel, character_of, is_zero, shown, printed_line}
use Rattle.print_unit.proofs.LeftNeighbours.{printed_from-freely}
use Rattle.print_unit.proofs.Ranges.{map-same}
use Rattle.report_definition.specs.BodyLines.{Piece, char_at, line_of}
use Rattle.proof_reports.specs.PrintedLines.Shown.{Shown, Characters, Amount, set_on, sets_of, wheel_of_shown, wheel_with, wheels_with}
use Rattle.proof_reports.proofs.PrintedLines.Characters.{received, blank-prints}
use Rattle.proof_reports.proofs.PrintedLines.ItemText.{Spells, item-prints}
use Rattle.proof_reports.proofs.PrintedLines.Sending.{covers, covers-true, sets_on}
use Rattle.proof_reports.proofs.PrintedLines.Significance.{printed_at, printed-wheels, given, IsBodyLine}

-- Both a line of the chart sends and puts nothing, or it puts at the item's wheels what they print.
abbrev pub PrintsPiece : (ℕ → ℕ) → Option Shown → Option Piece → Type 0
PrintsPiece prints None None = Unit {0}
PrintsPiece prints (Some shown) (Some piece) =
    (piece.wheel ≡ wheel_of_shown shown)
    × (map prints (range_with_len (wheel_of_shown shown) (length (sets_of shown))) ≡ piece.text)
PrintsPiece prints None (Some piece) = ⊥
PrintsPiece prints (Some shown) None = ⊥

-- the character of a piece on one of its wheels
on-piece : (prints : ℕ → ℕ) (wheel count v : ℕ) (text : List ℕ) → map prints (range_with_len wheel count) ≡ text → wheel ≤ v
    → v < wheel + count → slice_index_or text (v - wheel) 32 ≡ prints v
on-piece prints wheel count v text same low high =
    sym (ap (λ t. slice_index_or t (v - wheel) 32) same)
    ∙ get_or-map-range_with_len prints wheel count (v - wheel) v 32 (omega (arith, low, high)) (omega (arith, low))

-- the character on a wheel is what the wheel prints
line-at : (prints : ℕ → ℕ) (v : ℕ) (sends : Statement → Option Shown) (puts : Statement → Option Piece) (lines : List Line)
    → ((line : Line) → Contains lines line → PrintsPiece prints (sends line.statement) (puts line.statement))
    → (set_on (filter_map (λ l. sends l.statement) lines) v ≡ 0 → prints v ≡ 32)
    → char_at (filter_map (λ l. puts l.statement) lines) v ≡ prints v
line-at prints v sends puts [] each bare = sym (bare refl)
line-at prints v sends puts (first ∷ lines) each bare =
    by (sends first.statement) (puts first.statement) (each first (0, omega arith, refl)) bare
    (line-at prints v sends puts lines (λ line there. each line (later line there)))
  where
    sent : List Shown
    sent = filter_map (λ l. sends l.statement) lines

    pieces : List Piece
    pieces = filter_map (λ l. puts l.statement) lines

    later : (line : Line) → Contains lines line → Contains (first ∷ lines) line
    later line (k, within, is) = (suc k, omega (arith, within), is)

    by : (shown : Option Shown) (piece : Option Piece) → PrintsPiece prints shown piece
        → (set_on (cons_option shown sent) v ≡ 0 → prints v ≡ 32)
        → ((set_on sent v ≡ 0 → prints v ≡ 32) → char_at pieces v ≡ prints v)
        → char_at (cons_option piece pieces) v ≡ prints v
    by None None same bare rest = rest bare
    by None (Some piece) same bare rest = absurd same
    by (Some shown) None same bare rest = absurd same
    by (Some shown) (Some piece) same bare rest =
        ap₂ (λ wheel long.
        cond (nat_le wheel v && nat_lt v (wheel + long)) (slice_index_or piece.text (v - piece.wheel) 32) (char_at pieces v))
        same.0 (sym (ap length same.1) ∙ length-map-range_with_len prints (wheel_of_shown shown) (length (sets_of shown)))
        ∙ by_test (covers shown v) refl
      where
        by_test : (b : Bool) → covers shown v ≡ b
            → cond b (slice_index_or piece.text (v - piece.wheel) 32) (char_at pieces v) ≡ prints v
        by_test true test =
            let on = covers-true shown v test in
            ap (λ wheel. slice_index_or piece.text (v - wheel) 32) same.0
            ∙ on-piece prints (wheel_of_shown shown) (length (sets_of shown)) v piece.text same.1 on.0 on.1
        by_test false test =
            rest (λ empty.
            bare (ap (λ b. cond b (slice_index_or (sets_of shown) (v - wheel_of_shown shown) 0) (set_on sent v)) test ∙ empty))

-- a wheel that received nothing is blank, with significance or without
blank-shown : (has : Bool) (wheel : Wheel) → character_of wheel.received ≡ 32 → shown has wheel ≡ 32
blank-shown has wheel blank = by (not has && (wheel.symbol || wheel.suppress && is_zero wheel.received))
  where
    by : (b : Bool) → (if b then 32 else character_of wheel.received) ≡ 32
    by true = refl
    by false = blank

-- Both nothing is sent and put, or the item spells what is put at its first wheel.
abbrev pub SpellsPiece : Option Shown → Option Piece → Type 0
SpellsPiece None None = Unit {0}
SpellsPiece (Some shown) (Some piece) = (piece.wheel ≡ wheel_of_shown shown) × Spells shown piece.text
SpellsPiece None (Some piece) = ⊥
SpellsPiece (Some shown) None = ⊥

-- so many wheels of a body line print what the report puts there
body-wheels : (chart : Chart) (link suppress symbol : ℕ → Bool) (kind : PrintedLine → Bool) (sends : Statement → Option Shown)
    (puts : Statement → Option Piece) → IsBodyLine chart link suppress symbol kind sends
    → ((line : Line) → Contains chart.lines line → SpellsPiece (sends line.statement) (puts line.statement)) → (count : ℕ)
    → printed_line true (map (wheel_with link suppress symbol (sets_on chart sends)) (range_with_len 1 count))
    ≡ map (char_at (filter_map (λ l. puts l.statement) chart.lines)) (range_with_len 1 count)
body-wheels chart link suppress symbol kind sends puts is each count =
    printed-wheels link suppress symbol (sets_on chart sends) 0 count
    ∙ map-same prints (char_at (filter_map (λ l. puts l.statement) chart.lines)) 1 count
    (λ v low high. sym (line-at prints v sends puts chart.lines piece (bare v)))
  where
    prints : ℕ → ℕ
    prints = printed_at link suppress symbol (sets_on chart sends)

    bare : (v : ℕ) → sets_on chart sends v ≡ 0 → prints v ≡ 32
    bare v empty =
        blank-shown (link v && given link (sets_on chart sends) (pred v)) (wheel_with link suppress symbol (sets_on chart sends) v)
        (ap (λ set. character_of (received set)) empty ∙ blank-prints)

    by : (line : Line) → Contains chart.lines line → (shown : Option Shown) (piece : Option Piece)
        → sends line.statement ≡ shown → SpellsPiece shown piece → PrintsPiece prints shown piece
    by line there None None sent spelled = tt
    by line there None (Some piece) sent spelled = absurd spelled
    by line there (Some item) None sent spelled = absurd spelled
    by line there (Some item) (Some piece) sent spelled =
        (spelled.0, item-prints chart link suppress symbol kind sends item piece.text is line there sent spelled.1)

    piece : (line : Line) → Contains chart.lines line → PrintsPiece prints (sends line.statement) (puts line.statement)
    piece line there = by line there (sends line.statement) (puts line.statement) refl (each line there)

-- a body line prints as the report has it
pub body-line : (chart : Chart) (link suppress symbol : ℕ → Bool) (kind : PrintedLine → Bool) (sends : Statement → Option Shown)
    (puts : Statement → Option Piece) → IsBodyLine chart link suppress symbol kind sends
    → ((line : Line) → Contains chart.lines line → SpellsPiece (sends line.statement) (puts line.statement))
    → printed_line true (wheels_with link suppress symbol (sets_on chart sends))
    ≡ line_of (filter_map (λ l. puts l.statement) chart.lines)
unfolding line_of
body-line chart link suppress symbol kind sends puts is each =
    body-wheels chart link suppress symbol kind sends puts is each 120

-- Both nothing is sent and put, or the characters that are sent spell what is put at the first of their wheels.
abbrev pub SpellsText : Option Shown → Option Piece → Type 0
SpellsText (Some (Characters wheel sets)) (Some piece) =
    (piece.wheel ≡ wheel) × (map (λ set. character_of (received set)) sets ≡ piece.text)
SpellsText (Some (Amount wheel figure columns negative)) (Some piece) = ⊥
SpellsText None None = Unit {0}
SpellsText None (Some piece) = ⊥
SpellsText (Some shown) None = ⊥

-- the character on a wheel of a line of texts is what comes there; where texts meet, both take the first
text-at : (v : ℕ) (sends : Statement → Option Shown) (puts : Statement → Option Piece) (lines : List Line)
    → ((line : Line) → Contains lines line → SpellsText (sends line.statement) (puts line.statement))
    → char_at (filter_map (λ l. puts l.statement) lines) v
    ≡ character_of (received (set_on (filter_map (λ l. sends l.statement) lines) v))
text-at v sends puts [] each = sym blank-prints
text-at v sends puts (first ∷ lines) each =
    by (sends first.statement) (puts first.statement) (each first (0, omega arith, refl))
    (text-at v sends puts lines (λ line there. each line (later line there)))
  where
    sent : List Shown
    sent = filter_map (λ l. sends l.statement) lines

    pieces : List Piece
    pieces = filter_map (λ l. puts l.statement) lines

    later : (line : Line) → Contains lines line → Contains (first ∷ lines) line
    later line (k, within, is) = (suc k, omega (arith, within), is)

    prints : ℕ → ℕ
    prints set = character_of (received set)

    by : (item : Option Shown) (piece : Option Piece) → SpellsText item piece → char_at pieces v ≡ prints (set_on sent v)
        → char_at (cons_option piece pieces) v ≡ prints (set_on (cons_option item sent) v)
    by None None spelled rest = rest
    by None (Some piece) spelled rest = absurd spelled
    by (Some item) None spelled rest = absurd spelled
    by (Some (Amount wheel figure columns negative)) (Some piece) spelled rest = absurd spelled
    by (Some (Characters wheel sets)) (Some piece) spelled rest =
        ap₂ (λ from long.
        cond (nat_le from v && nat_lt v (from + long)) (slice_index_or piece.text (v - from) 32) (char_at pieces v))
        spelled.0 (sym (ap length spelled.1) ∙ length-map sets prints)
        ∙ by_test (covers (Characters wheel sets) v) refl
      where
        by_test : (b : Bool) → covers (Characters wheel sets) v ≡ b
            → cond b (slice_index_or piece.text (v - wheel) 32) (char_at pieces v)
            ≡ prints (cond b (slice_index_or sets (v - wheel) 0) (set_on sent v))
        by_test true test =
            let on = covers-true (Characters wheel sets) v test in
            sym (ap (λ t. slice_index_or t (v - wheel) 32) spelled.1)
            ∙ get_or-map prints sets (v - wheel) 0 32 (let low = on.0 in let high = on.1 in omega (arith, low, high))
        by_test false test = rest

-- so many wheels of a line of texts print, without zero control, what the report puts there
text-wheels : (chart : Chart) (link suppress symbol : ℕ → Bool) (sends : Statement → Option Shown) (puts : Statement → Option Piece)
    → ((line : Line) → Contains chart.lines line → SpellsText (sends line.statement) (puts line.statement)) → (count : ℕ)
    → printed_line false (map (wheel_with link suppress symbol (sets_on chart sends)) (range_with_len 1 count))
    ≡ map (char_at (filter_map (λ l. puts l.statement) chart.lines)) (range_with_len 1 count)
text-wheels chart link suppress symbol sends puts each count =
    printed_from-freely false (map (wheel_with link suppress symbol (sets_on chart sends)) (range_with_len 1 count))
    ∙ characters (range_with_len 1 count)
    ∙ map-same prints (char_at (filter_map (λ l. puts l.statement) chart.lines)) 1 count
    (λ v low high. sym (text-at v sends puts chart.lines each))
  where
    prints : ℕ → ℕ
    prints v = character_of (received (sets_on chart sends v))

    characters : (wheels : List ℕ)
        → map (λ wheel. character_of wheel.received) (map (wheel_with link suppress symbol (sets_on chart sends)) wheels)
        ≡ map prints wheels
    characters [] = refl
    characters (v ∷ wheels) = ap (λ line. prints v ∷ line) (characters wheels)

-- a line of texts prints as the report has it
pub text-line : (chart : Chart) (link suppress symbol : ℕ → Bool) (sends : Statement → Option Shown) (puts : Statement → Option Piece)
    → ((line : Line) → Contains chart.lines line → SpellsText (sends line.statement) (puts line.statement))
    → printed_line false (wheels_with link suppress symbol (sets_on chart sends))
    ≡ line_of (filter_map (λ l. puts l.statement) chart.lines)
unfolding line_of
text-line chart link suppress symbol sends puts each =
    text-wheels chart link suppress symbol sends puts each 120
