-- The characters on the lines of a report: print characters and blanks alone.
use Rattle.std.proofs.Common.{◌≡◌, ◌∙◌, refl, subst, ℕ, zero, suc, ◌+◌, ◌-◌, ◌<◌, ◌%◌, ◌^◌, ◌/◌, ◌==◌, ◌&&◌, nat_le, nat_lt, Bool, true, false, List, [], ◌∷◌, ◌++◌, Option, Some, None, Contains, get_or, length, map, take, drop, replicate, option_map, if◌then◌else◌, arith, unsigned_abs}
use Rattle.std.specs.Int.{is_negative}
use Rattle.std.specs.List.{All, AllPass, list_all, filter_map, cons_option, flat_map, range_with_len}
use Rattle.std.proofs.lemmas.List.Elements.{All-nil, All-cons, All-head, All-tail, All-append, All-map, All-take, All-drop, All-replicate, All-weaker, All-contains_itself}
use Rattle.std.proofs.lemmas.List.FromFn.{get_or-range_with_len, length-range_with_len}
use Rattle.std.proofs.lemmas.List.Sums.{AllPass-from_list_all}
use Rattle.std.proofs.lemmas.Bool.{and_parts}
use Rattle.card_code.specs.CardCode.{code, character_in, deck_character, print_character, printed_for, rows_of}
use Rattle.page_text.specs.declared.placed_lines.placed_line.PlacedLine.{PlacedLine}
use Rattle.chart_lines.specs.ChartsWords.Field.{columns_of, decimals_of}
use Rattle.chart_lines.specs.ChartsWords.Headings.{heading_number}
use Rattle.chart_lines.specs.ChartsWords.Levels.{level_number}
use Rattle.chart_lines.specs.ChartsWords.Literal.{is_printable}
use Rattle.chart_lines.specs.ChartsWords.Literals.{HaveLiteralTexts, literal_in}
use Rattle.chart_lines.specs.declared.charts.chart.Line.{Line}
use Rattle.chart_lines.specs.declared.charts.statement.Field.{Field}
use Rattle.chart_lines.specs.declared.charts.statement.FieldKind.{FieldKind}
use Rattle.chart_lines.specs.declared.charts.statement.FieldKind.TheVariants as holds
use Rattle.chart_lines.specs.declared.charts.statement.Mark.{Mark}
use Rattle.chart_lines.specs.declared.charts.statement.Mark.TheVariants as mark
use Rattle.chart_lines.specs.declared.charts.statement.Statement.{Statement}
use Rattle.chart_lines.specs.declared.charts.statement.Statement.TheVariants as says
use Rattle.chart_rules.specs.Below.chart_line_rules.FieldRules.Fields.{field_named}
use Rattle.chart_rules.specs.Below.chart_line_rules.PrintRules.Items.{mark_shown, mark_width}
use Rattle.chart_rules.specs.ValidCard.{column_of}
use Rattle.report_definition.specs.Amounts.{columns_in, is_blank_on, value_of}
use Rattle.report_definition.specs.BodyLines.{Piece, piece_at, char_at, line_of, text_on, amount_on, field_on, is_shown, card_piece, card_line, a_card_of, total_piece, total_line, heading_piece, heading_line}
use Rattle.report_definition.specs.ChartForm.{heading_count, prints_details, prints_totals}
use Rattle.report_definition.specs.Edits.{last_digits, figure, without_leading_zeros, free_digits, point, mark_text, marked, edited, edited_digits, edited_blank}
use Rattle.report_definition.specs.Outline.{OutlineLine, Detail, Total, outline_of}
use Rattle.report_definition.specs.PageLaws.{HasPrintCharacters, ReportLinesPrint}
use Rattle.report_definition.specs.Places.{BodyText, Left, before_all, heading_on, headed, left_by, page_of, line_below, placed}
use Rattle.report_definition.specs.Report.{body_of, body_lines}
use Rattle.report_definition.specs.Totals.{total_of}

-- a text has print characters and blanks alone
abbrev Prints : List ℕ → Type 0
Prints = AllPass is_printable

abbrev IsPrinted : ℕ → Type 0
IsPrinted character = is_printable character ≡ true

blank : IsPrinted 32
unfolding rows_of code
blank = refl

-- what a wheel prints for the set of a deck character
is_coded : ℕ × ℕ → Bool
is_coded pair = is_printable (printed_for (Some pair.0))

all_coded : list_all is_coded code ≡ true
unfolding is_coded rows_of code
all_coded = refl

in-code : (pairs : List (ℕ × ℕ)) (set : ℕ) → list_all is_coded pairs ≡ true → IsPrinted (printed_for (character_in pairs set))
unfolding is_coded
in-code [] set all = blank
in-code (pair ∷ pairs) set all =
    let parts = and_parts (is_coded pair) (list_all is_coded pairs) all in
    by (pair.1 == set) parts.0 (in-code pairs set parts.1)
  where
    by : (b : Bool) → IsPrinted (printed_for (Some pair.0)) → IsPrinted (printed_for (character_in pairs set))
        → IsPrinted (printed_for (if b then Some pair.0 else character_in pairs set))
    by true here rest = here
    by false here rest = rest

-- a wheel prints a print character or a blank for every set of rows
set-prints : (set : ℕ) → IsPrinted (print_character set)
unfolding print_character deck_character
set-prints set = in-code code set all_coded

-- the figures of digits
is_figure : ℕ → Bool
is_figure digit = is_printable (figure digit)

all_figures : list_all is_figure (range_with_len 0 10) ≡ true
unfolding is_figure rows_of code
all_figures = refl

figure-prints : (digit : ℕ) → digit < 10 → IsPrinted (figure digit)
unfolding is_figure
figure-prints digit below =
    let at : get_or (range_with_len 0 10) digit 0 ≡ digit = get_or-range_with_len 0 10 digit 0 below ∙ omega arith in
    subst (λ d. is_figure d ≡ true) at
    (AllPass-from_list_all is_figure (range_with_len 0 10) all_figures digit 0 (rw (length-range_with_len 0 10) below))

-- all digits are below 10
abbrev AreSmall : List ℕ → Type 0
AreSmall = All (λ digit. digit < 10)

last_digits-small : (count number : ℕ) → AreSmall (last_digits count number)
last_digits-small zero number = All-nil (λ digit. digit < 10)
last_digits-small (suc count) number =
    All-cons (λ digit. digit < 10) (number / 10 ^ count % 10) (last_digits count number) (omega arith) (last_digits-small count number)

figures-print : (digits : List ℕ) → AreSmall digits → Prints (map figure digits)
figures-print digits small = All-map IsPrinted figure digits (λ k d within. figure-prints (get_or digits k d) (small k d within))

zeros-print : (digits : List ℕ) → AreSmall digits → Prints (without_leading_zeros digits)
zeros-print [] small = All-nil IsPrinted
zeros-print (digit ∷ digits) small =
    by (digit == 0) (zeros-print digits (All-tail (λ digit. digit < 10) digit digits small)) (figures-print (digit ∷ digits) small)
  where
    by : (b : Bool) → Prints (without_leading_zeros digits) → Prints (map figure (digit ∷ digits))
        → Prints (if b then 32 ∷ without_leading_zeros digits else map figure (digit ∷ digits))
    by true rest here = All-cons IsPrinted 32 (without_leading_zeros digits) blank rest
    by false rest here = here

-- points and marks
point-prints : (decimals : ℕ) → Prints (point decimals)
unfolding rows_of code
point-prints zero = All-nil IsPrinted
point-prints (suc decimals) = AllPass-from_list_all is_printable (46 ∷ []) refl

mark-prints : (mark : Mark) → Prints (mark_text mark)
unfolding rows_of code
mark-prints mark.Credit = AllPass-from_list_all is_printable (mark_text mark.Credit) refl
mark-prints mark.Minus = AllPass-from_list_all is_printable (mark_text mark.Minus) refl

marked-prints : (mark : Option Mark) (negative : Bool) → Prints (marked mark negative)
marked-prints None negative = All-nil IsPrinted
marked-prints (Some mark) true = mark-prints mark
marked-prints (Some mark) false = All-replicate IsPrinted (mark_width (Some mark)) 32 blank

-- edited amounts
digits-print : (digits : List ℕ) (decimals : ℕ) (mark : Option Mark) (negative : Bool) → AreSmall digits
    → Prints (edited_digits digits decimals mark negative)
digits-print digits decimals mark negative small =
    let free = free_digits (length digits) decimals in
    let after = All-append IsPrinted (map figure (drop free digits)) (marked mark negative)
    (figures-print (drop free digits) (All-drop (λ digit. digit < 10) free digits small)) (marked-prints mark negative) in
    All-append IsPrinted (without_leading_zeros (take free digits)) (point decimals ++ (map figure (drop free digits) ++ marked mark negative))
    (zeros-print (take free digits) (All-take (λ digit. digit < 10) free digits small))
    (All-append IsPrinted (point decimals) (map figure (drop free digits) ++ marked mark negative) (point-prints decimals) after)

blanks-print : (digits decimals : ℕ) (mark : Option Mark) → Prints (edited_blank digits decimals mark)
blanks-print digits decimals mark =
    let free = free_digits digits decimals in
    let count = digits - free + mark_width mark in
    All-append IsPrinted (replicate free 32) (point decimals ++ replicate count 32) (All-replicate IsPrinted free 32 blank)
    (All-append IsPrinted (point decimals) (replicate count 32) (point-prints decimals) (All-replicate IsPrinted count 32 blank))

-- what fields show
text-prints : (card : List ℕ) (field : Field) → Prints (text_on card field)
text-prints card field =
    All-map IsPrinted (λ column. print_character (column_of card column)) (columns_in field)
    (λ k d within. set-prints (column_of card (get_or (columns_in field) k d)))

amount-prints : (card : List ℕ) (mark : Option Mark) (field : Field) → Prints (amount_on card mark field)
amount-prints card mark field = by (is_blank_on field card)
  where
    by : (b : Bool)
        → Prints (if b
        then edited_blank (columns_of field) (decimals_of field.kind) mark
        else edited (value_of field card) (columns_of field) (decimals_of field.kind) mark)
    by true = blanks-print (columns_of field) (decimals_of field.kind) mark
    by false =
        digits-print (last_digits (columns_of field) (unsigned_abs (value_of field card))) (decimals_of field.kind) mark
        (is_negative (value_of field card)) (last_digits-small (columns_of field) (unsigned_abs (value_of field card)))

field-prints : (card : List ℕ) (mark : Option Mark) (field : Field) (kind : FieldKind) → Prints (field_on card mark field kind)
field-prints card mark field holds.Text = text-prints card field
field-prints card mark field (holds.Amount decimals rule) = amount-prints card mark field

-- what a line of the chart puts on a line, if it does
abbrev PiecePrints : Option Piece → Type 0
PiecePrints None = Unit {0}
PiecePrints (Some piece) = Prints piece.text

-- of a field by its name
named-prints : (wheel : ℕ) (shows : Field → List ℕ) → ((field : Field) → Prints (shows field)) → (field : Option Field)
    → PiecePrints (option_map (λ f. piece_at wheel (shows f)) field)
named-prints wheel shows print None = tt
named-prints wheel shows print (Some field) = print field

-- where it is shown at all
if-prints : (b : Bool) (piece : Option Piece) → PiecePrints piece → PiecePrints (if b then piece else None)
if-prints true piece prints = prints
if-prints false piece prints = tt

-- the literal of a line of the chart has print characters and blanks alone
abbrev LiteralPrints : Statement → Type 0
LiteralPrints statement = (literal : List ℕ) → literal_in statement ≡ Some literal → Prints literal

card-piece : (lines : List Line) (opens : ℕ) (card : List ℕ) (statement : Statement) → LiteralPrints statement
    → PiecePrints (card_piece lines opens card statement)
card-piece lines opens card (says.DetailLiteral wheel literal) prints = prints literal refl
card-piece lines opens card (says.DetailField wheel name how) prints =
    if-prints (is_shown how opens) (option_map (λ field. piece_at wheel (field_on card (mark_shown how) field field.kind)) (field_named lines name))
    (named-prints wheel (λ field. field_on card (mark_shown how) field field.kind)
    (λ field. field-prints card (mark_shown how) field field.kind) (field_named lines name))
card-piece lines opens card other prints = tt

total-piece : (lines : List Line) (level : ℕ) (group : List (List ℕ)) (statement : Statement) → LiteralPrints statement
    → PiecePrints (total_piece lines level group statement)
total-piece lines level group (says.TotalLiteral its_level wheel literal) prints =
    if-prints (level_number its_level == level) (Some (piece_at wheel literal)) (prints literal refl)
total-piece lines level group (says.TotalText its_level wheel name) prints =
    if-prints (level_number its_level == level) (option_map (λ field. piece_at wheel (text_on (a_card_of group) field)) (field_named lines name))
    (named-prints wheel (text_on (a_card_of group)) (text-prints (a_card_of group)) (field_named lines name))
total-piece lines level group (says.TotalAmount total) prints =
    if-prints (level_number total.level == level)
    (option_map (λ field. piece_at total.wheel (edited (total_of field group) total.digits (decimals_of field.kind) total.mark)) (field_named lines total.name))
    (named-prints total.wheel (λ field. edited (total_of field group) total.digits (decimals_of field.kind) total.mark)
    (λ field.
    digits-print (last_digits total.digits (unsigned_abs (total_of field group))) (decimals_of field.kind) total.mark (is_negative (total_of field group))
    (last_digits-small total.digits (unsigned_abs (total_of field group)))) (field_named lines total.name))
total-piece lines level group other prints = tt

heading-piece : (number : ℕ) (statement : Statement) → LiteralPrints statement → PiecePrints (heading_piece number statement)
heading-piece number (says.Head line wheel literal) prints =
    if-prints (heading_number line == number) (Some (piece_at wheel literal)) (prints literal refl)
heading-piece number other prints = tt

-- a character of a text, or a blank after it
character-prints : (text : List ℕ) (place : ℕ) → Prints text → IsPrinted (get_or text place 32)
character-prints [] place prints = blank
character-prints (character ∷ text) zero prints = All-head IsPrinted character text prints
character-prints (character ∷ text) (suc place) prints = character-prints text place (All-tail IsPrinted character text prints)

-- the lines of the chart that put print characters and blanks alone
abbrev AllPrint : (Statement → Option Piece) → List Line → Type 0
AllPrint puts = All (λ line. PiecePrints (puts line.statement))

wheel-prints : (puts : Statement → Option Piece) (lines : List Line) (wheel : ℕ) → AllPrint puts lines
    → IsPrinted (char_at (filter_map (λ line. puts line.statement) lines) wheel)
wheel-prints puts [] wheel all = blank
wheel-prints puts (line ∷ lines) wheel all =
    by (puts line.statement) (All-head (λ line. PiecePrints (puts line.statement)) line lines all)
    (wheel-prints puts lines wheel (All-tail (λ line. PiecePrints (puts line.statement)) line lines all))
  where
    pieces : List Piece
    pieces = filter_map (λ line. puts line.statement) lines

    on : (b : Bool) (piece : Piece) → Prints piece.text → IsPrinted (char_at pieces wheel)
        → IsPrinted (if b then get_or piece.text (wheel - piece.wheel) 32 else char_at pieces wheel)
    on true piece prints rest = character-prints piece.text (wheel - piece.wheel) prints
    on false piece prints rest = rest

    by : (piece : Option Piece) → PiecePrints piece → IsPrinted (char_at pieces wheel) → IsPrinted (char_at (cons_option piece pieces) wheel)
    by None prints rest = rest
    by (Some piece) prints rest = on (nat_le piece.wheel wheel && nat_lt wheel (piece.wheel + length piece.text)) piece prints rest

line-prints : (puts : Statement → Option Piece) (lines : List Line) → AllPrint puts lines
    → Prints (line_of (filter_map (λ line. puts line.statement) lines))
unfolding line_of
line-prints puts lines all =
    All-map IsPrinted (char_at (filter_map (λ line. puts line.statement) lines)) (range_with_len 1 120)
    (λ k d within. wheel-prints puts lines (get_or (range_with_len 1 120) k d) all)

abbrev BodyPrints : BodyText → Type 0
BodyPrints body = Prints body.text

module _ (lines : List Line) (texts : HaveLiteralTexts lines) where
  -- each line of the chart
  literal-prints : (line : Line) → Contains lines line → LiteralPrints line.statement
  literal-prints line there literal is = AllPass-from_list_all is_printable literal (texts line literal there is).printable

  each : (puts : Statement → Option Piece) → ((statement : Statement) → LiteralPrints statement → PiecePrints (puts statement))
      → AllPrint puts lines
  each puts prints =
      All-weaker (Contains lines) (λ line. PiecePrints (puts line.statement))
      (λ line there. prints line.statement (literal-prints line there)) lines (All-contains_itself lines)

  card-line : (opens : ℕ) (card : List ℕ) → Prints (card_line lines opens card)
  card-line opens card = line-prints (card_piece lines opens card) lines (each (card_piece lines opens card) (card-piece lines opens card))

  total-line : (level : ℕ) (group : List (List ℕ)) → Prints (total_line lines level group)
  total-line level group = line-prints (total_piece lines level group) lines (each (total_piece lines level group) (total-piece lines level group))

  heading-line : (number : ℕ) → Prints (heading_line lines number)
  heading-line number = line-prints (heading_piece number) lines (each (heading_piece number) (heading-piece number))

  -- body lines
  body-prints : (told : OutlineLine) → All BodyPrints (body_of lines told)
  body-prints (Detail opens card) = by (prints_details lines)
    where
      by : (b : Bool) → All BodyPrints (if b then record { kind = 0; text = card_line lines opens card } ∷ [] else [])
      by true = All-cons BodyPrints (record { kind = 0; text = card_line lines opens card }) [] (card-line opens card) (All-nil BodyPrints)
      by false = All-nil BodyPrints
  body-prints (Total level group) = by (prints_totals lines level)
    where
      by : (b : Bool) → All BodyPrints (if b then record { kind = level; text = total_line lines level group } ∷ [] else [])
      by true = All-cons BodyPrints (record { kind = level; text = total_line lines level group }) [] (total-line level group) (All-nil BodyPrints)
      by false = All-nil BodyPrints

  bodies-print : (outline : List OutlineLine) → All BodyPrints (flat_map (body_of lines) outline)
  bodies-print [] = All-nil BodyPrints
  bodies-print (told ∷ outline) =
      All-append BodyPrints (body_of lines told) (flat_map (body_of lines) outline) (body-prints told) (bodies-print outline)

  -- lines with their places
  headed-prints : (left : Left) → All HasPrintCharacters (headed lines left)
  headed-prints left = by left.line
    where
      by : (line : Option ℕ)
          → All HasPrintCharacters
          (elim line [ None ↦ map (heading_on lines (left.page + 1)) (range_with_len 1 (heading_count lines)) | Some at ↦ [] ])
      by None =
          All-map HasPrintCharacters (heading_on lines (left.page + 1)) (range_with_len 1 (heading_count lines))
          (λ k d within. heading-line (get_or (range_with_len 1 (heading_count lines)) k d))
      by (Some at) = All-nil HasPrintCharacters

  placed-print : (left : Left) (bodies : List BodyText) → All BodyPrints bodies → All HasPrintCharacters (placed lines left bodies)
  placed-print left [] prints = All-nil HasPrintCharacters
  placed-print left (body ∷ bodies) prints =
      let here : PlacedLine = record { page = page_of left; line = line_below lines left.line body.kind; text = body.text } in
      let later = placed lines (left_by lines left body.kind) bodies in
      All-append HasPrintCharacters (headed lines left) (here ∷ later) (headed-prints left)
      (All-cons HasPrintCharacters here later (All-head BodyPrints body bodies prints)
      (placed-print (left_by lines left body.kind) bodies (All-tail BodyPrints body bodies prints)))

pub report_lines_print : ReportLinesPrint
report_lines_print chart cards texts =
    placed-print chart.lines texts before_all (body_lines chart.lines cards)
    (bodies-print chart.lines texts (outline_of chart.lines cards))
