-- The slips of a line that no form derives: bytes that no line of a chart has, or none outside of its literals.
use Rattle.std.specs.Prelude.{ℕ, ◌+◌, ◌==◌, ◌&&◌, ◌||◌, Bool, false, List, [], ◌∷◌, Option, Some, None, position, is_some, nat_le, not, if◌then◌else◌}
use Rattle.std.specs.Char.{is_ascii_lowercase}
use Rattle.std.specs.List.{list_any}
use Rattle.chart_lines.specs.ChartsWords.Literal.{is_printable}
use Rattle.fault_slips.specs.LineMarks.Spans.{span_of}
use Rattle.fault_slips.specs.declared.line_marks.span.Span.{Span}
use Rattle.fault_slips.specs.declared.line_slips.slip.Slip.{Slip}
use Rattle.fault_slips.specs.declared.line_slips.slip.Slip.TheVariants as slip

-- a tab
abbrev pub is_tab : ℕ → Bool
is_tab byte = byte == 9

-- a sign with which comments begin elsewhere, wherever it stands: # or ;
abbrev pub is_comment : ℕ → Bool
is_comment byte = (byte == 35) || (byte == 59)

-- a quotation mark, a backtick, or a byte of a typographic one
abbrev pub is_quotation : ℕ → Bool
is_quotation byte = (byte == 34) || (byte == 96) || nat_le 128 byte

-- an apostrophe
abbrev pub is_apostrophe : ℕ → Bool
is_apostrophe byte = byte == 39

-- a byte that is neither printed nor an apostrophe
abbrev pub is_unprintable : ℕ → Bool
is_unprintable byte = not (is_printable byte) && not (is_apostrophe byte)

-- whether an apostrophe is open behind a byte: each one closes what the one before it opened
abbrev pub is_open : Bool → ℕ → Bool
is_open before byte = if is_apostrophe byte then not before else before

-- where the apostrophe stands that is open behind a byte at a place, if one is: each one closes the one that is open before it
abbrev pub open_behind : Option ℕ → (place byte : ℕ) → Option ℕ
open_behind before place byte = if is_apostrophe byte then (if is_some before then None else Some place) else before

-- where the apostrophe stands that none closes, in bytes that begin at a place, behind one that is open or none
unfoldable pub unclosed_from : Option ℕ → ℕ → List ℕ → Option ℕ
unclosed_from before place [] = before
unclosed_from before place (byte ∷ bytes) = unclosed_from (open_behind before place byte) (place + 1) bytes

-- where the first # or ; stands outside of literals, in bytes that begin at a place, behind an apostrophe that is open or none
unfoldable pub comment_from : Bool → ℕ → List ℕ → Option ℕ
comment_from before place [] = None
comment_from before place (byte ∷ bytes) =
    if not before && is_comment byte then Some place else comment_from (is_open before byte) (place + 1) bytes

-- whether a line begins with an asterisk and a blank, as comments do elsewhere
abbrev pub is_starred : List ℕ → Bool
is_starred (star ∷ blank ∷ bytes) = (star == 42) && (blank == 32)
is_starred other = false

-- where the sign of a comment stands: the asterisk of a line that begins with one and a blank, or else the first # or ; outside of literals
unfoldable pub comment_place : List ℕ → Option ℕ
comment_place line = if is_starred line then Some 0 else comment_from false 0 line

-- the slip of a line: the first of these that it has
unfoldable pub slip_of : List ℕ → Slip
slip_of line =
    if list_any is_tab line then slip.Tab
    else if is_some (comment_place line) then slip.Comment
    else if list_any is_quotation line then slip.Quotation
    else if is_some (unclosed_from None 0 line) then slip.Unclosed
    else if list_any is_ascii_lowercase line then slip.Small
    else if list_any is_unprintable line then slip.Unprintable
    else slip.Other

-- where the first byte stands by which a slip is known: the sign of a comment, and the apostrophe that none closes
unfoldable pub sign_place : Slip → List ℕ → Option ℕ
sign_place slip.Tab line = position is_tab line
sign_place slip.Comment line = comment_place line
sign_place slip.Quotation line = position is_quotation line
sign_place slip.Unclosed line = unclosed_from None 0 line
sign_place slip.Small line = position is_ascii_lowercase line
sign_place slip.Unprintable line = position is_unprintable line
sign_place slip.Other line = None

-- one byte of a line
abbrev pub byte_span : ℕ → Span
byte_span place = record { start = place; end = place + 1 }

-- what is marked: the first byte by which the slip is known, or else the first word
abbrev pub marked_span : List ℕ → Option ℕ → Span
marked_span line (Some place) = byte_span place
marked_span line None = span_of 0 line

abbrev pub slip_span : List ℕ → Span
slip_span line = marked_span line (sign_place (slip_of line) line)
