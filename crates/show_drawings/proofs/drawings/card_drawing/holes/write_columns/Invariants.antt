use Rattle.std.specs.Prelude.{◌≡◌, ◌+◌, ◌++◌, drop}
use Rattle.std.specs.String.{string_bytes}
use Rattle.show_drawings.specs.MarkupWords.Pieces.{numbered_words}
use Rattle.show_drawings.specs.DrawingsWords.CardDrawing.Helper.{column_text}
use Rattle.show_drawings.proofs.drawings.card_drawing.holes.write_columns.Given as goal

-- what is written, and the columns that are left
abbrev pub invariant-loop-place : goal.invariant-loop-place
invariant-loop-place l =
    string_bytes l.text ++ numbered_words column_text (l.place + 1) (drop l.place l.columns)
    ≡ string_bytes l.initial.text ++ numbered_words column_text 1 l.columns
