use Rattle.std.specs.Prelude.{◌≡◌, ◌+◌, ◌++◌, drop}
use Rattle.std.specs.String.{string_bytes}
use Rattle.show_drawings.specs.MarkupWords.Pieces.{numbered_words}
use Rattle.show_sums.specs.CardSections.Sections.{section_text}
use Rattle.show_sums.proofs.card_sections.sections.write_sections.Given as goal

-- what is written, and the cards that are left
abbrev pub invariant-loop-place : goal.invariant-loop-place
invariant-loop-place l =
    string_bytes l.text ++ numbered_words (section_text l.lines l.shown l.trace l.sums) (l.first + l.place) (drop l.place l.cards)
    ≡ string_bytes l.initial.text ++ numbered_words (section_text l.lines l.shown l.trace l.sums) l.first l.cards
