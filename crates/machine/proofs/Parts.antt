-- A run over a deck in two parts: the feeds of the first cards, and a run over the others.
use Rattle.std.proofs.Common.{◌∙◌, refl, sym, ap, [], ◌∷◌, ◌++◌}
use Rattle.std.proofs.lemmas.List.{append_assoc}
use Rattle.machine.specs.Feeds.{FedLines, LinesFrom}
use Rattle.machine.specs.Laws.{RunsGoInParts}

pub LinesFrom-parts : RunsGoInParts
unfolding LinesFrom FedLines
LinesFrom-parts wiring old [] after lines run = (old, [], lines, (refl, refl), run, refl)
LinesFrom-parts wiring old (card ∷ cards) after lines (mid, first, others, feed, run, is) =
    let (left, fed, rest, feeds, goes_on, same) = LinesFrom-parts wiring mid cards after others run in (
      left,
      first ++ fed,
      rest,
      (mid, first, fed, feed, feeds, refl),
      goes_on,
      is ∙ ap (λ l. first ++ l) same ∙ sym (append_assoc first fed rest),
    )
