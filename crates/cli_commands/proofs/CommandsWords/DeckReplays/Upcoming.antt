-- The lines of a feed, and those after it.
use Rattle.std.proofs.Common.{◌≡◌, ◌∙◌, refl, sym, ap, subst, List, ℕ, [], ◌∷◌, ◌++◌, Option, Some, None, append-nil}
use Rattle.machine.proofs.SomeOutcome.{LinesFrom-some}
use Rattle.machine.specs.Feeds.{Feeds, LinesFrom}
use Rattle.machine.specs.Machine.{MachineState}
use Rattle.page_text.specs.declared.placed_lines.placed_line.PlacedLine.{PlacedLine}
use Rattle.hubs.specs.SetupsWords.Wiring.{Wiring}

-- the cards from the next one on; after the end there are none
abbrev pub upcoming : Option (List ℕ) → List (List ℕ) → List (List ℕ)
upcoming None rest = []
upcoming (Some card) rest = card ∷ rest

-- the lines after a feed: those of the other cards; after the end there are none
abbrev pub ComeAfter : Wiring → Option (List ℕ) → MachineState → List (List ℕ) → List PlacedLine → Type 0
ComeAfter wiring None left rest others = others ≡ []
ComeAfter wiring (Some card) left rest others = LinesFrom wiring left rest others

pub some_after : (wiring : Wiring) (next : Option (List ℕ)) (left : MachineState) (rest : List (List ℕ))
    → (others : List PlacedLine) × ComeAfter wiring next left rest others
some_after wiring None left rest = ([], refl)
some_after wiring (Some card) left rest = LinesFrom-some wiring left rest

pub lines_join : (wiring : Wiring) (next : Option (List ℕ)) (machine left : MachineState) (rest : List (List ℕ)) (more others : List PlacedLine)
    → Feeds wiring machine next left more → ComeAfter wiring next left rest others → LinesFrom wiring machine (upcoming next rest) (more ++ others)
unfolding LinesFrom
lines_join wiring None machine left rest more others feeds none =
    (left, subst (λ (lines : List PlacedLine). Feeds wiring machine None left lines) (sym (ap (λ l. more ++ l) none ∙ append-nil more)) feeds)
lines_join wiring (Some card) machine left rest more others feeds after = (left, more, others, feeds, after, refl)
