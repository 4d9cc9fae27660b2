-- A run over a deck, feed by feed from its start.
use Rattle.std.proofs.Common.{ℕ, List, [], ◌∷◌, ◌++◌, Some, None, append_assoc, refl, sym, subst, ap, ◌∙◌}
use Rattle.page_text.specs.declared.placed_lines.placed_line.PlacedLine.{PlacedLine}
use Rattle.hubs.specs.SetupsWords.Wiring.{Wiring}
use Rattle.net.specs.Nets.{NetRows, IsNetOf}
use Rattle.machine.specs.Feeds.{Feeds, LinesFrom}
use Rattle.machine.specs.Gains.{GainsFeed}
use Rattle.machine.specs.Machine.{MachineState, machine_at_start}
use Rattle.machine.specs.Runs.{MachineLines}
use Rattle.machine.proofs.FeedsInRuns.{feeds-in-run}

-- Whatever run over the cards that are left follows, it is the rest of a run over the deck after the lines so far.
pub record Ran (wiring : Wiring) (cards : List (List ℕ)) (left : List (List ℕ)) (now : MachineState) (lines : List PlacedLine) :
    Type 0 where
  pub whole :
      (others : List PlacedLine) → LinesFrom wiring now left others
      → LinesFrom wiring (machine_at_start wiring) cards (lines ++ others)

pub Ran-none : (wiring : Wiring) (cards : List (List ℕ)) → Ran wiring cards cards (machine_at_start wiring) []
Ran-none wiring cards = record { whole = λ others run. run }

LinesFrom-more : (wiring : Wiring) (old : MachineState) (card : List ℕ) (cards : List (List ℕ)) (new : MachineState)
    (first others : List PlacedLine)
    → Feeds wiring old (Some card) new first → LinesFrom wiring new cards others
    → LinesFrom wiring old (card ∷ cards) (first ++ others)
unfolding LinesFrom
LinesFrom-more wiring old card cards new first others feed run = (new, first, others, feed, run, refl)

-- one card more
pub Ran-more : (wiring : Wiring) (net : NetRows) (cards : List (List ℕ)) (card : List ℕ) (left : List (List ℕ))
    (old new : MachineState) (before after : List PlacedLine)
    → IsNetOf wiring net → Ran wiring cards (card ∷ left) old before → GainsFeed net old (Some card) new before after
    → Ran wiring cards left new after
Ran-more wiring net cards card left old new before after is_net ran gains = record {
  whole = λ others run.
      subst (λ (all : List PlacedLine). LinesFrom wiring (machine_at_start wiring) cards all)
      (sym (append_assoc before gains.lines others) ∙ ap (λ (l : List PlacedLine). l ++ others) (sym gains.gained))
      (ran.whole (gains.lines ++ others)
      (LinesFrom-more wiring old card left new gains.lines others (gains.feeds wiring is_net) run));
}

LinesFrom-none : (wiring : Wiring) (old new : MachineState) (lines : List PlacedLine)
    → Feeds wiring old None new lines → LinesFrom wiring old [] lines
unfolding LinesFrom
LinesFrom-none wiring old new lines feed = (new, feed)

-- after the last card the end is fed, and the lines are those of the run
pub Ran-all : (wiring : Wiring) (net : NetRows) (cards : List (List ℕ)) (old new : MachineState) (before after : List PlacedLine)
    → IsNetOf wiring net → Ran wiring cards [] old before → GainsFeed net old None new before after
    → MachineLines wiring cards after
Ran-all wiring net cards old new before after is_net ran gains =
    feeds-in-run wiring cards after
    (subst (λ (all : List PlacedLine). LinesFrom wiring (machine_at_start wiring) cards all) (sym gains.gained)
    (ran.whole gains.lines (LinesFrom-none wiring old new gains.lines (gains.feeds wiring is_net))))
