-- Feeds one after another: their lines are those of runs, and so they are in order.
use Rattle.std.proofs.Common.{◌∙◌, refl, sym, ap, subst, ℕ, ◌≤◌, List, [], ◌∷◌, ◌++◌, Some, None, length, append_assoc, append-nil}
use Rattle.card_code.specs.MostCards.{most_cards}
use Rattle.machine.specs.Feeds.{FedLines, Feeds, LinesFrom}
use Rattle.machine.specs.Machine.{MachineState, machine_at_start}
use Rattle.machine.specs.Runs.{MachineLines}
use Rattle.machine.proofs.FeedsInRuns.{feeds-in-run}
use Rattle.machine.proofs.Order.{MachineLines-in_order}
use Rattle.machine.proofs.SomeOutcome.{LinesFrom-some}
use Rattle.page_text.specs.PlacedLines.InOrder.{FollowInOrder, IsInOrder}
use Rattle.page_text.specs.declared.placed_lines.placed_line.PlacedLine.{PlacedLine}
use Rattle.hubs.specs.SetupsWords.Tapes.{IsCarriageTape}
use Rattle.hubs.specs.SetupsWords.Wiring.{Wiring}
use Rattle.report_runs.specs.Laws.{FeedsPlaceInOrder}

-- one feed alone
pub fed-one : (wiring : Wiring) (old : MachineState) (card : List ℕ) (new : MachineState) (lines : List PlacedLine)
    → Feeds wiring old (Some card) new lines → FedLines wiring old (card ∷ []) new lines
unfolding FedLines
fed-one wiring old card new lines feed = (new, lines, [], feed, (refl, refl), sym (append-nil lines))

-- one feed more
pub fed-more : (wiring : Wiring) (old : MachineState) (cards : List (List ℕ)) (mid : MachineState) (lines : List PlacedLine)
    (next : List ℕ) (new : MachineState) (more : List PlacedLine) → FedLines wiring old cards mid lines → Feeds wiring mid (Some next) new more
    → FedLines wiring old (cards ++ next ∷ []) new (lines ++ more)
unfolding FedLines
fed-more wiring old [] mid lines next new more (same, none) feed =
    let from : Feeds wiring old (Some next) new more = subst (λ m. Feeds wiring m (Some next) new more) same feed in
    (new, more, [], from, (refl, refl), ap (λ l. l ++ more) none ∙ sym (append-nil more))
fed-more wiring old (card ∷ cards) mid lines next new more (left, first, others, one, rest, is) feed = (
  left,
  first,
  others ++ more,
  one,
  fed-more wiring left cards mid others next new more rest feed,
  ap (λ l. l ++ more) is ∙ append_assoc first others more,
)

-- the feeds of some cards, and then those of the others and the end
pub fed-from : (wiring : Wiring) (old : MachineState) (cards : List (List ℕ)) (mid : MachineState) (lines rest : List PlacedLine)
    → FedLines wiring old cards mid lines → LinesFrom wiring mid [] rest → LinesFrom wiring old cards (lines ++ rest)
unfolding FedLines LinesFrom
fed-from wiring old [] mid lines rest (same, none) (new, feed) = (
  new,
  subst (λ l. Feeds wiring old None new l) (sym (ap (λ l. l ++ rest) none)) (subst (λ m. Feeds wiring m None new rest) same feed),
)
fed-from wiring old (card ∷ cards) mid lines rest (left, first, others, one, fed, is) from = (
  left,
  first,
  others ++ rest,
  one,
  fed-from wiring left cards mid others rest fed from,
  ap (λ l. l ++ rest) is ∙ append_assoc first others rest,
)

-- the feed of the end alone
pub from-end : (wiring : Wiring) (old new : MachineState) (lines : List PlacedLine) → Feeds wiring old None new lines
    → LinesFrom wiring old [] lines
unfolding LinesFrom
from-end wiring old new lines feed = (new, feed)

-- so the feeds of a deck and of the end are a run
pub run-of-feeds : (wiring : Wiring) (cards : List (List ℕ)) (machine new : MachineState) (lines more : List PlacedLine)
    → FedLines wiring (machine_at_start wiring) cards machine lines → Feeds wiring machine None new more
    → MachineLines wiring cards (lines ++ more)
run-of-feeds wiring cards machine new lines more fed feed =
    feeds-in-run wiring cards (lines ++ more)
    (fed-from wiring (machine_at_start wiring) cards machine lines more fed (from-end wiring machine new more feed))

-- the first of some lines in order are in order
first-in-order : (long page line : ℕ) (one other : List PlacedLine) → FollowInOrder long page line (one ++ other) → FollowInOrder long page line one
first-in-order long page line [] other order = tt
first-in-order long page line (placed ∷ one) other order =
    (order.0, order.1, first-in-order long placed.page placed.line one other order.2)

-- what feeds of cards have placed is in order, as some run begins with it
fed-in-order : (wiring : Wiring) (cards : List (List ℕ)) (machine : MachineState) (lines : List PlacedLine)
    → IsCarriageTape wiring.tape → length cards ≤ most_cards → FedLines wiring (machine_at_start wiring) cards machine lines
    → IsInOrder wiring.tape.lines lines
fed-in-order wiring cards machine lines form few fed =
    let rest = LinesFrom-some wiring machine [] in
    first-in-order wiring.tape.lines 0 0 lines rest.0
    (MachineLines-in_order wiring cards (lines ++ rest.0) form few
    (feeds-in-run wiring cards (lines ++ rest.0) (fed-from wiring (machine_at_start wiring) cards machine lines rest.0 fed rest.1)))

pub feeds_in_order : FeedsPlaceInOrder
feeds_in_order wiring cards None machine new lines more form few fed feed =
    let fewer : length cards ≤ most_cards = subst (λ l. length l ≤ most_cards) (append-nil cards) few in
    MachineLines-in_order wiring cards (lines ++ more) form fewer (run-of-feeds wiring cards machine new lines more fed feed)
feeds_in_order wiring cards (Some next) machine new lines more form few fed feed =
    fed-in-order wiring (cards ++ next ∷ []) new (lines ++ more) form few
    (fed-more wiring (machine_at_start wiring) cards machine lines next new more fed feed)
