-- The cards of a deck, fed one after another, whose lines stand elsewhere than at a page and a line of it.
use Rattle.std.proofs.Common.{◌≡◌, ◌∙◌, sym, ap, subst, refl, ℕ, ◌+◌, ◌≤◌, false, List, [], ◌∷◌, ◌++◌, Some, None, length, take, append_assoc, append-nil}
use Rattle.std.specs.Prelude.{All, slice_get}
use Rattle.std.proofs.lemmas.List.{take_all}
use Rattle.std.proofs.lemmas.List.Elements.{All-append, All-nil}
use Rattle.page_text.specs.declared.placed_lines.placed_line.PlacedLine.{PlacedLine}
use Rattle.hubs.specs.SetupsWords.Wiring.{Wiring}
use Rattle.net.specs.Nets.{IsNetOf}
use Rattle.machine.specs.Feeds.{FedLines, Feeds, LinesFrom}
use Rattle.machine.specs.Kept.{FeedsPast, IsElsewhere, PlacedInFeed}
use Rattle.machine.specs.Machine.{MachineState, machine_at_start}
use Rattle.machine.specs.Running.{Running, IsStarted, fed}
use Rattle.machine.proofs.FeedsInRuns.{feeds-in-run}
use Rattle.machine.specs.declared.kept.KeptCycle.{KeptCycle}
use Rattle.explain_wheels.specs.ExplanationsWords.PlacedInRun.{IsFound, PrintsNoneAt}

-- So many cards of a deck were fed, and the machine takes more.
pub record HasFed (wiring : Wiring) (deck : List (List ℕ)) (page line : ℕ) (cards : ℕ) (running : Running) : Type 0 where
  pub net : IsNetOf wiring running.net
  pub lines : List PlacedLine
  pub fed : FedLines wiring (machine_at_start wiring) (take cards deck) running.machine lines
  pub elsewhere : All (IsElsewhere page line) lines
  pub counted : running.cards ≡ cards
  pub goes_on : running.is_ended ≡ false
  pub whole : running.is_spoiled ≡ false

pub fed-none : (wiring : Wiring) (start now : MachineState) → now ≡ start → FedLines wiring start [] now []
unfolding FedLines
fed-none wiring start now same = (same, refl)

pub HasFed-none : (wiring : Wiring) (deck : List (List ℕ)) (page line : ℕ) (running : Running) → IsStarted wiring running
    → HasFed wiring deck page line 0 running
HasFed-none wiring deck page line running started = record {
  net = started.net;
  lines = [];
  fed = fed-none wiring (machine_at_start wiring) running.machine started.machine;
  elsewhere = All-nil (IsElsewhere page line);
  counted = started.cards;
  goes_on = started.goes_on;
  whole = started.whole;
}

-- one feed more
pub fed-more : (wiring : Wiring) (old : MachineState) (cards : List (List ℕ)) (mid : MachineState) (lines : List PlacedLine)
    (next : List ℕ) (new : MachineState) (more : List PlacedLine) → FedLines wiring old cards mid lines → Feeds wiring mid (Some next) new more
    → FedLines wiring old (cards ++ next ∷ []) new (lines ++ more)
unfolding FedLines
fed-more wiring old [] mid lines next new more (same, none) feed =
    let from : Feeds wiring old (Some next) new more = subst (λ m. Feeds wiring m (Some next) new more) same feed in
    (new, more, [], from, (refl, refl), ap (λ l. l ++ more) none ∙ sym (append-nil more))
fed-more wiring old (card ∷ cards) mid lines next new more (left, first, others, one, rest, is) feed = (
  left,
  first,
  others ++ more,
  one,
  fed-more wiring left cards mid others next new more rest feed,
  ap (λ l. l ++ more) is ∙ append_assoc first others more,
)

pub HasFed-more : (wiring : Wiring) (deck : List (List ℕ)) (page line : ℕ) (cards : ℕ) (card : List ℕ) (old new : Running)
    → take (cards + 1) deck ≡ take cards deck ++ card ∷ []
    → HasFed wiring deck page line cards old → FeedsPast wiring old.machine (Some card) new.machine page line
    → new ≡ fed (Some card) new.machine old → HasFed wiring deck page line (cards + 1) new
HasFed-more wiring deck page line cards card old new one_more has past is =
    let feeds =
    fed-more wiring (machine_at_start wiring) (take cards deck) old.machine has.lines card new.machine past.lines has.fed past.feeds in
    record {
      net = subst (λ (r : Running). IsNetOf wiring r.net) (sym is) has.net;
      lines = has.lines ++ past.lines;
      fed =
          subst
          (λ (some : List (List ℕ)). FedLines wiring (machine_at_start wiring) some new.machine (has.lines ++ past.lines))
          (sym one_more) feeds;
      elsewhere = All-append (IsElsewhere page line) has.lines past.lines has.elsewhere past.elsewhere;
      counted = ap (λ (r : Running). r.cards) is ∙ ap (λ (n : ℕ). n + 1) has.counted;
      goes_on = ap (λ (r : Running). r.is_ended) is ∙ has.goes_on;
      whole = ap (λ (r : Running). r.is_spoiled) is ∙ has.whole;
    }

-- a feed of the next card, or of the end, places the line
pub IsFound-next : (wiring : Wiring) (deck : List (List ℕ)) (page line : ℕ) (cards : ℕ) (running : Running) (kept : KeptCycle)
    → cards ≤ length deck → HasFed wiring deck page line cards running
    → PlacedInFeed wiring running.machine (slice_get deck cards) kept
    → IsFound wiring deck (record { cards = cards; kept = kept })
IsFound-next wiring deck page line cards running kept within has placed = record {
  run = record {
    within = within;
    machine = running.machine;
    lines = has.lines;
    fed = has.fed;
    before = placed.before;
    after = placed.after;
    steps = placed.steps;
    step = placed.step;
    placed = placed.placed;
  };
  waits = placed.waits;
  points = placed.points;
}

pub fed-to-end : (wiring : Wiring) (old : MachineState) (cards : List (List ℕ)) (mid new : MachineState) (lines rest : List PlacedLine)
    → FedLines wiring old cards mid lines → Feeds wiring mid None new rest → LinesFrom wiring old cards (lines ++ rest)
unfolding FedLines LinesFrom
fed-to-end wiring old [] mid new lines rest (same, none) feed = (
  new,
  subst (λ l. Feeds wiring old None new l) (sym (ap (λ l. l ++ rest) none)) (subst (λ m. Feeds wiring m None new rest) same feed),
)
fed-to-end wiring old (card ∷ cards) mid new lines rest (left, first, others, one, fed_rest, is) feed = (
  left,
  first,
  others ++ rest,
  one,
  fed-to-end wiring left cards mid new others rest fed_rest feed,
  ap (λ l. l ++ rest) is ∙ append_assoc first others rest,
)

-- the end is fed, and the line was nowhere
pub HasFed-all : (wiring : Wiring) (deck : List (List ℕ)) (page line : ℕ) (cards : ℕ) (old : Running) (left : MachineState)
    → length deck ≤ cards → HasFed wiring deck page line cards old → FeedsPast wiring old.machine None left page line
    → PrintsNoneAt wiring deck page line
HasFed-all wiring deck page line cards old left all has past =
    let run =
    fed-to-end wiring (machine_at_start wiring) deck old.machine left has.lines past.lines
    (subst (λ (some : List (List ℕ)). FedLines wiring (machine_at_start wiring) some old.machine has.lines) (take_all cards deck all) has.fed)
    past.feeds in
    record {
      lines = has.lines ++ past.lines;
      run = feeds-in-run wiring deck (has.lines ++ past.lines) run;
      elsewhere = All-append (IsElsewhere page line) has.lines past.lines has.elsewhere past.elsewhere;
    }
