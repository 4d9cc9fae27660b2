-- The cards of a deck, fed one after another, and the lines that they place on a page.
use Rattle.std.proofs.Common.{◌≡◌, ◌∙◌, sym, ap, subst, refl, ℕ, ◌+◌, ◌≤◌, false, List, [], ◌∷◌, ◌++◌, Option, Some, None, length, take, map}
use Rattle.std.specs.Prelude.{All, slice_get}
use Rattle.std.specs.List.{filter}
use Rattle.std.proofs.lemmas.List.{map-append, take_all}
use Rattle.std.proofs.lemmas.List.Elements.{All-append, All-map, All-nil, All-weaker, filter-append}
use Rattle.page_text.specs.declared.placed_lines.placed_line.PlacedLine.{PlacedLine}
use Rattle.hubs.specs.SetupsWords.Wiring.{Wiring}
use Rattle.net.specs.Nets.{IsNetOf}
use Rattle.machine.specs.Feeds.{FedLines}
use Rattle.machine.specs.Kept.{PlacedInFeed, is_on, line_kept}
use Rattle.machine.specs.Machine.{MachineState, machine_at_start}
use Rattle.machine.specs.Running.{Running, IsStarted, fed}
use Rattle.machine.proofs.FeedsInRuns.{feeds-in-run}
use Rattle.machine.specs.declared.kept.KeptCycle.{KeptCycle}
use Rattle.explain_wheels.specs.ExplanationsWords.PageFeeds.{GainsFound, found_by}
use Rattle.explain_wheels.specs.ExplanationsWords.Pages.{HasPage, line_found}
use Rattle.explain_wheels.specs.ExplanationsWords.PlacedInRun.{IsFound}
use Rattle.explain_wheels.specs.declared.explanations.found.FoundLine.{FoundLine}
use Rattle.explain_wheels.proofs.ExplanationsWords.Feeding.{fed-more, fed-none, fed-to-end}

-- So many cards of a deck were fed, the machine takes more, and the lines that were placed on a page are found.
pub record HasFound (wiring : Wiring) (deck : List (List ℕ)) (page : ℕ) (cards : ℕ) (running : Running) (found : List FoundLine) : Type 0 where
  pub net : IsNetOf wiring running.net
  pub lines : List PlacedLine
  pub fed : FedLines wiring (machine_at_start wiring) (take cards deck) running.machine lines
  pub each : All (IsFound wiring deck) found
  pub exactly : map line_found found ≡ filter (is_on page) lines
  pub counted : running.cards ≡ cards
  pub goes_on : running.is_ended ≡ false
  pub whole : running.is_spoiled ≡ false

pub HasFound-none : (wiring : Wiring) (deck : List (List ℕ)) (page : ℕ) (running : Running) → IsStarted wiring running
    → HasFound wiring deck page 0 running []
HasFound-none wiring deck page running started = record {
  net = started.net;
  lines = [];
  fed = fed-none wiring (machine_at_start wiring) running.machine started.machine;
  each = All-nil (IsFound wiring deck);
  exactly = refl;
  counted = started.cards;
  goes_on = started.goes_on;
  whole = started.whole;
}

-- a cycle of a feed that placed a line placed it in the run
found-placed : (wiring : Wiring) (deck : List (List ℕ)) (cards : ℕ) (machine : MachineState) (lines : List PlacedLine)
    → cards ≤ length deck → FedLines wiring (machine_at_start wiring) (take cards deck) machine lines
    → (kept : KeptCycle) → PlacedInFeed wiring machine (slice_get deck cards) kept → IsFound wiring deck (found_by cards kept)
found-placed wiring deck cards machine lines within fed kept placed = record {
  run = record {
    within = within;
    machine = machine;
    lines = lines;
    fed = fed;
    before = placed.before;
    after = placed.after;
    steps = placed.steps;
    step = placed.step;
    placed = placed.placed;
  };
  waits = placed.waits;
  points = placed.points;
}

all-placed : (wiring : Wiring) (deck : List (List ℕ)) (cards : ℕ) (machine : MachineState) (lines : List PlacedLine)
    → cards ≤ length deck → FedLines wiring (machine_at_start wiring) (take cards deck) machine lines
    → (kept : List KeptCycle) → All (PlacedInFeed wiring machine (slice_get deck cards)) kept
    → All (IsFound wiring deck) (map (found_by cards) kept)
all-placed wiring deck cards machine lines within fed kept placed =
    All-map (IsFound wiring deck) (found_by cards) kept
    (All-weaker (PlacedInFeed wiring machine (slice_get deck cards)) (λ (k : KeptCycle). IsFound wiring deck (found_by cards k))
    (found-placed wiring deck cards machine lines within fed) kept placed)

-- the lines of cycles are the same with their cards
lines-found : (cards : ℕ) (kept : List KeptCycle) → map line_found (map (found_by cards) kept) ≡ map line_kept kept
lines-found cards [] = refl
lines-found cards (k ∷ kept) = ap (λ (l : List PlacedLine). k.line ∷ l) (lines-found cards kept)

exactly-more : (page cards : ℕ) (found : List FoundLine) (lines more : List PlacedLine) (kept : List KeptCycle)
    → map line_found found ≡ filter (is_on page) lines → map line_kept kept ≡ filter (is_on page) more
    → map line_found (found ++ map (found_by cards) kept) ≡ filter (is_on page) (lines ++ more)
exactly-more page cards found lines more kept one other =
    rw (map-append line_found found (map (found_by cards) kept), lines-found cards kept, one, other)
    (sym (filter-append (is_on page) lines more))

-- one card more
pub HasFound-more : (wiring : Wiring) (deck : List (List ℕ)) (page : ℕ) (cards : ℕ) (card : List ℕ) (old new : Running)
    (found newer : List FoundLine) → cards ≤ length deck → slice_get deck cards ≡ Some card
    → take (cards + 1) deck ≡ take cards deck ++ card ∷ []
    → HasFound wiring deck page cards old found
    → GainsFound old.net old.machine (Some card) new.machine page cards found newer
    → new ≡ fed (Some card) new.machine old → HasFound wiring deck page (cards + 1) new newer
HasFound-more wiring deck page cards card old new found newer within at one_more has gains is =
    let keeping = gains.feeds wiring has.net in
    let placed =
    subst (λ (n : Option (List ℕ)). All (PlacedInFeed wiring old.machine n) gains.kept) (sym at) keeping.placed in
    record {
      net = subst (λ (r : Running). IsNetOf wiring r.net) (sym is) has.net;
      lines = has.lines ++ keeping.lines;
      fed =
          subst
          (λ (some : List (List ℕ)). FedLines wiring (machine_at_start wiring) some new.machine (has.lines ++ keeping.lines))
          (sym one_more)
          (fed-more wiring (machine_at_start wiring) (take cards deck) old.machine has.lines card new.machine keeping.lines has.fed
          keeping.feeds);
      each =
          subst (All (IsFound wiring deck)) (sym gains.gained)
          (All-append (IsFound wiring deck) found (map (found_by cards) gains.kept) has.each
          (all-placed wiring deck cards old.machine has.lines within has.fed gains.kept placed));
      exactly =
          ap (map line_found) gains.gained
          ∙ exactly-more page cards found has.lines keeping.lines gains.kept has.exactly keeping.on_page;
      counted = ap (λ (r : Running). r.cards) is ∙ ap (λ (n : ℕ). n + 1) has.counted;
      goes_on = ap (λ (r : Running). r.is_ended) is ∙ has.goes_on;
      whole = ap (λ (r : Running). r.is_spoiled) is ∙ has.whole;
    }

-- the end is fed
pub HasFound-all : (wiring : Wiring) (deck : List (List ℕ)) (page : ℕ) (cards : ℕ) (old : Running) (left : MachineState)
    (found newer : List FoundLine) → cards ≤ length deck → length deck ≤ cards → slice_get deck cards ≡ None
    → HasFound wiring deck page cards old found → GainsFound old.net old.machine None left page cards found newer
    → HasPage wiring deck page newer
HasFound-all wiring deck page cards old left found newer within all at has gains =
    let keeping = gains.feeds wiring has.net in
    let placed =
    subst (λ (n : Option (List ℕ)). All (PlacedInFeed wiring old.machine n) gains.kept) (sym at) keeping.placed in
    let run =
    fed-to-end wiring (machine_at_start wiring) deck old.machine left has.lines keeping.lines
    (subst (λ (some : List (List ℕ)). FedLines wiring (machine_at_start wiring) some old.machine has.lines) (take_all cards deck all) has.fed)
    keeping.feeds in
    record {
      each =
          subst (All (IsFound wiring deck)) (sym gains.gained)
          (All-append (IsFound wiring deck) found (map (found_by cards) gains.kept) has.each
          (all-placed wiring deck cards old.machine has.lines within has.fed gains.kept placed));
      lines = has.lines ++ keeping.lines;
      run = feeds-in-run wiring deck (has.lines ++ keeping.lines) run;
      exactly =
          ap (map line_found) gains.gained
          ∙ exactly-more page cards found has.lines keeping.lines gains.kept has.exactly keeping.on_page;
    }
