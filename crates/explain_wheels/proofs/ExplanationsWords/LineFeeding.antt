-- The cards of a deck, fed one after another, and the lines that are found on the way.
use Rattle.std.proofs.Common.{◌≡◌, ◌∙◌, sym, ap, subst, refl, ℕ, ◌+◌, ◌≤◌, ◌<◌, Bool, true, false, List, [], ◌∷◌, ◌++◌, Option, Some, None, length, take, get_or, arith, ◌&&◌}
use Rattle.std.specs.Prelude.{All, slice_get, ◌==◌, if◌then◌else◌}
use Rattle.std.specs.List.{AllZip}
use Rattle.std.proofs.lemmas.Bool.{false≢true}
use Rattle.std.proofs.lemmas.Bool.Decides.{nat_tests}
use Rattle.std.proofs.lemmas.List.{take_more}
use Rattle.std.proofs.lemmas.List.Elements.{All-contains}
use Rattle.page_text.specs.declared.placed_lines.placed_line.PlacedLine.{PlacedLine}
use Rattle.hubs.specs.SetupsWords.Wiring.{Wiring}
use Rattle.net.specs.Nets.{IsNetOf}
use Rattle.machine.specs.Feeds.{FedLines}
use Rattle.machine.specs.Kept.{IsElsewhere, PlacedInFeed}
use Rattle.machine.specs.Machine.{MachineState, machine_at_start}
use Rattle.machine.specs.Running.{IsStarted, Running, fed, refusal}
use Rattle.machine.specs.declared.fault.FeedFault.TheVariants.{Spoiled, TooManyCards, Ended}
use Rattle.card_code.specs.MostCards.{most_cards}
use Rattle.machine.proofs.OneOutcome.{MachineLines-one}
use Rattle.machine.specs.declared.kept.KeptCycle.{KeptCycle}
use Rattle.explain_wheels.specs.ExplanationsWords.LineFeeds.{AreFoundTo, FeedsSome}
use Rattle.explain_wheels.specs.ExplanationsWords.PageFeeds.{found_by}
use Rattle.explain_wheels.specs.ExplanationsWords.Pages.{AreFoundLines, IsFoundLine}
use Rattle.explain_wheels.specs.ExplanationsWords.PlacedInRun.{IsFound, PrintsLine, PrintsNoneAt}
use Rattle.explain_wheels.specs.declared.explanations.found.FoundLine.{FoundLine}
use Rattle.explain_wheels.proofs.ExplanationsWords.Feeding.{fed-more, fed-none}

-- A machine was fed so many cards, and takes more.
pub record IsCounted (cards : ℕ) (running : Running) : Type 0 where
  pub counted : running.cards ≡ cards
  pub goes_on : running.is_ended ≡ false
  pub whole : running.is_spoiled ≡ false

pub IsCounted-none : (wiring : Wiring) (running : Running) → IsStarted wiring running → IsCounted 0 running
IsCounted-none wiring running started = record { counted = started.cards; goes_on = started.goes_on; whole = started.whole }

pub IsCounted-more : (cards : ℕ) (card : List ℕ) (old new : Running) → new ≡ fed (Some card) new.machine old
    → IsCounted cards old → IsCounted (cards + 1) new
IsCounted-more cards card old new is has = record {
  counted = ap (λ (r : Running). r.cards) is ∙ ap (λ (n : ℕ). n + 1) has.counted;
  goes_on = ap (λ (r : Running). r.is_ended) is ∙ has.goes_on;
  whole = ap (λ (r : Running). r.is_spoiled) is ∙ has.whole;
}

-- so it takes a card more, where it was fed fewer than it can be
pub takes-card : (cards : ℕ) (card : List ℕ) (running : Running) → IsCounted cards running → cards < most_cards
    → refusal running (Some card) ≡ None
takes-card cards card running has few =
    by running.is_spoiled (running.cards == most_cards) running.is_ended has.whole (room running.cards has.counted) has.goes_on
  where
    room : (n : ℕ) → n ≡ cards → (n == most_cards) ≡ false
    room n is = grind (arith, nat_tests, is, few)

    by : (spoiled full ended : Bool) → spoiled ≡ false → full ≡ false → ended ≡ false
        → (if spoiled then Some Spoiled else if true && full then Some TooManyCards else if ended then Some Ended else None) ≡ None
    by false false false e f g = refl
    by false false true e f g = absurd (false≢true (sym g))
    by false true ended e f g = absurd (false≢true (sym f))
    by true full ended e f g = absurd (false≢true (sym e))

-- The first cards of a deck, so many, were fed.
pub record IsFedTo (wiring : Wiring) (deck : List (List ℕ)) (cards : ℕ) (running : Running) : Type 0 where
  pub net : IsNetOf wiring running.net
  pub lines : List PlacedLine
  pub fed : FedLines wiring (machine_at_start wiring) (take cards deck) running.machine lines

pub IsFedTo-none : (wiring : Wiring) (deck : List (List ℕ)) (running : Running) → IsStarted wiring running
    → IsFedTo wiring deck 0 running
IsFedTo-none wiring deck running started = record {
  net = started.net;
  lines = [];
  fed = fed-none wiring (machine_at_start wiring) running.machine started.machine;
}

pub IsFedTo-more : (wiring : Wiring) (deck : List (List ℕ)) (cards : ℕ) (card : List ℕ) (old new : Running) (before now : List KeptCycle)
    → take (cards + 1) deck ≡ take cards deck ++ card ∷ [] → IsFedTo wiring deck cards old
    → FeedsSome old.net old.machine (Some card) new.machine before now
    → new ≡ fed (Some card) new.machine old → IsFedTo wiring deck (cards + 1) new
IsFedTo-more wiring deck cards card old new before now one_more has feeds is =
    let feed = feeds.feeds wiring has.net in
    record {
      net = subst (λ (r : Running). IsNetOf wiring r.net) (sym is) has.net;
      lines = has.lines ++ feed.0;
      fed =
          subst (λ (some : List (List ℕ)). FedLines wiring (machine_at_start wiring) some new.machine (has.lines ++ feed.0)) (sym one_more)
          (fed-more wiring (machine_at_start wiring) (take cards deck) old.machine has.lines card new.machine feed.0 has.fed feed.1);
    }

-- the cycles that a feed kept, where none were kept before, are found
pub kept-found : (wiring : Wiring) (deck : List (List ℕ)) (cards count : ℕ) (next : Option (List ℕ)) (old : Running)
    (left : MachineState) (before after kept : List KeptCycle) → cards ≤ length deck → slice_get deck cards ≡ next → count ≡ cards
    → IsFedTo wiring deck cards old → before ≡ [] → FeedsSome old.net old.machine next left before after → kept ≡ after
    → All (λ k. IsFound wiring deck (found_by count k)) kept
kept-found wiring deck cards count next old left before after kept within is counted has empty feeds same =
    let gained : kept ≡ feeds.kept = same ∙ feeds.gained ∙ ap (λ (l : List KeptCycle). l ++ feeds.kept) empty in
    let placed : All (PlacedInFeed wiring old.machine next) kept =
    subst (All (PlacedInFeed wiring old.machine next)) (sym gained) (feeds.placed wiring has.net) in
    λ k d low. subst (λ (n : ℕ). IsFound wiring deck (found_by n (get_or kept k d))) (sym counted) (found-placed (get_or kept k d)
    (subst (λ (n : Option (List ℕ)). PlacedInFeed wiring old.machine n (get_or kept k d)) (sym is) (placed k d low)))
  where
    found-placed : (one : KeptCycle) → PlacedInFeed wiring old.machine (slice_get deck cards) one → IsFound wiring deck (found_by cards one)
    found-placed one placed = record {
      run = record {
        within = within;
        machine = old.machine;
        lines = has.lines;
        fed = has.fed;
        before = placed.before;
        after = placed.after;
        steps = placed.steps;
        step = placed.step;
        placed = placed.placed;
      };
      waits = placed.waits;
      points = placed.points;
    }

-- no line is found before the first
pub found-none : (wiring : Wiring) (deck : List (List ℕ)) (found : List FoundLine) → found ≡ [] → AreFoundLines wiring deck [] found
found-none wiring deck [] is = tt
found-none wiring deck (one ∷ found) is = cc

zip-push : {A B : Type 0} (R : A → B → Type 0) (xs : List A) (ys : List B) (x : A) (y : B) → AllZip R xs ys → R x y
    → AllZip R (xs ++ x ∷ []) (ys ++ y ∷ [])
zip-push R [] [] x y all one = (one, all)
zip-push R [] (b ∷ ys) x y all one = absurd all
zip-push R (a ∷ xs) [] x y all one = absurd all
zip-push R (a ∷ xs) (b ∷ ys) x y all one = (all.0, zip-push R xs ys x y all.1 one)

-- one line more
pub found-more : (wiring : Wiring) (deck : List (List ℕ)) (lines : List PlacedLine) (place : ℕ) (d : PlacedLine) (old new : List FoundLine)
    (one : FoundLine) → place < length lines → AreFoundTo wiring deck lines place old
    → IsFoundLine wiring deck (get_or lines place d) one → new ≡ old ++ one ∷ [] → AreFoundTo wiring deck lines (place + 1) new
found-more wiring deck lines place d old new one less before is pushed =
    subst (AreFoundTo wiring deck lines (place + 1)) (sym pushed)
    (subst (λ (l : List PlacedLine). AreFoundLines wiring deck l (old ++ one ∷ [])) (sym (take_more lines place d less))
    (zip-push (IsFoundLine wiring deck) (take place lines) old (get_or lines place d) one before is))

-- a printed line stands where it stands
pub stands-there : (wiring : Wiring) (deck : List (List ℕ)) (placed : PlacedLine) → PrintsLine wiring deck placed
    → PrintsNoneAt wiring deck placed.page placed.line → ⊥
stands-there wiring deck placed prints none =
    let same : none.lines ≡ prints.lines = MachineLines-one wiring deck none.lines prints.lines none.run prints.run in
    let elsewhere : All (IsElsewhere placed.page placed.line) prints.lines =
    subst (λ (l : List PlacedLine). All (IsElsewhere placed.page placed.line) l) same none.elsewhere in
    All-contains (IsElsewhere placed.page placed.line) prints.lines placed elsewhere prints.printed (refl, refl)
