-- How a run goes a card further, ends, and stops.
use Rattle.std.proofs.Common.{◌≡◌, ◌∙◌, refl, sym, ap, subst, inl, inr, ℕ, ◌+◌, ◌-◌, ◌<◌, ◌≤◌, Bool, true, false, List, [], ◌∷◌, ◌++◌, Option, Some, None, IfSome, IfNone, length, length-append, append-nil, is_none, slice_get, arith}
use Rattle.std.specs.Io.{StartsWith}
use Rattle.std.proofs.lemmas.Bool.{false≢true}
use Rattle.std.proofs.lemmas.List.Elements.{All-append, All-cons, All-nil}
use Rattle.std.specs.Io.KnownBytes.{IsAtEnd, prepend_known}
use Rattle.std.specs.Prelude.{option_to_list}
use Rattle.card_code.specs.Deck.{Deck}
use Rattle.card_code.specs.MostCards.{most_cards}
use Rattle.report_streams.specs.CardLines.Reading.{Reading}
use Rattle.report_streams.specs.declared.card_lines.fault.ReadFault.TheVariants as read
use Rattle.chart_lines.specs.ChartsWords.Chart.{Chart}
use Rattle.chart_lines.specs.declared.charts.chart.Line.{Line}
use Rattle.chart_rules.specs.ValidCard.{IsValidCard}
use Rattle.report_definition.specs.FollowedDecks.FitSoFar.{misfits_of_last}
use Rattle.report_definition.specs.FollowedDecks.Stands.{report_before}
use Rattle.report_definition.proofs.FollowedDecks.FitSoFar.{first_told, fits_go_on}
use Rattle.machine.specs.Feeds.{Feeds}
use Rattle.machine.specs.Gains.{GainsFeed}
use Rattle.machine.specs.Machine.{MachineState, machine_at_start}
use Rattle.machine.specs.Running.{IsStarted}
use Rattle.report_misfits.specs.OpenSums.{AreSumsOf, Sums}
use Rattle.report_misfits.specs.ToldMisfits.{told}
use Rattle.report_misfits.specs.declared.misfit.Misfit.{Misfit as Found}
use Rattle.net.specs.Nets.{IsNetOf}
use Rattle.report_writer.specs.Added.{added_all, line_after, page_after}
use Rattle.report_writer.specs.Open.{Open}
use Rattle.report_writer.specs.Outgoing.{Breaks, TakesUp}
use Rattle.report_writer.specs.Writing.{Writing}
use Rattle.page_text.specs.PlacedLines.InOrder.{FollowInOrder, IsInOrder}
use Rattle.page_text.specs.declared.placed_lines.placed_line.PlacedLine.{PlacedLine}
use Rattle.report_runs.specs.PrintPromises.Promises.{IsDeck}
use Rattle.report_definition.specs.Breaks.{no_cards}
use Rattle.report_definition.specs.ChartForm.{form_of}
use Rattle.report_definition.specs.Misfits.{first_of, misfits}
use Rattle.report_definition.specs.Report.{Report}
use Rattle.report_definition.specs.Totals.{Fits}
use Rattle.hubs.specs.SetupsWords.Wiring.{Wiring}
use Rattle.report_runs.proofs.NextCards.{up_to, up_to_other}
use Rattle.report_runs.proofs.Standing.{HaveNoMisfit, fed_deck, fed_end, fed_next, feed_in_order, report_begins, run_begins, stand_before, stand_before_last}
use Rattle.report_runs.proofs.Written.{breaks_more, follow, open_none, taken_none, takes_more}
use Rattle.report_runs.specs.Causes.{HasCause, cards_written}
use Rattle.report_runs.specs.FirstCauses.{HaveFitSoFar, IsFirstCause, IsFirstMisfit}
use Rattle.report_runs.specs.HelperStanding.{Ends, HasFed, HasTaken, HasToCome, HaveBegun, HaveLast, IsOfNext, IsUnbegun, ReadsOn, Serves, StandBeforeLast, Stands, Start, Stops, start_of}
use Rattle.report_runs.specs.Reading.{HasReadUpTo}
use Rattle.report_runs.specs.declared.fault.StreamCause.{StreamCause}
use Rattle.report_runs.specs.declared.fault.StreamCause.TheVariants as cause
use Rattle.report_runs.specs.declared.run.Run.{Run}

-- What is known of a next card, or of the end, after some cards.
pub record IsNext {S : Type 0} (left : S → Option (List ℕ)) (chart : Chart) (start : Start) (cards : List (List ℕ)) (reading : Reading S)
    (next : Option (List ℕ)) : Type 0 where
  pub read : (text : List ℕ) → start.text ≡ Some text → ReadsOn left text cards reading next
  pub valid : IfSome next (IsValidCard chart)
  pub well : reading.has_failed ≡ false
  pub room : IfSome next (λ _. (reading.given ≡ length cards + 1) × (length cards < most_cards))
  pub all : IfNone next (IsAtEnd (left reading.source))
  pub up_to : (text : List ℕ) → start.text ≡ Some text → HasReadUpTo text cards cause.Write (left reading.source)

-- the cards with the next one
abbrev pub with_next : List (List ℕ) → Option (List ℕ) → List (List ℕ)
with_next cards next = cards ++ option_to_list next

module _ {S : Type 0} (left : S → Option (List ℕ)) (chart : Chart) (start : Start) (cards : List (List ℕ)) (reading : Reading S) where
  -- they are a deck
  next_deck : (next : Option (List ℕ)) → IsDeck chart cards → IsNext left chart start cards reading next → IsDeck chart (with_next cards next)
  next_deck None deck is = subst (IsDeck chart) (sym (append-nil cards)) deck
  next_deck (Some card) deck is = record {
    valid = All-append (IsValidCard chart) cards (card ∷ []) deck.valid
        (All-cons (IsValidCard chart) card [] is.valid (All-nil (IsValidCard chart)));
    long = (let long = length-append cards (card ∷ []) in omega (arith, long, is.room.1));
  }

  -- and were read
  next_read : (next : Option (List ℕ)) (text : List ℕ) → ReadsOn left text cards reading next
      → HasReadUpTo text cards cause.Write (left reading.source) → HasReadUpTo text (with_next cards next) cause.Write (left reading.source)
  next_read None text deck read = subst (λ c. HasReadUpTo text c cause.Write (left reading.source)) (sym (append-nil cards)) read
  next_read (Some card) text come read = up_to left text (cards ++ card ∷ []) reading come

-- a cause of the next card is told between two cards, and no card more was read
stops_between : (stopped : StreamCause) (cards : List (List ℕ)) → IsOfNext stopped → cards_written cards stopped ≡ length cards - 1
stops_between (cause.Card fault) cards is = refl
stops_between (cause.Invalid fault card) cards is = refl
stops_between (cause.Misfit misfit) cards is = absurd is
stops_between cause.Write cards is = absurd is
stops_between cause.Memory cards is = absurd is

-- no other cause is a failed read
no_misfit_read : (misfit : Found) (line : ℕ) → cause.Misfit misfit ≡ cause.Card (read.Read line) → ⊥
no_misfit_read misfit line is = cc

no_memory_read : (line : ℕ) → cause.Memory ≡ cause.Card (read.Read line) → ⊥
no_memory_read line is = cc

no_write_read : (line : ℕ) → cause.Write ≡ cause.Card (read.Read line) → ⊥
no_write_read line is = cc

-- and none of them is met at want of memory
not_of_memory : (stopped : StreamCause) → IsOfNext stopped → stopped ≡ cause.Memory → ⊥
not_of_memory stopped is same = subst IsOfNext same is

not_of_writing : (stopped : StreamCause) → IsOfNext stopped → stopped ≡ cause.Write → ⊥
not_of_writing stopped is same = subst IsOfNext same is

first_later : (next : Option (List ℕ)) → slice_get (option_to_list next) 0 ≡ next
first_later None = refl
first_later (Some card) = refl

-- the bytes of one form are those of another of as many lines
same_form : {W : Type 0} (held : W → Option (List ℕ)) (has_failed : W → Bool) (before : Option (List ℕ)) (lines : List PlacedLine)
    (writing : Writing W) (form : ℕ) → writing.form_lines ≡ form
    → HasTaken held has_failed before (Open lines writing.form_lines) writing.out → HasTaken held has_failed before (Open lines form) writing.out
same_form held has_failed before lines writing form is taken =
    subst (λ f. HasTaken held has_failed before (Open lines f) writing.out) is taken

fed_fit : (chart : Chart) (wiring : Wiring) (cards : List (List ℕ)) (machine : MachineState) (lines : List PlacedLine)
    → HasFed chart wiring cards machine lines → HaveFitSoFar chart.lines cards
fed_fit chart wiring [] machine lines fed = tt
fed_fit chart wiring (card ∷ cards) machine lines fed = fed.fit

-- and with the next card, where no group that ends before it has a misfit
next_fit : (lines : List Line) (cards : List (List ℕ)) (next : Option (List ℕ)) → HaveFitSoFar lines cards
    → HaveNoMisfit lines cards next → HaveFitSoFar lines (with_next cards next)
next_fit lines cards None fit none = subst (HaveFitSoFar lines) (sym (append-nil cards)) fit
next_fit lines [] (Some card) fit none = (fits_go_on lines card).0
next_fit lines (one ∷ cards) (Some card) fit none = (fits_go_on lines one).1 cards card fit none

-- so a cause of the next card is the first
first_of_next : (chart : Chart) (text : List ℕ) (cards : List (List ℕ)) (stopped : StreamCause) → IsOfNext stopped
    → HaveFitSoFar chart.lines cards → IsFirstCause chart text cards stopped
first_of_next chart text cards (cause.Card fault) is fit = fit
first_of_next chart text cards (cause.Invalid fault card) is fit = fit
first_of_next chart text cards (cause.Misfit misfit) is fit = absurd is
first_of_next chart text cards cause.Write is fit = fit
first_of_next chart text cards cause.Memory is fit = fit

-- a misfit is the first of the cards read, and stands after all lines that are placed
misfit_of : (chart : Chart) (wiring : Wiring) → Serves chart wiring → (cards : List (List ℕ)) (machine : MachineState) (lines : List PlacedLine)
    (last next : Option (List ℕ)) (sums : Sums) (misfit : Found)
    → HasFed chart wiring cards machine lines → HaveLast chart.lines cards last sums
    → (HaveLast chart.lines [] last sums → Some misfit ≡ None)
    → ((card : List ℕ) (others : List (List ℕ)) → HaveLast chart.lines (card ∷ others) last sums
    → Some (told misfit) ≡ first_of (misfits_of_last chart.lines card others next))
    → (first_of (misfits chart.lines (with_next cards next)) ≡ Some (told misfit))
    × (lines ≡ report_before chart (with_next cards next) (misfit.card - 1))
misfit_of chart wiring serves [] machine lines last next sums misfit fed have none tells = let e = none have in cc
misfit_of chart wiring serves (card ∷ cards) machine lines last next sums misfit fed have none tells =
    let later = option_to_list next in
    let first = first_told chart.lines card cards later (told misfit) fed.fit
    (ap (λ n. first_of (misfits_of_last chart.lines card cards n)) (first_later next) ∙ sym (tells card cards have)) in
    let count : misfit.card - 1 ≡ length cards = omega (arith, first.1) in (
      first.0,
      stand_before_last chart wiring serves card cards later machine lines fed
          ∙ ap (report_before chart (card ∷ (cards ++ later))) (sym count),
    )

-- and none that is met earlier is one
first_misfit : (chart : Chart) (wiring : Wiring) (text : List ℕ) (cards : List (List ℕ)) (machine : MachineState) (lines : List PlacedLine)
    (last next : Option (List ℕ)) (sums : Sums) (misfit : Found)
    → HasFed chart wiring cards machine lines → HaveLast chart.lines cards last sums
    → (HaveLast chart.lines [] last sums → Some misfit ≡ None)
    → ((card : List ℕ) (others : List (List ℕ)) → HaveLast chart.lines (card ∷ others) last sums
    → Some (told misfit) ≡ first_of (misfits_of_last chart.lines card others next))
    → (next ≡ None → Deck text cards) → IsFirstMisfit chart text (with_next cards next) misfit
first_misfit chart wiring text [] machine lines last next sums misfit fed have none tells ends = let e = none have in cc
first_misfit chart wiring text (card ∷ cards) machine lines last next sums misfit fed have none tells ends =
    let later = option_to_list next in
    let first = first_told chart.lines card cards later (told misfit) fed.fit
    (ap (λ n. first_of (misfits_of_last chart.lines card cards n)) (first_later next) ∙ sym (tells card cards have)) in
    record {
      card = card;
      others = cards;
      next = next;
      are = refl;
      ended = ends;
      fit = fed.fit;
      number = omega (arith, first.1);
      is_first = sym (tells card cards have);
    }

-- after a feed the report begins with what is written of all lines
placed_begins : (chart : Chart) (wiring : Wiring) → Serves chart wiring → (cards : List (List ℕ)) (machine : MachineState) (lines : List PlacedLine)
    (next : Option (List ℕ)) (new : MachineState) (more : List PlacedLine)
    → HasFed chart wiring cards machine lines → IsDeck chart (with_next cards next) → IfSome next (IsValidCard chart)
    → IfSome next (λ _. length cards < most_cards) → HaveNoMisfit chart.lines cards next → Feeds wiring machine next new more
    → StartsWith (Report chart (with_next cards next)) (Open (lines ++ more) (form_of chart.lines).lines)
placed_begins chart wiring serves cards machine lines None new more fed deck valid room none feed =
    let ends = fed_end chart wiring cards machine lines new more fed none feed in
    subst (λ c. StartsWith (Report chart c) (Open (lines ++ more) (form_of chart.lines).lines)) (sym (append-nil cards))
    (run_begins chart wiring serves cards (lines ++ more) (subst (IsDeck chart) (append-nil cards) deck) ends.0 ends.1)
placed_begins chart wiring serves cards machine lines (Some card) new more fed deck valid room none feed =
    report_begins chart wiring serves (cards ++ card ∷ []) [] (cards ++ card ∷ []) new (lines ++ more)
    (fed_next chart wiring cards machine lines card new more fed valid room none feed) (append-nil (cards ++ card ∷ [])) deck

-- and its lines are those before its last card, or the deck has ended
placed_before_last : (chart : Chart) (start : Start) → Serves chart start.wiring → (cards : List (List ℕ)) (machine : MachineState)
    (lines : List PlacedLine) (next : Option (List ℕ)) (new : MachineState) (more : List PlacedLine)
    → HasFed chart start.wiring cards machine lines → IfSome next (IsValidCard chart) → IfSome next (λ _. length cards < most_cards)
    → (next ≡ None → (text : List ℕ) → start.text ≡ Some text → Deck text cards)
    → HaveNoMisfit chart.lines cards next → Feeds start.wiring machine next new more
    → StandBeforeLast chart start (with_next cards next) (lines ++ more)
placed_before_last chart start serves cards machine lines None new more fed valid room ended none feed =
    let ends = fed_end chart start.wiring cards machine lines new more fed none feed in
    inr (
      (λ text known. subst (Deck text) (sym (append-nil cards)) (ended refl text known)),
      subst (Fits chart.lines) (sym (append-nil cards)) ends.0,
    )
placed_before_last chart start serves cards machine lines (Some card) new more fed valid room ended none feed =
    inl (stand_before chart start.wiring serves (cards ++ card ∷ []) new (lines ++ more)
    (fed_next chart start.wiring cards machine lines card new more fed valid room none feed))

room_of : {S : Type 0} (reading : Reading S) (cards : List (List ℕ)) (next : Option (List ℕ))
    → IfSome next (λ _. (reading.given ≡ length cards + 1) × (length cards < most_cards)) → IfSome next (λ _. length cards < most_cards)
room_of reading cards None room = tt
room_of reading cards (Some card) room = room.1

-- a text of which nothing was read
unread : {S : Type 0} (left : S → Option (List ℕ)) (text : List ℕ) (reading : Reading S) → reading.held ≡ [] → left reading.source ≡ Some text
    → HasToCome left text [] reading
unread left text reading none known = record {
  rest = text;
  is_left = ap (λ h. prepend_known h (left reading.source)) none ∙ ap (prepend_known []) known;
  is_read = record { front = []; parts = refl; lines = []; cut = refl; each = tt };
}

-- before the first card
module _ {S W : Type 0} (left : S → Option (List ℕ)) (held : W → Option (List ℕ)) (has_failed : W → Bool) (chart : Chart) (wiring : Wiring)
    (reading : Reading S) (writing : Writing W) (serves : Serves chart wiring) (unbegun : IsUnbegun wiring reading writing) where
  abbrev first_bytes : HasTaken held has_failed (held writing.out.sink) [] writing.out
  first_bytes = taken_none writing.out refl unbegun.none_wait unbegun.none_written unbegun.unbroken

  pub stands_first : (run : Run) → IsStarted wiring run.machine → AreSumsOf chart.lines no_cards run.sums → run.sums.cards ≡ 0 → run.last ≡ None
      → run.count ≡ 0 → Stands left held has_failed chart (start_of left held wiring reading writing) reading run writing
  stands_first run started sums none last count = record {
    cards = [];
    lines = [];
    fed = (started.machine, refl);
    net = started.net;
    sums = (last, sums, none);
    counted = count;
    given = unbegun.none_given;
    well = unbegun.well;
    read = λ text known. unread left text reading unbegun.nothing_held known;
    form = unbegun.form;
    written = record {
      bytes = subst (λ b. HasTaken held has_failed (held writing.out.sink) b writing.out) (sym (open_none writing.form_lines)) first_bytes;
      well = unbegun.unbroken;
      page = unbegun.page;
      line = unbegun.line;
    };
  }

  first_read : (text : List ℕ) → left reading.source ≡ Some text → HasReadUpTo text [] cause.Write (left reading.source)
  first_read text known = up_to left text [] reading (unread left text reading unbegun.nothing_held known)

  -- memory is refused at once
  pub stops_at_once : Stops held has_failed chart (start_of left held wiring reading writing) cause.Memory (left reading.source) writing
  stops_at_once =
      let form = (form_of chart.lines).lines in
      let none : IsDeck chart [] = record { valid = All-nil (IsValidCard chart); long = omega arith } in
      let begins : StartsWith (Report chart []) (Open [] form) =
      report_begins chart wiring serves [] [] [] (machine_at_start wiring) [] (refl, refl) refl none in
      record {
        cards = [];
        lines = [];
        valid = none;
        read = λ text known. (up_to_other text [] cause.Write cause.Memory (left reading.source) no_memory_read (first_read text known), tt);
        begins = begins;
        stands = λ between. absurd (false≢true between);
        refused = λ same. refl;
        written = subst (λ b. HasTaken held has_failed (held writing.out.sink) b writing.out) (sym (open_none form)) first_bytes;
        first = λ text known. tt;
        begun = record {
          cards = [];
          valid = none;
          read = first_read;
          so_far = tt;
          begins = begins;
          before_last = inl refl;
        };
        broken = λ same. cc;
      }

module _ {S W : Type 0} {left : S → Option (List ℕ)} {held : W → Option (List ℕ)} {has_failed : W → Bool} {chart : Chart} {start : Start}
    {reading : Reading S} {run : Run} {writing : Writing W} (serves : Serves chart start.wiring)
    (stands : Stands left held has_failed chart start reading run writing) where
  abbrev deck : IsDeck chart stands.cards
  deck = fed_deck chart start.wiring stands.cards run.machine.machine stands.lines stands.fed

  abbrev form : ℕ
  form = (form_of chart.lines).lines

  abbrev form_is : writing.form_lines ≡ form
  form_is = stands.form ∙ serves.form

  abbrev fit_so_far : HaveFitSoFar chart.lines stands.cards
  fit_so_far = fed_fit chart start.wiring stands.cards run.machine.machine stands.lines stands.fed

  abbrev so_far_before : stands.lines ≡ report_before chart stands.cards (length stands.cards - 1)
  so_far_before = stand_before chart start.wiring serves stands.cards run.machine.machine stands.lines stands.fed

  abbrev so_far_begins : StartsWith (Report chart stands.cards) (Open stands.lines form)
  so_far_begins = report_begins chart start.wiring serves stands.cards [] stands.cards run.machine.machine stands.lines stands.fed
      (append-nil stands.cards) deck

  -- what is known of the cards so far, whatever stops the run
  begun_so_far : (left_now : Option (List ℕ))
      → ((text : List ℕ) → start.text ≡ Some text → HasReadUpTo text stands.cards cause.Write left_now)
      → HaveBegun chart start left_now stands.lines
  begun_so_far left_now read = record {
    cards = stands.cards;
    valid = deck;
    read = read;
    so_far = fit_so_far;
    begins = so_far_begins;
    before_last = inl so_far_before;
  }

  -- there are few cards
  pub few_cards : run.count ≤ most_cards
  few_cards = subst (λ n. n ≤ most_cards) (sym stands.counted) deck.long

  pub few_sums : run.sums.cards < most_cards
  few_sums = by stands.cards stands.sums deck.long
    where
      by : (cards : List (List ℕ)) → HaveLast chart.lines cards run.last run.sums → length cards ≤ most_cards → run.sums.cards < most_cards
      by [] have few = omega (arith, have.2)
      by (card ∷ cards) have few = omega (arith, have.2, few)

  pub next_number : reading.given ≡ run.count
  next_number = stands.given ∙ sym stands.counted

  -- what was read next
  pub next_is : (read_on : Reading S) (next : Option (List ℕ))
      → ((text : List ℕ) (before : List (List ℕ)) → HasToCome left text before reading → length before ≡ run.count
      → ReadsOn left text before read_on next)
      → IfSome next (IsValidCard chart) → read_on.has_failed ≡ false
      → IfSome next (λ _. (read_on.given ≡ run.count + 1) × (run.count < most_cards)) → IfNone next (IsAtEnd (left read_on.source))
      → ((text : List ℕ) (before : List (List ℕ)) → HasToCome left text before reading
      → HasReadUpTo text before cause.Write (left read_on.source))
      → IsNext left chart start stands.cards read_on next
  next_is read_on next reads valid well room all up_to = record {
    read = λ text known. reads text stands.cards (stands.read text known) (sym stands.counted);
    valid = valid;
    well = well;
    room = subst (λ n. IfSome next (λ _. (read_on.given ≡ n + 1) × (n < most_cards))) stands.counted room;
    all = all;
    up_to = λ text known. up_to text stands.cards (stands.read text known);
  }

  -- the next card is at fault
  pub stops_at_next : (stopped : StreamCause) (left_now : Option (List ℕ)) → IsOfNext stopped
      → ((text : List ℕ) (before : List (List ℕ)) → HasToCome left text before reading → length before ≡ run.count → HasCause chart text before stopped)
      → ((text : List ℕ) (before : List (List ℕ)) → HasToCome left text before reading → HasReadUpTo text before stopped left_now)
      → Stops held has_failed chart start stopped left_now writing
  stops_at_next stopped left_now is told up_to = record {
    cards = stands.cards;
    lines = stands.lines;
    valid = deck;
    read = λ text known.
        let come = stands.read text known in
        (up_to text stands.cards come, told text stands.cards come (sym stands.counted));
    begins = so_far_begins;
    stands = λ _. so_far_before ∙ ap (report_before chart stands.cards) (sym (stops_between stopped stands.cards is));
    refused = λ same. absurd (not_of_memory stopped is same);
    written = same_form held has_failed start.held stands.lines writing form form_is stands.written.bytes;
    first = λ text known. first_of_next chart text stands.cards stopped is fit_so_far;
    begun = begun_so_far left_now
        (λ text known. up_to_other text stands.cards stopped cause.Write left_now no_write_read
        (up_to text stands.cards (stands.read text known)));
    broken = λ same. absurd (not_of_writing stopped is same);
  }

  module _ {read_on : Reading S} {next : Option (List ℕ)} (is : IsNext left chart start stands.cards read_on next) where
    abbrev all : List (List ℕ)
    all = with_next stands.cards next

    abbrev all_deck : IsDeck chart all
    all_deck = next_deck left chart start stands.cards read_on next deck is

    all_read : (text : List ℕ) → start.text ≡ Some text → HasReadUpTo text all cause.Write (left read_on.source)
    all_read text known = next_read left chart start stands.cards read_on next text (is.read text known) (is.up_to text known)

    -- a total of the groups that end does not fit
    pub stops_at_misfit : (misfit : Found)
        → (HaveLast chart.lines [] run.last run.sums → Some misfit ≡ None)
        → ((card : List ℕ) (cards : List (List ℕ)) → HaveLast chart.lines (card ∷ cards) run.last run.sums
        → Some (told misfit) ≡ first_of (misfits_of_last chart.lines card cards next))
        → Stops held has_failed chart start (cause.Misfit misfit) (left read_on.source) writing
    stops_at_misfit misfit none tells =
        let first = misfit_of chart start.wiring serves stands.cards run.machine.machine stands.lines run.last next run.sums misfit stands.fed
        stands.sums none tells in
        record {
          cards = all;
          lines = stands.lines;
          valid = all_deck;
          read = λ text known.
              (up_to_other text all cause.Write (cause.Misfit misfit) (left read_on.source) (no_misfit_read misfit) (all_read text known), first.0);
          begins = report_begins chart start.wiring serves stands.cards (option_to_list next) all run.machine.machine stands.lines stands.fed
              refl all_deck;
          stands = λ _. first.1;
          refused = λ same. cc;
          written = same_form held has_failed start.held stands.lines writing form form_is stands.written.bytes;
          first = λ text known. first_misfit chart start.wiring text stands.cards run.machine.machine stands.lines run.last next run.sums misfit
              stands.fed stands.sums none tells (λ ends. subst (ReadsOn left text stands.cards read_on) ends (is.read text known));
          begun = begun_so_far (left read_on.source) is.up_to;
          broken = λ same. cc;
        }

    -- memory is refused
    pub stops_for_memory : Stops held has_failed chart start cause.Memory (left read_on.source) writing
    stops_for_memory = record {
      cards = stands.cards;
      lines = stands.lines;
      valid = deck;
      read = λ text known.
          (up_to_other text stands.cards cause.Write cause.Memory (left read_on.source) no_memory_read (is.up_to text known), tt);
      begins = so_far_begins;
      stands = λ between. absurd (false≢true between);
      refused = λ same. so_far_before;
      written = same_form held has_failed start.held stands.lines writing form form_is stands.written.bytes;
      first = λ text known. fit_so_far;
      begun = begun_so_far (left read_on.source) is.up_to;
      broken = λ same. cc;
    }

    module _ {new : MachineState} {more : List PlacedLine} (gains : GainsFeed run.machine.net run.machine.machine next new [] more) where
      feed : Feeds start.wiring run.machine.machine next new more
      feed = subst (Feeds start.wiring run.machine.machine next new) (sym gains.gained) (gains.feeds start.wiring stands.net)

      pub in_order : IsInOrder form (stands.lines ++ more)
      in_order = feed_in_order chart start.wiring serves stands.cards next run.machine.machine new stands.lines more stands.fed all_deck.long feed

      -- the lines of the feed come in order
      pub feed_follows : FollowInOrder writing.form_lines writing.page writing.line more
      feed_follows = follow form stands.lines more writing writing form_is in_order stands.written

      -- they can't be written
      pub stops_in_writing : HaveNoMisfit chart.lines stands.cards next → (written : Writing W)
          → Breaks held has_failed (added_all writing.form_lines writing.page writing.line more) writing.out written.out
          → Stops held has_failed chart start cause.Write (left read_on.source) written
      stops_in_writing none written breaks =
          let begins : StartsWith (Report chart all) (Open (stands.lines ++ more) form) =
          placed_begins chart start.wiring serves stands.cards run.machine.machine stands.lines next new more stands.fed all_deck is.valid
          (room_of read_on stands.cards next is.room) none feed in
          let so_far : HaveFitSoFar chart.lines all = next_fit chart.lines stands.cards next fit_so_far none in
          record {
            cards = all;
            lines = stands.lines ++ more;
            valid = all_deck;
            read = λ text known. (all_read text known, tt);
            begins = begins;
            stands = λ between. absurd (false≢true between);
            refused = λ same. cc;
            written = breaks_more form stands.lines more writing written form_is in_order stands.written breaks;
            first = λ text known. so_far;
            begun = record {
              cards = all;
              valid = all_deck;
              read = all_read;
              so_far = so_far;
              begins = begins;
              before_last = placed_before_last chart start serves stands.cards run.machine.machine stands.lines next new more stands.fed is.valid
                  (room_of read_on stands.cards next is.room)
                  (λ ends text known. subst (ReadsOn left text stands.cards read_on) ends (is.read text known)) none feed;
            };
            broken = λ _. breaks.told;
          }

  -- a card more was fed, and its lines are written
  pub goes_further : (read_on : Reading S) (next : Option (List ℕ)) (new : Run) (more : List PlacedLine) (written : Writing W)
      → IsNext left chart start stands.cards read_on next → HaveNoMisfit chart.lines stands.cards next
      → GainsFeed run.machine.net run.machine.machine next new.machine.machine [] more → new.machine.net ≡ run.machine.net
      → ((one : List ℕ) → next ≡ Some one → HaveLast chart.lines (stands.cards ++ one ∷ []) new.last new.sums)
      → new.count ≡ run.count + 1 → is_none next ≡ false
      → TakesUp held (added_all writing.form_lines writing.page writing.line more) writing.out written.out
      → written.form_lines ≡ writing.form_lines → written.page ≡ page_after writing.page more → written.line ≡ line_after writing.line more
      → Stands left held has_failed chart start read_on new written
  goes_further read_on None new more written is none gains net sums count some takes same page line = cc
  goes_further read_on (Some card) new more written is none gains net sums count some takes same page line =
      let long = length-append stands.cards (card ∷ []) in
      record {
        cards = stands.cards ++ card ∷ [];
        lines = stands.lines ++ more;
        fed = fed_next chart start.wiring stands.cards run.machine.machine stands.lines card new.machine.machine more stands.fed is.valid is.room.1
            none (feed is gains);
        net = subst (IsNetOf start.wiring) (sym net) stands.net;
        sums = sums card refl;
        counted = omega (arith, long, count, stands.counted);
        given = omega (arith, long, is.room.0);
        well = is.well;
        read = is.read;
        form = same ∙ stands.form;
        written = takes_more form stands.lines more writing written form_is (in_order is gains) stands.written takes same page line;
      }

  -- the end was fed, and the last lines are written
  pub ends_here : (read_on : Reading S) (next : Option (List ℕ)) (new : MachineState) (more : List PlacedLine) (written : Writing W) (count : ℕ)
      → IsNext left chart start stands.cards read_on next → HaveNoMisfit chart.lines stands.cards next
      → GainsFeed run.machine.net run.machine.machine next new [] more → count ≡ run.count → is_none next ≡ true
      → TakesUp held (added_all writing.form_lines writing.page writing.line more) writing.out written.out
      → written.form_lines ≡ writing.form_lines → written.page ≡ page_after writing.page more → written.line ≡ line_after writing.line more
      → Ends left held has_failed chart start read_on count written
  ends_here read_on None new more written count is none gains counted last takes same page line =
      let ends = fed_end chart start.wiring stands.cards run.machine.machine stands.lines new more stands.fed none (feed is gains) in
      record {
        cards = stands.cards;
        lines = stands.lines ++ more;
        valid = deck;
        fit = ends.0;
        so_far = fit_so_far;
        printed = ends.1;
        counted = counted ∙ stands.counted;
        read = is.read;
        up_to = is.up_to;
        all = is.all;
        form = same ∙ stands.form;
        written = takes_more form stands.lines more writing written form_is (in_order is gains) stands.written takes same page line;
      }
  ends_here read_on (Some card) new more written count is none gains counted last takes same page line = cc
