-- How the cards that a machine was fed and the lines that it has placed stand in the report.
use Rattle.std.proofs.Common.{◌≡◌, ◌∙◌, refl, sym, ap, subst, ℕ, ◌-◌, ◌<◌, ◌≤◌, List, [], ◌∷◌, ◌++◌, Option, Some, None, length, append-nil, option_map, arith}
use Rattle.std.proofs.lemmas.List.Elements.{All-nil}
use Rattle.std.specs.Io.{StartsWith}
use Rattle.std.specs.Prelude.{option_to_list}
use Rattle.card_code.specs.MostCards.{most_cards}
use Rattle.chart_lines.specs.ChartsWords.Chart.{Chart}
use Rattle.chart_lines.specs.declared.charts.chart.Line.{Line}
use Rattle.chart_rules.specs.ValidCard.{IsValidCard}
use Rattle.report_definition.specs.FollowedDecks.FitSoFar.{misfits_of_last}
use Rattle.report_definition.specs.FollowedDecks.Stands.{report_before}
use Rattle.report_definition.proofs.FollowedDecks.Begins.{reports_begin}
use Rattle.report_definition.proofs.FollowedDecks.FitSoFar.{fits_before}
use Rattle.machine.specs.Feeds.{FedLines, Feeds}
use Rattle.machine.specs.Machine.{MachineState, machine_at_start}
use Rattle.machine.specs.Runs.{MachineLines}
use Rattle.machine.proofs.Order.{MachineLines-in_order}
use Rattle.report_misfits.specs.OpenSums.{Sums}
use Rattle.report_misfits.specs.ToldMisfits.{told}
use Rattle.report_misfits.specs.declared.misfit.Misfit.{Misfit as Found}
use Rattle.page_text.specs.Pages.{Pages}
use Rattle.report_writer.specs.Open.{Open}
use Rattle.report_writer.proofs.Opens.{pages_begin}
use Rattle.page_text.specs.PlacedLines.InOrder.{IsInOrder}
use Rattle.page_text.specs.declared.placed_lines.placed_line.PlacedLine.{PlacedLine}
use Rattle.report_runs.specs.PrintPromises.Promises.{IsDeck}
use Rattle.report_definition.specs.ChartForm.{form_of}
use Rattle.report_definition.specs.Misfits.{Misfit, first_of}
use Rattle.report_definition.specs.Report.{Report, report_lines}
use Rattle.report_definition.specs.Totals.{Fits}
use Rattle.report_definition.proofs.RisingPlaces.{places_rise}
use Rattle.hubs.specs.SetupsWords.Wiring.{Wiring}
use Rattle.report_runs.proofs.Feeding.{feeds_in_order}
use Rattle.report_runs.proofs.Streams.{streams_begin, streams_end, streams_go_on, streams_of_none}
use Rattle.report_runs.specs.HelperStanding.{HasFed, HaveLast, Serves}

-- the groups that end with the last of some cards have no misfit, given the next one
abbrev pub HaveNoMisfit : List Line → List (List ℕ) → Option (List ℕ) → Type 0
HaveNoMisfit lines [] next = Unit {0}
HaveNoMisfit lines (card ∷ cards) next = misfits_of_last lines card cards next ≡ []

none_first : (found : List Misfit) → None ≡ first_of found → found ≡ []
none_first [] is = refl
none_first (one ∷ others) is = cc

-- so it is where none is told of them
pub none_told : (lines : List Line) (cards : List (List ℕ)) (last next : Option (List ℕ)) (sums : Sums) (found : Option Found)
    → ((card : List ℕ) (others : List (List ℕ)) → HaveLast lines (card ∷ others) last sums
    → option_map told found ≡ first_of (misfits_of_last lines card others next))
    → found ≡ None → HaveLast lines cards last sums → HaveNoMisfit lines cards next
none_told lines [] last next sums found tells none have = tt
none_told lines (card ∷ cards) last next sums found tells none have =
    none_first (misfits_of_last lines card cards next) (sym (ap (option_map told) none) ∙ tells card cards have)

module _ (chart : Chart) (wiring : Wiring) where
  -- the cards are a deck
  pub fed_deck : (cards : List (List ℕ)) (machine : MachineState) (lines : List PlacedLine) → HasFed chart wiring cards machine lines
      → IsDeck chart cards
  fed_deck [] machine lines fed = record { valid = All-nil (IsValidCard chart); long = omega arith }
  fed_deck (card ∷ cards) machine lines fed = record { valid = fed.valid; long = fed.few }

  -- the lines are those of its feeds
  pub fed_lines : (cards : List (List ℕ)) (machine : MachineState) (lines : List PlacedLine) → HasFed chart wiring cards machine lines
      → FedLines wiring (machine_at_start wiring) cards machine lines
  unfolding FedLines
  fed_lines [] machine lines fed = fed
  fed_lines (card ∷ cards) machine lines fed = fed.fed

  -- a card more
  pub fed_next : (cards : List (List ℕ)) (machine : MachineState) (lines : List PlacedLine) (next : List ℕ) (new : MachineState)
      (more : List PlacedLine)
      → HasFed chart wiring cards machine lines → IsValidCard chart next → length cards < most_cards
      → HaveNoMisfit chart.lines cards (Some next) → Feeds wiring machine (Some next) new more
      → HasFed chart wiring (cards ++ next ∷ []) new (lines ++ more)
  fed_next [] machine lines next new more fed valid room none feed =
      subst (HasFed chart wiring (next ∷ []) new) (sym (ap (λ l. l ++ more) fed.1))
      (streams_begin chart wiring next new more valid (subst (λ m. Feeds wiring m (Some next) new more) fed.0 feed))
  fed_next (card ∷ cards) machine lines next new more fed valid room none feed =
      streams_go_on chart wiring card cards machine lines next new more fed valid room none feed

  -- the end
  pub fed_end : (cards : List (List ℕ)) (machine : MachineState) (lines : List PlacedLine) (new : MachineState) (more : List PlacedLine)
      → HasFed chart wiring cards machine lines → HaveNoMisfit chart.lines cards None → Feeds wiring machine None new more
      → Fits chart.lines cards × MachineLines wiring cards (lines ++ more)
  fed_end [] machine lines new more fed none feed =
      let ends = streams_of_none chart wiring new more (subst (λ m. Feeds wiring m None new more) fed.0 feed) in
      (ends.0, subst (MachineLines wiring []) (sym (ap (λ l. l ++ more) fed.1)) ends.1)
  fed_end (card ∷ cards) machine lines new more fed none feed =
      streams_end chart wiring card cards machine lines new more fed none feed

module _ (chart : Chart) (wiring : Wiring) (serves : Serves chart wiring) where
  -- the lines are those before the last card's
  pub stand_before_last : (card : List ℕ) (cards later : List (List ℕ)) (machine : MachineState) (lines : List PlacedLine)
      → HasFed chart wiring (card ∷ cards) machine lines → lines ≡ report_before chart (card ∷ (cards ++ later)) (length cards)
  stand_before_last card cards later machine lines fed =
      (serves.begins card cards later (record { valid = fed.valid; long = fed.few }) (fits_before chart.lines card cards later fed.fit)).1
      machine lines fed.fed

  pub stand_before : (cards : List (List ℕ)) (machine : MachineState) (lines : List PlacedLine) → HasFed chart wiring cards machine lines
      → lines ≡ report_before chart cards (length cards - 1)
  stand_before [] machine lines fed = fed.1
  stand_before (card ∷ cards) machine lines fed =
      let count : length (card ∷ cards) - 1 ≡ length cards = omega arith in
      stand_before_last card cards [] machine lines fed
      ∙ ap (λ l. report_before chart (card ∷ l) (length cards)) (append-nil cards)
      ∙ ap (report_before chart (card ∷ cards)) (sym count)

  -- and those of the report go on from there, whatever cards come later
  report_from : (cards later : List (List ℕ)) (machine : MachineState) (lines : List PlacedLine) → HasFed chart wiring cards machine lines
      → (rest : List PlacedLine) × (report_lines chart (cards ++ later) ≡ lines ++ rest)
  report_from [] later machine lines fed = (report_lines chart later, ap (λ l. l ++ report_lines chart later) (sym fed.1))
  report_from (card ∷ cards) later machine lines fed =
      let begins = (reports_begin chart card cards later).1 in
      (begins.0, begins.1 ∙ ap (λ l. l ++ begins.0) (sym (stand_before_last card cards later machine lines fed)))

  -- so the report begins with what is written of them
  pub report_begins : (cards later all : List (List ℕ)) (machine : MachineState) (lines : List PlacedLine) → HasFed chart wiring cards machine lines
      → cards ++ later ≡ all → IsDeck chart all → StartsWith (Report chart all) (Open lines (form_of chart.lines).lines)
  report_begins cards later all machine lines fed parts deck =
      let form = (form_of chart.lines).lines in
      let from = report_from cards later machine lines fed in
      let is : report_lines chart all ≡ lines ++ from.0 = ap (report_lines chart) (sym parts) ∙ from.1 in
      subst (λ l. StartsWith (Pages l form) (Open lines form)) (sym is)
      (pages_begin form lines from.0 (subst (IsInOrder form) is (places_rise chart all serves.lawful deck.long)))

  -- the lines of a whole run are in order
  pub run_in_order : (cards : List (List ℕ)) (lines : List PlacedLine) → IsDeck chart cards → MachineLines wiring cards lines
      → IsInOrder (form_of chart.lines).lines lines
  run_in_order cards lines deck run =
      subst (λ f. IsInOrder f lines) serves.form (MachineLines-in_order wiring cards lines serves.tape deck.long run)

  -- and the report begins with what is written of them
  pub run_begins : (cards : List (List ℕ)) (lines : List PlacedLine) → IsDeck chart cards → Fits chart.lines cards → MachineLines wiring cards lines
      → StartsWith (Report chart cards) (Open lines (form_of chart.lines).lines)
  run_begins cards lines deck fit run =
      let form = (form_of chart.lines).lines in
      let all : lines ++ [] ≡ lines = append-nil lines in
      let pages : Pages (lines ++ []) form ≡ Report chart cards =
      ap (λ l. Pages l form) all ∙ (serves.prints cards deck fit).1 lines run in
      subst (λ bytes. StartsWith bytes (Open lines form)) pages
      (pages_begin form lines [] (subst (IsInOrder form) (sym all) (run_in_order cards lines deck run)))

  -- the lines of one feed more come in order after the others
  pub feed_in_order : (cards : List (List ℕ)) (next : Option (List ℕ)) (machine new : MachineState) (lines more : List PlacedLine)
      → HasFed chart wiring cards machine lines → length (cards ++ option_to_list next) ≤ most_cards → Feeds wiring machine next new more
      → IsInOrder (form_of chart.lines).lines (lines ++ more)
  feed_in_order cards next machine new lines more fed few feed =
      subst (λ f. IsInOrder f (lines ++ more)) serves.form
      (feeds_in_order wiring cards next machine new lines more serves.tape few (fed_lines chart wiring cards machine lines fed) feed)
