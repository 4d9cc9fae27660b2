-- The parts of the page.
use Rattle.std.proofs.Common.{◌≡◌, ◌∙◌, sym, ap, subst, ℕ, ◌+◌, ◌<◌, List, [], ◌∷◌, ◌++◌, Option, length, take, get_or}
use Rattle.std.specs.Prelude.{All, IfOk, Result, Ok, Err, String, map}
use Rattle.std.specs.declared.alloc.Global.{Global}
use Rattle.std.proofs.lemmas.List.{map-append, take_more}
use Rattle.show_sums.specs.CardSections.Sections.{sections_text}
use Rattle.chart_lines.specs.declared.charts.chart.Line.{Line}
use Rattle.show_page.specs.CycleSteps.Steps.{IsStepSection, links_text}
use Rattle.explain_wheels.specs.ExplanationsWords.Pages.{AreFoundLines}
use Rattle.explain_wheels.specs.declared.explanations.found.FoundLine.{FoundLine}
use Rattle.hubs.specs.declared.hub.Hub.{Hub}
use Rattle.show_drawings.specs.MarkupWords.Pieces.{GainsEach}
use Rattle.page_text.specs.declared.placed_lines.placed_line.PlacedLine.{PlacedLine}
use Rattle.hubs.specs.SetupsWords.Wiring.{Wiring}
use Rattle.show_page.specs.ShownLines.Shown.{AreShown}
use Rattle.show_sections.specs.WheelSections.Sections.{told_sections}
use Rattle.show_sections.specs.WheelSections.ToldWheels.{AreTold, IsTold, printed_places}
use Rattle.explain_words.specs.declared.explanation_text.text.ToldWheel.{ToldWheel}
use Rattle.show_sections.specs.WireSections.Helper.{GainsWireSections}
use Rattle.show_links.specs.declared.shown.ShownRun.{ShownRun}
use Rattle.show_drawings.specs.DrawingsWords.PanelDrawing.Helper.{GainsDrawing}
use Rattle.show_drawings.specs.declared.drawings.panel_drawing.drawing.PanelWire.{PanelWire}
use Rattle.show_links.specs.declared.sum_places.places.SumPlace.{SumPlace}
use Rattle.show_sums.specs.SumSections.Sections.{sum_sections_text}
use Rattle.show_sums.specs.SumSections.Sums.{AreSums, IsExplained, place_of}
use Rattle.show_sums.specs.declared.sum_sections.sums.PageSum.{PageSum}
use Rattle.explain_words.specs.TracesWords.Parts.{IsTracePart}
use Rattle.explain_words.specs.declared.traces.parts.TracePart.{TracePart}
use Rattle.explain_wheel_ledgers.specs.declared.chart_totals.TitledAccount.{TitledAccount}
use Rattle.show_page.specs.Begin.{begin_text}
use Rattle.show_page.specs.Choice.{cycles_shown, pages_shown}
use Rattle.show_page.specs.Cycles.{shown_cycles}
use Rattle.show_page.specs.Frame.{document_close, stage_open}
use Rattle.show_page.specs.Helper.{GainsBody, GainsHead}
use Rattle.show_page.specs.Marks.{page_rules}
use Rattle.show_page.specs.Page.{IsPage, cards_part, counts_of, lines_shown, page_text, sheets_part, unasked}
use Rattle.show_page.specs.Shown.{cards_shown, shown_cards, shown_run}
use Rattle.show_page.specs.Titles.{head_text, heading_of}

-- one wire more that no line asks for
pub unasked_item : (pairs : List (Hub × Hub)) (place : ℕ) (d : Hub × Hub) (old new : List PanelWire) (wire : PanelWire)
    → place < length pairs → old ≡ map unasked (take place pairs) → wire ≡ unasked (get_or pairs place d) → new ≡ old ++ wire ∷ []
    → new ≡ map unasked (take (place + 1) pairs)
unasked_item pairs place d old new wire less before is pushed =
    pushed ∙ ap (λ (w : PanelWire). old ++ w ∷ []) is ∙ ap (λ (l : List PanelWire). l ++ unasked (get_or pairs place d) ∷ []) before
    ∙ sym (map-append unasked (take place pairs) (get_or pairs place d ∷ []))
    ∙ ap (λ (l : List (Hub × Hub)). map unasked l) (sym (take_more pairs place d less))

-- wheels that are told of are explained
pub told_explained : (wiring : Wiring) (asked : List (String Global × Wiring)) (deck : List (List ℕ)) (told : List ToldWheel)
    → All (IsTold wiring asked deck) told → All (λ one. IsExplained wiring deck one.why) told
told_explained wiring asked deck told all = λ k d less. (all k d less).right

-- the pieces behind the cards
pub body_whole : (wiring : Wiring) (found : List FoundLine) (chart : List Line) (run : ShownRun) (cards : List (List ℕ)) (part : TracePart)
    (wires : List PanelWire) (totals : List TitledAccount) (told : List ToldWheel) (sums : List PageSum) (places : List SumPlace)
    (legend old one two three four five six seven eight nine ten eleven new : List ℕ)
    → GainsDrawing wires old one → two ≡ one ++ legend → three ≡ two ++ stage_open
    → four ≡ three ++ begin_text told sums run.cards.first cards wires part
    → five ≡ four ++ told_sections run.cards places totals told → six ≡ five ++ sum_sections_text run.cards sums
    → seven ≡ six ++ sections_text chart run part.text.items sums cards → GainsWireSections wires told places seven eight
    → nine ≡ eight ++ shown_cycles part → ten ≡ nine ++ links_text found → GainsEach (IsStepSection wiring wires) found ten eleven
    → new ≡ eleven ++ document_close → GainsBody wiring found chart run cards part wires legend totals told sums places old new
body_whole wiring found chart run cards part wires totals told sums places legend old one two three four five six seven eight nine ten eleven
    new h1 h2 h3 h4 h5 h6 h7 h8 h9 h10 h11 h12 =
    record {
      drawing = h1.drawing;
      drawn = h1.is;
      ways = h8.text;
      are_ways = h8.are;
      steps = h11.text;
      are_steps = h11.each;
      gained =
          h12 ∙ ap (λ (l : List ℕ). l ++ document_close)
          (h11.gained ∙ ap (λ (l : List ℕ). l ++ h11.text)
          (h10 ∙ ap (λ (l : List ℕ). l ++ links_text found)
          (h9 ∙ ap (λ (l : List ℕ). l ++ shown_cycles part)
          (h8.gained ∙ ap (λ (l : List ℕ). l ++ h8.text)
          (h7 ∙ ap (λ (l : List ℕ). l ++ sections_text chart run part.text.items sums cards)
          (h6 ∙ ap (λ (l : List ℕ). l ++ sum_sections_text run.cards sums)
          (h5 ∙ ap (λ (l : List ℕ). l ++ told_sections run.cards places totals told)
          (h4 ∙ ap (λ (l : List ℕ). l ++ begin_text told sums run.cards.first cards wires part)
          (h3 ∙ ap (λ (l : List ℕ). l ++ stage_open) (h2 ∙ ap (λ (l : List ℕ). l ++ legend) h1.gained))))))))));
    }

-- the pieces of the page
pub page_whole : (wiring : Wiring) (asked : List (String Global × Wiring)) (totals : List TitledAccount) (deck : List (List ℕ))
    (chart : List Line) (around : Option ℕ) (placed : List PlacedLine) (found : List FoundLine) (part : TracePart) (wires : List PanelWire)
    (told : List ToldWheel) (sums : List PageSum) (legend none one two three new : List ℕ)
    → AreShown wiring deck (pages_shown around (length deck)) placed found
    → IsTracePart wiring deck (cycles_shown around (length deck) found) part
    → AreTold wiring asked deck (printed_places placed) told → AreSums wiring totals deck told sums → none ≡ []
    → GainsHead (heading_of chart) (record { cards = length deck; lines = part.lines; wires = length wires }) placed none one
    → two ≡ one ++ sheets_part (cards_shown (cycles_shown around (length deck) found) (length deck)) around (length deck) placed found
    wiring.tape.lines
    → three ≡ two ++ cards_part chart (cards_shown (cycles_shown around (length deck) found) (length deck))
    (shown_cards (cycles_shown around (length deck) found) deck)
    → GainsBody wiring found chart (shown_run (cycles_shown around (length deck) found) (length deck) part)
    (shown_cards (cycles_shown around (length deck) found) deck) part wires legend totals told sums (map place_of sums) three new
    → IsPage wiring asked totals deck chart wires legend around new
unfolding page_text
page_whole wiring asked totals deck chart around placed found part wires told sums legend none one two three new are traced are_told
    are_sums empty first sheets cards_are body =
    let cards = length deck in
    let choice = cycles_shown around cards found in
    let run = shown_run choice cards part in
    let same : placed ≡ lines_shown around cards traced.lines = are.placed_are traced.lines traced.prints in
    let head =
    subst (λ (l : List PlacedLine). GainsHead (heading_of chart) (counts_of deck traced.lines wires) l none one) same
    (subst (λ (n : ℕ). GainsHead (heading_of chart) (record { cards = cards; lines = n; wires = length wires }) placed none one)
    traced.counted first) in
    record {
      lines = traced.lines;
      run = traced.prints;
      style = head.style;
      is_style = head.is_style;
      found = found;
      are_found = subst (λ (l : List PlacedLine). AreFoundLines wiring deck l found) same are.found_are;
      told = told;
      are_told = subst (λ (l : List PlacedLine). AreTold wiring asked deck (printed_places l) told) same are_told;
      sums = sums;
      are_sums = are_sums;
      drawing = body.drawing;
      drawn = body.drawn;
      ways = body.ways;
      are_ways = body.are_ways;
      steps = body.steps;
      are_steps = body.are_steps;
      part = part;
      traced = traced;
      spelled =
          let of_head =
          head_text (head.style ++ page_rules (lines_shown around cards traced.lines)) (heading_of chart)
          (counts_of deck traced.lines wires) in
          let sheets_text = sheets_part run.cards around cards (lines_shown around cards traced.lines) found wiring.tape.lines in
          let sheets_are : two ≡ one ++ sheets_text =
          sheets ∙ ap (λ (l : List PlacedLine). one ++ sheets_part run.cards around cards l found wiring.tape.lines) same in
          subst (λ (l : List ℕ). new ≡ l ++ body.drawing ++ legend ++ stage_open
          ++ begin_text told sums run.cards.first (shown_cards choice deck) wires part
          ++ told_sections run.cards (map place_of sums) totals told ++ sum_sections_text run.cards sums
          ++ sections_text chart run part.text.items sums (shown_cards choice deck) ++ body.ways ++ shown_cycles part ++ links_text found
          ++ body.steps ++ document_close)
          (cards_are ∙ ap (λ (l : List ℕ). l ++ cards_part chart run.cards (shown_cards choice deck))
          (sheets_are ∙ ap (λ (l : List ℕ). l ++ sheets_text) (head.gained ∙ ap (λ (l : List ℕ). l ++ of_head) empty))) body.gained;
    }

-- what is known of a page that is made
pub made : {X E : Type 0} (result : Result X E) {P Q : X → Type 0} → ((x : X) → P x → Q x) → IfOk result P → IfOk result Q
made (Ok x) by is = by x is
made (Err _) by is = tt

-- a page of parts that are the same
pub same_page : (wiring : Wiring) (asked asked' : List (String Global × Wiring)) (totals totals' : List TitledAccount)
    (deck : List (List ℕ)) (chart chart' : List Line) (wires wires' : List PanelWire) (legend legend' : List ℕ) (around : Option ℕ)
    (text : List ℕ) → asked ≡ asked' → totals ≡ totals' → chart ≡ chart' → wires ≡ wires' → legend ≡ legend'
    → IsPage wiring asked totals deck chart wires legend around text → IsPage wiring asked' totals' deck chart' wires' legend' around text
same_page wiring asked asked' totals totals' deck chart chart' wires wires' legend legend' around text h1 h2 h3 h4 h5 is =
    subst (λ (l : List ℕ). IsPage wiring asked' totals' deck chart' wires' l around text) h5
    (subst (λ (w : List PanelWire). IsPage wiring asked' totals' deck chart' w legend around text) h4
    (subst (λ (c : List Line). IsPage wiring asked' totals' deck c wires legend around text) h3
    (subst (λ (t : List TitledAccount). IsPage wiring asked' t deck chart wires legend around text) h2
    (subst (λ (a : List (String Global × Wiring)). IsPage wiring a totals deck chart wires legend around text) h1 is))))
