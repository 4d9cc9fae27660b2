use Rattle.std.proofs.Common.{◌≡◌, ◌∙◌, ◌++◌, ap, subst, sym, ℕ, List, length}
use Rattle.std.specs.Prelude.{All, map}
use Rattle.std.specs.String.{string_bytes}
use Rattle.explain_wheels.specs.declared.explanations.found.FoundLine.{FoundLine}
use Rattle.show_links.specs.declared.shown.ShownRun.{ShownRun}
use Rattle.page_text.specs.declared.placed_lines.placed_line.PlacedLine.{PlacedLine}
use Rattle.hubs.specs.SetupsWords.Tapes.{CarriageTape}
use Rattle.show_sections.specs.WheelSections.ToldWheels.{AreTold, printed_places}
use Rattle.explain_words.specs.declared.explanation_text.text.ToldWheel.{ToldWheel}
use Rattle.show_links.specs.declared.sum_places.places.SumPlace.{SumPlace}
use Rattle.show_sums.specs.SumSections.Sums.{AreSums, IsExplained, place_of}
use Rattle.show_sums.specs.declared.sum_sections.sums.PageSum.{PageSum}
use Rattle.explain_words.specs.TracesWords.Parts.{IsTracePart}
use Rattle.explain_words.specs.declared.traces.parts.CycleChoice.{CycleChoice}
use Rattle.show_page.specs.Choice.{cycles_shown}
use Rattle.show_page.specs.Helper.{GainsBody, GainsHead}
use Rattle.show_page.specs.Page.{cards_part, sheets_part}
use Rattle.show_page.specs.Shown.{shown_cards, shown_run}
use Rattle.show_page.specs.Titles.{heading_of}
use Rattle.show_page.proofs.Parts.{page_whole, told_explained}
use Rattle.show_page.proofs.show.page.Goals as goal

pub told_wheels-requires : goal.told_wheels-requires
told_wheels-requires c =
    rw (c.deref-2.ensures.value, c.deref-3.ensures.value) c.in_ok-shown.ensures.found_are

pub page_sums-requires-clause-explained : goal.page_sums-requires-clause-explained
page_sums-requires-clause-explained c =
    subst (λ (l : List ToldWheel). All (λ one. IsExplained c.args.setup.now c.args.cards.now one.why) l) (sym c.deref-4.ensures.value)
    (told_explained c.args.setup.now c.args.asked.now c.args.cards.now c.in_ok-told.told.items c.in_ok-told.ensures.each)

pub returns : goal.returns
returns c =
    let setup = c.args.setup.now in
    let deck = c.args.cards.now in
    let chart = c.args.chart.now in
    let wires = c.args.wires.now in
    let legend = c.args.legend.now in
    let around = c.args.around in
    let totals = c.args.totals.now in
    let cards = length deck in
    let placed = c.in_ok-shown.shown.lines.items in
    let found = c.in_ok-shown.shown.found.items in
    let told = c.in_ok-told.told.items in
    let part = c.in_ok-part.part in
    let long : c.from-form_lines.result ≡ setup.tape.lines =
    c.from-form_lines.ensures ∙ c.lines.ensures.value ∙ ap (λ (t : CarriageTape). t.lines) c.tape.ensures.value in
    let sums = c.in_ok-sums.sums.items in
    let chosen = cycles_shown around cards found in
    let choice : c.cycles_shown-choice.result ≡ chosen =
    c.cycles_shown-choice.ensures ∙ ap (λ (f : List FoundLine). cycles_shown around cards f) c.deref.ensures.value in
    let run : c.shown_run-run.result ≡ shown_run chosen cards part =
    c.shown_run-run.ensures.value ∙ ap (λ (x : CycleChoice). shown_run x cards part) choice in
    let shown : c.shown_cards-cards_shown.result.now ≡ shown_cards chosen deck =
    c.shown_cards-cards_shown.ensures.value ∙ ap (λ (x : CycleChoice). shown_cards x deck) choice in
    let at_places : c.deref-11.result.now ≡ map place_of sums =
    c.deref-11.ensures.value ∙ c.in_ok-places.ensures ∙ ap (λ (l : List PageSum). map place_of l) c.deref-5.ensures.value in
    let none = string_bytes c.new-text.result in
    let one = string_bytes c.write_head.new.text in
    let two = string_bytes c.write_sheets_part.new.text in
    let three = string_bytes c.write_cards_part.new.text in
    let new = string_bytes c.write_body.new.text in
    page_whole setup c.args.asked.now totals deck chart around placed found part wires told sums legend none one two three new
    c.in_ok-shown.ensures
    (subst (λ (x : CycleChoice). IsTracePart setup deck x part) choice c.in_ok-part.ensures.part)
    (subst (λ (l : List PlacedLine). AreTold setup c.args.asked.now deck (printed_places l) told) c.deref-2.ensures.value
    c.in_ok-told.ensures)
    (subst (λ (l : List ToldWheel). AreSums setup totals deck l sums) c.deref-4.ensures.value c.in_ok-sums.ensures)
    c.new-text.ensures.bytes
    (subst (λ (l : List PlacedLine).
    GainsHead (heading_of chart) (record { cards = cards; lines = part.lines; wires = length wires }) l none one) c.deref-6.ensures.value
    (subst (λ (h : List ℕ).
    GainsHead h (record { cards = cards; lines = part.lines; wires = length wires }) c.deref-6.result.now none one)
    c.heading_of.ensures c.in_ok-write_head.ensures))
    (subst (λ (r : ShownRun). two ≡ one ++ sheets_part r.cards around cards placed found setup.tape.lines) run
    (subst (λ (n : ℕ). two ≡ one ++ sheets_part c.shown_run-run.result.cards around cards placed found n) long
    (subst (λ (l : List PlacedLine). two ≡ one ++ sheets_part c.shown_run-run.result.cards around cards l found c.from-form_lines.result)
    c.deref-7.ensures.value
    (subst (λ (f : List FoundLine).
    two ≡ one ++ sheets_part c.shown_run-run.result.cards around cards c.deref-7.result.now f c.from-form_lines.result)
    c.deref-8.ensures.value c.in_ok-write_sheets_part.ensures))))
    (subst (λ (r : ShownRun). three ≡ two ++ cards_part chart r.cards (shown_cards chosen deck)) run
    (subst (λ (l : List (List ℕ)). three ≡ two ++ cards_part chart c.shown_run-run.result.cards l)
    shown c.in_ok-write_cards_part.ensures))
    (subst (λ (f : List FoundLine).
    GainsBody setup f chart (shown_run chosen cards part) (shown_cards chosen deck) part wires legend totals told sums (map place_of sums)
    three new) c.deref-12.ensures.value
    (subst (λ (r : ShownRun).
    GainsBody setup c.deref-12.result.now chart r (shown_cards chosen deck) part wires legend totals told sums (map place_of sums) three new)
    run
    (subst (λ (l : List SumPlace).
    GainsBody setup c.deref-12.result.now chart c.shown_run-run.result (shown_cards chosen deck) part wires legend totals told sums l three
    new) at_places
    (subst (λ (l : List PageSum).
    GainsBody setup c.deref-12.result.now chart c.shown_run-run.result (shown_cards chosen deck) part wires legend totals told l
    c.deref-11.result.now three new)
    c.deref-10.ensures.value
    (subst (λ (l : List ToldWheel).
    GainsBody setup c.deref-12.result.now chart c.shown_run-run.result (shown_cards chosen deck) part wires legend totals l
    c.deref-10.result.now c.deref-11.result.now three new) c.deref-9.ensures.value
    (subst (λ (l : List (List ℕ)).
    GainsBody setup c.deref-12.result.now chart c.shown_run-run.result l part wires legend totals c.deref-9.result.now
    c.deref-10.result.now c.deref-11.result.now three new) shown c.in_ok-write_body.ensures))))))
