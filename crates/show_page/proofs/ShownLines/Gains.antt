-- Lines come behind others, page by page.
use Rattle.std.proofs.Common.{◌≡◌, ◌∙◌, sym, ap, subst, refl, ℕ, List, [], ◌∷◌, ◌++◌, append-nil, append_assoc, map, None, Some}
use Rattle.std.specs.Prelude.{All, OnOk, Result, Ok, Err}
use Rattle.std.specs.List.{AllZip, filter, flat_map}
use Rattle.std.proofs.lemmas.Grind.{flat_map-append}
use Rattle.std.proofs.lemmas.List.{map-append}
use Rattle.std.proofs.lemmas.List.Elements.{All-head, All-tail, Contains-get_or}
use Rattle.explain_wheels.specs.ExplanationsWords.Pages.{AreFoundLines, IsFoundLine, IsPage, found_of, line_found}
use Rattle.explain_wheels.specs.ExplanationsWords.PlacedInRun.{IsFound, PrintsLine}
use Rattle.explain_wheels.specs.declared.explanations.explanation.LineWays.{LineWays}
use Rattle.explain_wheels.specs.declared.explanations.found.FoundLine.{FoundLine}
use Rattle.machine.specs.Kept.{is_on}
use Rattle.machine.specs.Runs.{MachineLines}
use Rattle.machine.proofs.OneOutcome.{MachineLines-one}
use Rattle.page_text.specs.declared.placed_lines.placed_line.PlacedLine.{PlacedLine}
use Rattle.hubs.specs.SetupsWords.Wiring.{Wiring}
use Rattle.show_page.specs.ShownLines.Helper.{GainsLines, GainsPage}
use Rattle.show_page.specs.ShownLines.Shown.{AreShown, lines_on}

-- no line is added, and some lines are, and then others
pub GainsLines-none : (lines : List PlacedLine) (found : List FoundLine) → GainsLines [] lines lines found found
GainsLines-none lines found = record { placed = sym (append-nil lines); cycles = sym (append-nil found) }

pub GainsLines-more : (some others : List FoundLine) (lines lines_mid lines_now : List PlacedLine) (found found_mid found_now : List FoundLine)
    → GainsLines some lines lines_mid found found_mid → GainsLines others lines_mid lines_now found_mid found_now
    → GainsLines (some ++ others) lines lines_now found found_now
GainsLines-more some others lines lines_mid lines_now found found_mid found_now first next = record {
  placed =
      next.placed ∙ ap (λ (l : List PlacedLine). l ++ map line_found others) first.placed
      ∙ append_assoc lines (map line_found some) (map line_found others)
      ∙ ap (λ (l : List PlacedLine). lines ++ l) (sym (map-append line_found some others));
  cycles = next.cycles ∙ ap (λ (l : List FoundLine). l ++ others) first.cycles ∙ append_assoc found some others;
}

-- lists that agree place by place, one behind the other
zip_both : {X Y : Type 0} (R : X → Y → Type 0) (one other : List X) (some more : List Y) → AllZip R one some → AllZip R other more
    → AllZip R (one ++ other) (some ++ more)
zip_both R [] other [] more first next = next
zip_both R [] other (y ∷ some) more first next = absurd first
zip_both R (x ∷ one) other [] more first next = absurd first
zip_both R (x ∷ one) other (y ∷ some) more (here, first) next = (here, zip_both R one other some more first next)

module _ (wiring : Wiring) (deck : List (List ℕ)) where
  -- a cycle that placed a line placed that one
  zip_found : (found : List FoundLine) → All (IsFound wiring deck) found → AreFoundLines wiring deck (map line_found found) found
  zip_found [] each = tt
  zip_found (one ∷ others) each = (
    record { found = All-head (IsFound wiring deck) one others each; at_page = refl; at_line = refl },
    zip_found others (All-tail (IsFound wiring deck) one others each),
  )

  -- all lines of a run
  pub all_print : (lines : List PlacedLine) → MachineLines wiring deck lines → All (PrintsLine wiring deck) lines
  all_print lines run = λ k d less. record { lines = lines; run = run; printed = Contains-get_or lines k d less }

  pub all_shown : (lines : List PlacedLine) (found : List FoundLine) → MachineLines wiring deck lines → AreFoundLines wiring deck lines found
      → AreShown wiring deck None lines found
  all_shown lines found run are = record {
    placed_are = λ others is. MachineLines-one wiring deck lines others run is;
    found_are = are;
  }

  -- those of no page
  pub none_shown : AreShown wiring deck (Some []) [] []
  none_shown = record { placed_are = λ lines run. refl; found_are = tt }

  -- those of one page more
  pub page_shown : (pages : List ℕ) (page : ℕ) (lines lines_now : List PlacedLine) (found found_now : List FoundLine)
      → AreShown wiring deck (Some pages) lines found → GainsPage wiring deck page lines lines_now found found_now
      → AreShown wiring deck (Some (pages ++ page ∷ [])) lines_now found_now
  page_shown pages page lines lines_now found found_now before gains = record {
    placed_are = λ all run.
        let same : gains.has.lines ≡ all = MachineLines-one wiring deck gains.has.lines all gains.has.run run in
        gains.gained.placed
        ∙ ap (λ (l : List PlacedLine). l ++ map line_found gains.some) (before.placed_are all run)
        ∙ ap (λ (l : List PlacedLine). flat_map (lines_on all) pages ++ l)
        (gains.has.exactly ∙ ap (λ (l : List PlacedLine). filter (is_on page) l) same ∙ sym (append-nil (lines_on all page)))
        ∙ sym (flat_map-append (lines_on all) pages (page ∷ []));
    found_are =
        subst (λ (l : List FoundLine). AreFoundLines wiring deck lines_now l) (sym gains.gained.cycles)
        (subst (λ (l : List PlacedLine). AreFoundLines wiring deck l (found ++ gains.some)) (sym gains.gained.placed)
        (zip_both (IsFoundLine wiring deck) lines (map line_found gains.some) found gains.some before.found_are
        (zip_found gains.some gains.has.each)));
  }

  -- what is gained of a page, where memory was not refused
  pub page_gained : {X E : Type 0} (result : Result X E) (page : ℕ) (ways given : List LineWays) (lines lines_now : List PlacedLine)
      (found found_now : List FoundLine) → IsPage wiring deck page ways → given ≡ ways
      → OnOk result (GainsLines (map found_of given) lines lines_now found found_now)
      → OnOk result (GainsPage wiring deck page lines lines_now found found_now)
  page_gained (Ok x) page ways given lines lines_now found found_now is same gains = record {
    some = map found_of ways;
    has = is.found;
    gained = subst (λ (l : List LineWays). GainsLines (map found_of l) lines lines_now found found_now) same gains;
  }
  page_gained (Err e) page ways given lines lines_now found found_now is same gains = tt
