-- A line that a cycle of a run places is among the lines of the run.
use Rattle.std.proofs.Common.{◌≡◌, ◌∙◌, sym, ap, subst, refl, arith, ℕ, List, [], ◌∷◌, ◌++◌, Option, Some, None, ◌<◌, get_or, length, length-drop, take, drop, append_assoc}
use Rattle.std.specs.Prelude.{Contains, slice_get}
use Rattle.std.proofs.lemmas.List.{take-append-drop, get_or-drop}
use Rattle.std.proofs.lemmas.List.Elements.{Contains-append_left, Contains-append_right}
use Rattle.std.proofs.lemmas.Option.{slice_get_past, slice_get-get_or}
use Rattle.page_text.specs.declared.placed_lines.placed_line.PlacedLine.{PlacedLine}
use Rattle.hubs.specs.SetupsWords.Wiring.{Wiring}
use Rattle.net.specs.declared.cycle.Cycle.{Cycle}
use Rattle.machine.specs.Cycles.{line_of}
use Rattle.machine.specs.Feeds.{Fed, FedLines, FeedRuns, Feeds, FeedStep, LinesFrom, begun}
use Rattle.machine.specs.Kept.{Steps}
use Rattle.machine.specs.Kept.Steps.{none, more}
use Rattle.machine.specs.Machine.{MachineState, machine_at_start}
use Rattle.machine.proofs.FeedsInRuns.{feeds-in-run}
use Rattle.machine.proofs.OneOutcome.{FeedStep-one}
use Rattle.machine.proofs.SomeOutcome.{LinesFrom-some}
use Rattle.explain_wheels.specs.ExplanationsWords.PlacedInRun.{PlacedLinesArePrinted}

-- The rest of a feed's cycles, from one of them on.
record Rest (wiring : Wiring) (now : Fed) (left : MachineState) (all : List PlacedLine) : Type 0 where
  cycles : List Cycle
  lines : List PlacedLine
  others : List PlacedLine
  runs : FeedRuns wiring cycles now left others
  is : all ≡ lines ++ others

Rest-none : (wiring : Wiring) (cycles : List Cycle) (now : Fed) (left : MachineState) (all : List PlacedLine)
    → FeedRuns wiring cycles now left all → Rest wiring now left all
Rest-none wiring cycles now left all runs = record { cycles = cycles; lines = []; others = all; runs = runs; is = refl }

-- a feed that can go on goes on with the cycle that is due
Rest-more : (wiring : Wiring) (cycle : Cycle) (old mid : Fed) (left : MachineState) (all : List PlacedLine) (cycles : List Cycle)
    (lines others : List PlacedLine) → FeedStep wiring cycle old mid → FeedRuns wiring cycles old left others → all ≡ lines ++ others
    → (after : List Cycle) × (rest : List PlacedLine) × FeedRuns wiring after mid left rest
    × (all ≡ lines ++ (line_of mid.machine ++ rest))
unfolding FeedRuns
Rest-more wiring cycle old mid left all [] lines others step (due, is_left, no_lines) is = let e = sym due ∙ step.due in cc
Rest-more wiring cycle old mid left all (also ∷ cycles) lines others step (also_mid, rest, also_step, run, same) is =
    let one = (FeedStep-one wiring old also_mid mid also cycle also_step step).1 in (
      cycles,
      rest,
      subst (λ (m : Fed). FeedRuns wiring cycles m left rest) one run,
      is ∙ ap (λ (l : List PlacedLine). lines ++ l) (same ∙ ap (λ (m : Fed). line_of m.machine ++ rest) one),
    )

Rest-steps : (wiring : Wiring) (start : Fed) (left : MachineState) (all : List PlacedLine) (cycles : List Cycle)
    → FeedRuns wiring cycles start left all → {now : Fed} → Steps wiring start now → Rest wiring now left all
Rest-steps wiring start left all cycles runs none = Rest-none wiring cycles start left all runs
Rest-steps wiring start left all cycles runs (more cycle mid now steps step) =
    let before = Rest-steps wiring start left all cycles runs steps in
    let goes = Rest-more wiring cycle mid now left all before.cycles before.lines before.others step before.runs before.is in
    record {
      cycles = goes.0;
      lines = before.lines ++ line_of now.machine;
      others = goes.1;
      runs = goes.2;
      is = goes.3 ∙ sym (append_assoc before.lines (line_of now.machine) goes.1);
    }

-- a cycle of a feed places its line among those of the feed
placed-in-feed : (wiring : Wiring) (machine new : MachineState) (next : Option (List ℕ)) (lines : List PlacedLine) (cycle : Cycle)
    (before after : Fed) (line : PlacedLine)
    → Feeds wiring machine next new lines → Steps wiring (begun machine next) before → FeedStep wiring cycle before after
    → line_of after.machine ≡ line ∷ [] → Contains lines line
placed-in-feed wiring machine new next lines cycle before after line feeds steps step placed =
    let rest = Rest-steps wiring (begun machine next) new lines feeds.cycles feeds.runs steps in
    let goes = Rest-more wiring cycle before after new lines rest.cycles rest.lines rest.others step rest.runs rest.is in
    subst (λ (all : List PlacedLine). Contains all line)
    (sym (goes.3 ∙ ap (λ (l : List PlacedLine). rest.lines ++ (l ++ goes.1)) placed))
    (Contains-append_right rest.lines (line ∷ goes.1) line (0, omega arith, refl))

-- feeds of some cards, and a run over the others
fed-then : (wiring : Wiring) (old : MachineState) (cards after : List (List ℕ)) (mid : MachineState) (lines rest : List PlacedLine)
    → FedLines wiring old cards mid lines → LinesFrom wiring mid after rest → LinesFrom wiring old (cards ++ after) (lines ++ rest)
unfolding FedLines LinesFrom
fed-then wiring old [] after mid lines rest (same, no_lines) run =
    subst (λ l. LinesFrom wiring old after l) (sym (ap (λ l. l ++ rest) no_lines)) (subst (λ m. LinesFrom wiring m after rest) same run)
fed-then wiring old (card ∷ cards) after mid lines rest (left, first, others, one, fed, is) run = (
  left,
  first,
  others ++ rest,
  one,
  fed-then wiring left cards after mid others rest fed run,
  ap (λ l. l ++ rest) is ∙ append_assoc first others rest,
)

-- the first card of some, or the end where there are none
first_card : List (List ℕ) → Option (List ℕ)
first_card [] = None
first_card (card ∷ cards) = Some card

first-dropped : (deck : List (List ℕ)) (cards : ℕ) → first_card (drop cards deck) ≡ slice_get deck cards
unfolding first_card
first-dropped deck cards = by (drop cards deck) refl where
  by : (rest : List (List ℕ)) → drop cards deck ≡ rest → first_card rest ≡ slice_get deck cards
  by [] is =
      let long = ap length is in let dropped = length-drop cards deck in
      sym (slice_get_past deck cards (omega (arith, long, dropped)))
  by (card ∷ rest) is =
      let long = ap length is in let dropped = length-drop cards deck in
      let within : cards < length deck = omega (arith, long, dropped) in
      let same : get_or deck cards card ≡ card =
      ap (λ (n : ℕ). get_or deck n card) (omega arith) ∙ sym (get_or-drop cards deck 0 card) ∙ ap (λ (l : List (List ℕ)). get_or l 0 card) is in
      sym (slice_get-get_or deck cards card within ∙ ap Some same)

-- the first feed of a run over some cards places the line
placed-first : (wiring : Wiring) (machine : MachineState) (cards : List (List ℕ)) (lines : List PlacedLine) (cycle : Cycle)
    (before after : Fed) (line : PlacedLine)
    → LinesFrom wiring machine cards lines → Steps wiring (begun machine (first_card cards)) before → FeedStep wiring cycle before after
    → line_of after.machine ≡ line ∷ [] → Contains lines line
unfolding LinesFrom first_card
placed-first wiring machine [] lines cycle before after line (new, feeds) steps step placed =
    placed-in-feed wiring machine new None lines cycle before after line feeds steps step placed
placed-first wiring machine (card ∷ cards) lines cycle before after line (new, first, others, feeds, run, is) steps step placed =
    subst (λ (all : List PlacedLine). Contains all line) (sym is)
    (Contains-append_left first others line
    (placed-in-feed wiring machine new (Some card) first cycle before after line feeds steps step placed))

pub placed-printed : PlacedLinesArePrinted
placed-printed wiring deck cards cycle line placed =
    let rest = LinesFrom-some wiring placed.machine (drop cards deck) in
    let all : LinesFrom wiring (machine_at_start wiring) deck (placed.lines ++ rest.0) =
    subst (λ (some : List (List ℕ)). LinesFrom wiring (machine_at_start wiring) some (placed.lines ++ rest.0)) (take-append-drop cards deck)
    (fed-then wiring (machine_at_start wiring) (take cards deck) (drop cards deck) placed.machine placed.lines rest.0 placed.fed rest.1) in
    record {
      lines = placed.lines ++ rest.0;
      run = feeds-in-run wiring deck (placed.lines ++ rest.0) all;
      printed =
          Contains-append_right placed.lines rest.0 line
          (placed-first wiring placed.machine (drop cards deck) rest.0 cycle placed.before placed.after line rest.1
          (subst (λ (next : Option (List ℕ)). Steps wiring (begun placed.machine next) placed.before) (sym (first-dropped deck cards))
          placed.steps) placed.step placed.placed);
    }
