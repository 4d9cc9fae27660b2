-- What the loop over a run keeps: the last line that was placed.
use Rattle.std.proofs.Common.{◌≡◌, ◌∙◌, sym, ap, subst, ℕ, ◌+◌, List, Option, None}
use Rattle.hubs.specs.SetupsWords.Wiring.{Wiring}
use Rattle.net.specs.declared.cycle.Cycle.{Cycle}
use Rattle.machine.specs.Cycles.{line_of}
use Rattle.machine.specs.Machine.{ended}
use Rattle.explain_wheels.specs.RunsWords.{Ends, IsBegun, IsIn, along_of}
use Rattle.explain_wheels.specs.declared.runs.DeckRun.{DeckRun}
use Rattle.explain_wheels.proofs.RunsWords.DeckRuns.{StandsBehind, behind-more, behind-none}
use Rattle.page_text.specs.declared.placed_lines.placed_line.PlacedLine.{PlacedLine}
use Rattle.explain_ledgers.specs.LedgersWords.Ledgers.{Along, card_in}
use Rattle.explain_origins.specs.declared.changes.PassedCycle.{PassedCycle}
use Rattle.explain_ledgers.specs.declared.ledgers.found.FoundCycle.{FoundCycle}
use Rattle.explain_origins.specs.Changes.{passed_cycle}
use Rattle.explain_origins.specs.Placing.{IsLastLine, IsLineBefore, line_with, printed, unprinted}

-- A run, and the last line that was placed up to there.
pub record Prints (wiring : Wiring) (deck : List (List ℕ)) (passed : ℕ) (run : DeckRun) (last : Option FoundCycle) : Type 0 where
  pub behind : StandsBehind wiring deck passed run
  pub is : IsLastLine wiring deck (along_of run) last

-- none yet
pub prints-begun : (wiring : Wiring) (deck : List (List ℕ)) (run : DeckRun) → IsBegun wiring deck run → Prints wiring deck 0 run None
prints-begun wiring deck run begins = record {
  behind = behind-none wiring deck run begins;
  is = subst (λ (a : Along). IsLastLine wiring deck a None) (sym begins.start) unprinted;
}

-- one cycle more
pub prints-more : (wiring : Wiring) (deck : List (List ℕ)) (passed : ℕ) (cycle : Cycle) (run inside after : DeckRun) (lines : List PlacedLine)
    (old new : Option FoundCycle)
    → Prints wiring deck passed run old
    → IsIn wiring deck cycle (along_of run) inside
    → Ends wiring deck cycle (along_of run) inside.machine.machine after
    → lines ≡ line_of after.machine.machine
    → new ≡ line_with (record { cycle = cycle; card = after.card; passed = passed }) lines old
    → Prints wiring deck (passed + 1) after new
prints-more wiring deck passed cycle run inside after lines old new prints is ends placed taken =
    let here : PassedCycle = passed_cycle cycle (along_of run) in
    let last : new ≡ line_with here (line_of (ended inside.machine.machine cycle)) old =
    taken
    ∙ ap (λ (n : ℕ). line_with (record { cycle = cycle; card = n; passed = passed }) lines old) (sym (ap (λ (a : Along). a.card) ends.along))
    ∙ ap (λ (n : ℕ). line_with (record { cycle = cycle; card = card_in cycle run.card; passed = n }) lines old) (sym prints.behind.counted)
    ∙ ap (λ (l : List PlacedLine). line_with here l old) (placed ∙ sym (ap (λ (a : Along). line_of a.run.machine) ends.along)) in
    record {
      behind = behind-more wiring deck cycle passed run inside after prints.behind ends;
      is =
          subst (λ (any : Option FoundCycle). IsLastLine wiring deck (along_of after) any) (sym last)
          (subst (λ (a : Along). IsLastLine wiring deck a (line_with here (line_of (ended inside.machine.machine cycle)) old)) ends.along
          (printed cycle (along_of run) old inside.machine.machine prints.is is.goes));
    }

pub printed-over : (wiring : Wiring) (deck : List (List ℕ)) (passed count : ℕ) (run : DeckRun) (last : Option FoundCycle)
    → Prints wiring deck passed run last → passed ≡ count → IsLineBefore wiring deck count last
printed-over wiring deck passed count run last prints counted = record {
  along = along_of run;
  counted = prints.behind.counted ∙ counted;
  is = prints.is;
}
