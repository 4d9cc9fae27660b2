-- A run of which a part of the trace is kept, between two of its cycles.
use Rattle.std.proofs.Common.{◌≡◌, ◌∙◌, append_assoc, sym, ap, subst, refl, arith, ℕ, ◌+◌, List, [], ◌∷◌, ◌++◌, append-nil, None, length, take}
use Rattle.std.proofs.lemmas.List.{length-append, take_all}
use Rattle.page_text.specs.declared.placed_lines.placed_line.PlacedLine.{PlacedLine}
use Rattle.hubs.specs.SetupsWords.Wiring.{Wiring}
use Rattle.net.specs.declared.cycle.Cycle.{Cycle}
use Rattle.machine.specs.Cycles.{CycleRun, line_of}
use Rattle.machine.specs.Runs.{InRun, MachineLines, RunsBy, cycle_due}
use Rattle.explain_wheels.specs.RunsWords.{Along, IsBegun, IsBetween, IsIn, along_of, card_in}
use Rattle.explain_wheels.specs.declared.runs.DeckRun.{DeckRun}
use Rattle.explain_words.specs.TracesWords.Listing.{IsBounded, TakesCycle}
use Rattle.explain_words.specs.TracesWords.Parts.{IsPartOf, IsTracePart}
use Rattle.explain_words.specs.TracesWords.Traces.{CyclesTo, ToldCycle, next, none, told_cycle}
use Rattle.explain_words.specs.TracesWords.Tracing.{TracesCycle}
use Rattle.explain_words.specs.declared.traces.parts.CycleChoice.{CycleChoice}
use Rattle.explain_words.specs.declared.traces.parts.TracePart.{TracePart}

-- with the lines that a run prints from here on, the lines so far are those of the run over the deck
abbrev pub PrintsOn : Wiring → List (List ℕ) → InRun → List PlacedLine → Type 0
PrintsOn wiring deck run lines =
    (later : List Cycle) (others : List PlacedLine) → RunsBy (CycleRun wiring) later run others → MachineLines wiring deck (lines ++ others)

-- A run stands between two of its cycles, and the part is that of the cycles so far.
pub record Parted (wiring : Wiring) (deck : List (List ℕ)) (choice : CycleChoice) (run : DeckRun) (part : TracePart) : Type 0 where
  pub between : IsBetween wiring deck run
  pub cycles : List ToldCycle
  pub told : CyclesTo wiring deck (along_of run) cycles
  pub is_part : IsPartOf choice cycles part
  pub bounded : IsBounded part
  pub all : part.all ≡ run.begun
  pub lines : List PlacedLine
  pub counted : part.lines ≡ length lines
  pub prints : PrintsOn wiring deck (along_of run).run lines

-- before any cycle
pub Parted-none : (wiring : Wiring) (deck : List (List ℕ)) (choice : CycleChoice) (run : DeckRun) (part : TracePart)
    → IsBegun wiring deck run → IsPartOf choice [] part → part.lines ≡ 0 → Parted wiring deck choice run part
Parted-none wiring deck choice run part begins is no_lines =
    let before = is.before in
    let count = is.count in
    let shown = none_taken choice.most [] refl in
    record {
      between = begins.between;
      cycles = [];
      told = subst (λ (a : Along). CyclesTo wiring deck a []) (sym begins.start) none;
      is_part = is;
      bounded = record {
        before = omega (arith, before);
        count = omega (arith, count, shown);
        lines = omega (arith, no_lines);
      };
      all = is.all ∙ sym (ap (λ (a : Along). a.passed) begins.start);
      lines = [];
      counted = no_lines;
      prints = subst (λ (a : Along). PrintsOn wiring deck a.run []) (sym begins.start) (λ later others rest. (later, rest));
    }
  where
    none_taken : (most : ℕ) (cycles : List ToldCycle) → cycles ≡ [] → length (take most cycles) ≡ 0
    none_taken most cycles e = ap length (take_all most cycles (omega (arith, ap length e))) ∙ ap length e

-- one cycle more
module _ (wiring : Wiring) (deck : List (List ℕ)) (choice : CycleChoice) (cycle : Cycle) (run inside after : DeckRun) (line : List ℕ)
    (part more : TracePart) (placed : List PlacedLine) (has : Parted wiring deck choice run part)
    (is : IsIn wiring deck cycle (along_of run) inside)
    (traces : TracesCycle wiring deck cycle (along_of run) inside.machine.machine after line)
  where
    -- the lines go on with that of the cycle
    prints_more : PrintsOn wiring deck (along_of after).run (has.lines ++ line_of after.machine.machine)
    unfolding RunsBy
    prints_more later others rest =
        subst (MachineLines wiring deck) (sym (append_assoc has.lines (line_of after.machine.machine) others))
        (has.prints (cycle ∷ later) (line_of after.machine.machine ++ others) (
          after.machine.machine,
          others,
          is.goes.due,
          record { at_end = inside.machine.machine; reached = is.goes.reached; is_new = sym (ap (λ (a : Along). a.run.machine) traces.ends.along) },
          subst (λ (h : List (List ℕ)). RunsBy (CycleRun wiring) later (record { machine = after.machine.machine; hopper = h }) others)
              (sym (ap (λ (a : Along). a.run.hopper) traces.ends.along)) rest,
          refl,
        ))

    -- the part takes up the cycle
    pub Parted-more : placed ≡ line_of after.machine.machine
        → TakesCycle choice (record { card = after.card; line = line }) (length placed) part more
        → Parted wiring deck choice after more
    Parted-more is_placed takes = record {
      between = traces.ends.between;
      cycles = has.cycles ++ record { card = after.card; line = line } ∷ [];
      told =
          subst (λ (l : List ℕ). CyclesTo wiring deck (along_of after) (has.cycles ++ record { card = after.card; line = l } ∷ []))
          (sym traces.told)
          (subst (λ (a : Along). CyclesTo wiring deck a
          (has.cycles ++ record { card = a.card; line = (told_cycle cycle (card_in cycle run.card) inside.machine.machine).line } ∷ []))
          traces.ends.along (next cycle (along_of run) has.cycles inside.machine.machine has.told is.goes));
      is_part = takes.goes_on has.cycles has.is_part;
      bounded = takes.bounded;
      all = takes.all ∙ ap (λ (n : ℕ). n + 1) has.all ∙ ap (λ (a : Along). a.passed) traces.ends.along;
      lines = has.lines ++ line_of after.machine.machine;
      counted =
          takes.lines ∙ ap (λ (n : ℕ). n + length placed) has.counted
          ∙ ap (λ (l : List PlacedLine). length has.lines + length l) is_placed
          ∙ sym (length-append has.lines (line_of after.machine.machine));
      prints = prints_more;
    }

-- no cycle is due any more
pub Parted-over : (wiring : Wiring) (deck : List (List ℕ)) (choice : CycleChoice) (run : DeckRun) (part : TracePart)
    → Parted wiring deck choice run part → cycle_due run.machine.machine ≡ None → IsTracePart wiring deck choice part
unfolding RunsBy
Parted-over wiring deck choice run part has over = record {
  cycles = has.cycles;
  are_cycles = record { along = along_of run; told = has.told; over = over };
  is_part = has.is_part;
  lines = has.lines;
  prints = subst (MachineLines wiring deck) (append-nil has.lines) (has.prints [] [] (over, refl));
  counted = has.counted;
}
