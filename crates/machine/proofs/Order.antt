-- The lines of a run come in the order of their places.
use Rattle.std.proofs.Common.{◌≡◌, ℕ, suc, ◌+◌, ◌^◌, ◌≤◌, ◌⊎◌, inl, inr, ⊎_elim, Bool, true, false, ◌&&◌, List, [], ◌∷◌, ◌++◌, Option, Some, None, length, if◌then◌else◌, refl, sym, ap, ◌∙◌, subst, arith}
use Rattle.carriage.specs.Carriage.{CarriageState, carriage_ended}
use Rattle.page_text.specs.PlacedLines.InOrder.{FollowInOrder, IsInOrder}
use Rattle.page_text.specs.declared.placed_lines.placed_line.PlacedLine.{PlacedLine}
use Rattle.hubs.specs.SetupsWords.Tapes.{CarriageTape, IsCarriageTape}
use Rattle.hubs.specs.SetupsWords.Wiring.{Wiring}
use Rattle.net.specs.Printing.{prints}
use Rattle.net.specs.declared.cycle.Cycle.{Cycle}
use Rattle.net.specs.declared.cycle.Cycle.TheVariants.{RunIn, Card, Prog, Head}
use Rattle.net.specs.declared.cycle.ProgramLevel.{ProgramLevel}
use Rattle.net.specs.declared.cycle.Ordinal.{Ordinal}
use Rattle.net.specs.declared.cycle.Ordinal.TheVariants.{First, Second, Third}
use Rattle.net.specs.declared.printing.Printing.{Printing}
use Rattle.program_unit.specs.CycleOrder.{cycle_after, after, headed, has_level_left, level_above}
use Rattle.program_unit.specs.Program.{ProgramState, stage_ended}
use Rattle.program_unit.specs.declared.stage.Stage.{Stage}
use Rattle.program_unit.specs.declared.stage.Stage.TheVariants.{Fresh, RanIn, RanCard, RanProg, BeforeCard, BeforeTotal}
use Rattle.machine.specs.Cycles.{CycleRun, line_of}
use Rattle.machine.specs.Machine.{MachineState, machine_at_start}
use Rattle.machine.specs.Runs.{InRun, MachineLines, RunsBy, cards_moved, cycle_due, has_more, made_ready, moved_on, run_at_start}
use Rattle.machine.proofs.FewCycles.{runs-have-few}
use Rattle.machine.specs.Keeps.{AsksLines, KeepsCarriage}
use Rattle.machine.proofs.Keeps.{CycleRun-ends}
use Rattle.machine.proofs.Moving.{Ended, carriage_ended-ends}

-- whether heading cycles run
abbrev is_heading : Stage → Bool
is_heading Fresh = false
is_heading RanIn = false
is_heading RanCard = false
is_heading (RanProg level ordinal) = false
is_heading (BeforeCard heading) = true
is_heading (BeforeTotal level heading) = true

same_some : (one other : Cycle) → ◌≡◌ {A = Option Cycle} (Some one) (Some other) → one ≡ other
same_some one other same = cc

-- What is due where a cycle prints: the first heading cycle, or the restore latch is reset.
headed-reset : (printing : Printing) (restore : Bool) (due cycle : Cycle) → headed printing restore due ≡ cycle
    → prints printing cycle ≡ true → (cycle ≡ Head First) ⊎ (restore ≡ false)
headed-reset printing restore due cycle = by (prints printing due) restore refl
  where
    by : (p r : Bool) → prints printing due ≡ p → (if p && r then Head First else due) ≡ cycle
        → prints printing cycle ≡ true → (cycle ≡ Head First) ⊎ (r ≡ false)
    by true true is same on = inl (sym same)
    by true false is same on = inr refl
    by false r is same on = let off : prints printing cycle ≡ false = ap (λ (c : Cycle). prints printing c) (sym same) ∙ is in cc

after-reset : (program : ProgramState) (done : Option ProgramLevel) (restore more : Bool) (cycle : Cycle)
    → after program done restore more ≡ Some cycle → prints program.printing cycle ≡ true
    → (cycle ≡ Head First) ⊎ (restore ≡ false)
after-reset program done restore more cycle = by (has_level_left program done more) more
  where
    by : (left card : Bool)
        → (if left
        then Some (Prog (level_above done) First)
        else if card then Some (headed program.printing restore Card) else None)
        ≡ Some cycle
        → prints program.printing cycle ≡ true → (cycle ≡ Head First) ⊎ (restore ≡ false)
    by true card due on =
        let same = same_some (Prog (level_above done) First) cycle due in
        let off : prints program.printing cycle ≡ false = ap (λ (c : Cycle). prints program.printing c) (sym same) in cc
    by false true due on =
        headed-reset program.printing restore Card cycle (same_some (headed program.printing restore Card) cycle due) on
    by false false due on = cc

not_printing : (printing : Printing) (due cycle : Cycle) → prints printing due ≡ false → due ≡ cycle
    → prints printing cycle ≡ true → ⊥
not_printing printing due cycle silent same on =
    let off : prints printing cycle ≡ false = ap (λ (c : Cycle). prints printing c) (sym same) ∙ silent in cc

-- a cycle prints on a page, unless it begins one
due-on_page : (program : ProgramState) (stage : Stage) (restore more : Bool) (cycle : Cycle) (page : ℕ)
    → cycle_after program stage restore more ≡ Some cycle → (restore ≡ false → 1 ≤ page)
    → (is_heading stage ≡ true → 1 ≤ page) → prints program.printing cycle ≡ true → (cycle ≡ Head First) ⊎ (1 ≤ page)
due-on_page program Fresh restore true cycle page due reset heads on =
    absurd (not_printing program.printing RunIn cycle refl (same_some RunIn cycle due) on)
due-on_page program Fresh restore false cycle page due reset heads on = cc
due-on_page program RanIn restore more cycle page due reset heads on =
    ⊎_elim (λ (is : cycle ≡ Head First). inl is) (λ (is : restore ≡ false). inr (reset is))
    (headed-reset program.printing restore Card cycle (same_some (headed program.printing restore Card) cycle due) on)
due-on_page program RanCard restore more cycle page due reset heads on =
    ⊎_elim (λ (is : cycle ≡ Head First). inl is) (λ (is : restore ≡ false). inr (reset is))
    (after-reset program None restore more cycle due on)
due-on_page program (RanProg level First) restore more cycle page due reset heads on =
    absurd (not_printing program.printing (Prog level Second) cycle refl (same_some (Prog level Second) cycle due) on)
due-on_page program (RanProg level Second) restore more cycle page due reset heads on =
    ⊎_elim (λ (is : cycle ≡ Head First). inl is) (λ (is : restore ≡ false). inr (reset is))
    (headed-reset program.printing restore (Prog level Third) cycle
    (same_some (headed program.printing restore (Prog level Third)) cycle due) on)
due-on_page program (RanProg level Third) restore more cycle page due reset heads on =
    ⊎_elim (λ (is : cycle ≡ Head First). inl is) (λ (is : restore ≡ false). inr (reset is))
    (after-reset program (Some level) restore more cycle due on)
due-on_page program (BeforeCard heading) restore more cycle page due reset heads on = inr (heads refl)
due-on_page program (BeforeTotal level heading) restore more cycle page due reset heads on = inr (heads refl)

-- The second and the third heading cycle come after one alone.
headed-first : (printing : Printing) (restore : Bool) (due : Cycle) (heading : Ordinal)
    → headed printing restore due ≡ Head heading → ((h : Ordinal) → due ≡ Head h → ⊥) → heading ≡ First
headed-first printing restore due heading = by (prints printing due && restore)
  where
    by : (first : Bool) → (if first then Head First else due) ≡ Head heading → ((h : Ordinal) → due ≡ Head h → ⊥)
        → heading ≡ First
    by true same never = cc
    by false same never = absurd (never heading same)

after-first : (program : ProgramState) (done : Option ProgramLevel) (restore more : Bool) (heading : Ordinal)
    → after program done restore more ≡ Some (Head heading) → heading ≡ First
after-first program done restore more heading = by (has_level_left program done more) more
  where
    by : (left card : Bool)
        → (if left
        then Some (Prog (level_above done) First)
        else if card then Some (headed program.printing restore Card) else None)
        ≡ Some (Head heading)
        → heading ≡ First
    by true card due = cc
    by false true due =
        headed-first program.printing restore Card heading
        (same_some (headed program.printing restore Card) (Head heading) due) (λ h same. cc)
    by false false due = cc

due-heading : (program : ProgramState) (stage : Stage) (restore more : Bool) (heading : Ordinal)
    → cycle_after program stage restore more ≡ Some (Head heading) → (heading ≡ First) ⊎ (is_heading stage ≡ true)
due-heading program Fresh restore true heading due = cc
due-heading program Fresh restore false heading due = cc
due-heading program RanIn restore more heading due =
    inl (headed-first program.printing restore Card heading
    (same_some (headed program.printing restore Card) (Head heading) due) (λ h same. cc))
due-heading program RanCard restore more heading due = inl (after-first program None restore more heading due)
due-heading program (RanProg level First) restore more heading due = cc
due-heading program (RanProg level Second) restore more heading due =
    inl (headed-first program.printing restore (Prog level Third) heading
    (same_some (headed program.printing restore (Prog level Third)) (Head heading) due) (λ h same. cc))
due-heading program (RanProg level Third) restore more heading due =
    inl (after-first program (Some level) restore more heading due)
due-heading program (BeforeCard before) restore more heading due = inr refl
due-heading program (BeforeTotal level before) restore more heading due = inr refl

-- heading cycles alone lead to a stage of heading cycles
heading-ended : (stage : Stage) (cycle : Cycle) → is_heading (stage_ended stage cycle) ≡ true
    → (heading : Ordinal) × (cycle ≡ Head heading)
heading-ended stage RunIn is = cc
heading-ended stage Card is = cc
heading-ended stage (Prog level ordinal) is = cc
heading-ended stage (Head heading) is = (heading, refl)

-- What holds of a machine all through a run, with so many cycles to follow.
record IsSound (form : CarriageTape) (machine : MachineState) (left : ℕ) : Type 0 where
  form_is : machine.carriage.form ≡ form
  printing : machine.carriage.printing ≡ machine.program.printing
  inside : machine.carriage.spot.line ≤ form.lines
  asks : AsksLines machine.carriage.asked.lines
  on_page : machine.carriage.spot.latch ≡ false → 1 ≤ machine.carriage.spot.page
  in_heads : is_heading machine.program.stage ≡ true → 1 ≤ machine.carriage.spot.page
  few : machine.carriage.spot.page + left ≤ 2 ^ 32

-- the cards move on by themselves
moved-carriage : (machine : MachineState) (hopper : List (List ℕ)) → (cards_moved machine hopper).machine.carriage ≡ machine.carriage
moved-carriage machine [] = refl
moved-carriage machine (card ∷ cards) = refl

moved-program : (machine : MachineState) (hopper : List (List ℕ)) → (cards_moved machine hopper).machine.program ≡ machine.program
moved-program machine [] = refl
moved-program machine (card ∷ cards) = refl

ready-carriage : (cycle : Cycle) (run : InRun) → (made_ready cycle run).machine.carriage ≡ run.machine.carriage
ready-carriage RunIn run = refl
ready-carriage Card run = moved-carriage run.machine run.hopper
ready-carriage (Prog level ordinal) run = refl
ready-carriage (Head heading) run = refl

ready-program : (cycle : Cycle) (run : InRun) → (made_ready cycle run).machine.program ≡ run.machine.program
ready-program RunIn run = refl
ready-program Card run = moved-program run.machine run.hopper
ready-program (Prog level ordinal) run = refl
ready-program (Head heading) run = refl

module _ (form : CarriageTape) (is_form : IsCarriageTape form) (old new : MachineState) (at_end : CarriageState) (cycle : Cycle) (more : Bool)
    (left : ℕ) (sound : IsSound form old (suc left))
    (due : cycle_after old.program old.program.stage old.carriage.spot.latch more ≡ Some cycle)
    (kept : KeepsCarriage old.carriage at_end) (is_new : new.carriage ≡ carriage_ended at_end cycle)
    (printing : new.program.printing ≡ old.program.printing) (stage : new.program.stage ≡ stage_ended old.program.stage cycle)
  where
    form_kept : at_end.form ≡ form
    form_kept = kept.form ∙ sound.form_is

    page_kept : at_end.spot.page ≡ old.carriage.spot.page
    page_kept = ap (λ s. s.page) kept.spot

    line_kept : at_end.spot.line ≡ old.carriage.spot.line
    line_kept = ap (λ s. s.line) kept.spot

    lines_kept : at_end.form.lines ≡ form.lines
    lines_kept = ap (λ (f : CarriageTape). f.lines) form_kept

    prints_on_page : prints at_end.printing cycle ≡ true → (cycle ≡ Head First) ⊎ (1 ≤ at_end.spot.page)
    prints_on_page on =
        ⊎_elim (λ (is : cycle ≡ Head First). inl is) (λ (page : 1 ≤ old.carriage.spot.page). inr (omega (arith, page, page_kept)))
        (due-on_page old.program old.program.stage old.carriage.spot.latch more cycle old.carriage.spot.page due sound.on_page
        sound.in_heads
        (ap (λ (p : Printing). prints p cycle) (sym sound.printing) ∙ ap (λ (p : Printing). prints p cycle) (sym kept.printing) ∙ on))

    ended : Ended cycle at_end new.carriage
    ended =
        let few = sound.few in
        let inside = sound.inside in
        subst (λ (c : CarriageState). Ended cycle at_end c) (sym is_new)
        (carriage_ended-ends at_end cycle (subst IsCarriageTape (sym form_kept) is_form) (kept.lines sound.asks)
        (omega (arith, inside, line_kept, lines_kept)) (omega (arith, few, page_kept)) prints_on_page)

    heads : is_heading new.program.stage ≡ true → 1 ≤ new.carriage.spot.page
    heads is =
        let heading = heading-ended old.program.stage cycle (ap is_heading (sym stage) ∙ is) in
        let from = ended.moves.page_from in
        ⊎_elim
        (λ (first : heading.0 ≡ First).
        let turned = ended.turned (heading.1 ∙ ap (λ (h : Ordinal). Head h) first) in omega (arith, turned))
        (λ (heads : is_heading old.program.stage ≡ true).
        let page = sound.in_heads heads in omega (arith, page, from, page_kept))
        (due-heading old.program old.program.stage old.carriage.spot.latch more heading.0 (due ∙ ap Some heading.1))

    sound-after : IsSound form new left
    sound-after =
        let few = sound.few in
        let from = ended.moves.page_from in
        let to = ended.moves.page_to in
        let asks : new.carriage.asked.lines ≡ 1 = ap (λ (c : CarriageState). c.asked.lines) is_new in
        record {
          form_is = ap (λ (c : CarriageState). c.form) is_new ∙ form_kept;
          printing =
              ap (λ (c : CarriageState). c.printing) is_new ∙ kept.printing ∙ sound.printing ∙ sym printing;
          inside = let inside = ended.moves.inside in omega (arith, inside, lines_kept);
          asks = record { from = omega (arith, asks); to = omega (arith, asks) };
          on_page = λ reset.
              ⊎_elim
              (λ (is : at_end.spot.latch ≡ false).
              let page = sound.on_page (sym (ap (λ s. s.latch) kept.spot) ∙ is) in omega (arith, page, from, page_kept))
              (λ (page : 1 ≤ new.carriage.spot.page). page)
              (ended.moves.latch reset);
          in_heads = heads;
          few = omega (arith, few, to, page_kept);
        }

    places-before : (others : List PlacedLine)
        → FollowInOrder form.lines new.carriage.spot.page new.carriage.spot.line others
        → FollowInOrder form.lines old.carriage.spot.page old.carriage.spot.line (line_of new ++ others)
    places-before others follow =
        subst
        (λ (f : CarriageTape). FollowInOrder f.lines new.carriage.spot.page new.carriage.spot.line others
        → FollowInOrder f.lines old.carriage.spot.page old.carriage.spot.line (line_of new ++ others))
        form_kept
        (λ own.
        subst (λ s. FollowInOrder at_end.form.lines s.page s.line (line_of new ++ others)) kept.spot
        (ended.places new.wheels.line others own))
        follow

-- One cycle of a run: the machine is sound after it, and the lines that follow it follow its own.
record StepsSoundly (form : CarriageTape) (old new : MachineState) (left : ℕ) : Type 0 where
  sound : IsSound form new left
  places :
      (others : List PlacedLine) → FollowInOrder form.lines new.carriage.spot.page new.carriage.spot.line others
      → FollowInOrder form.lines old.carriage.spot.page old.carriage.spot.line (line_of new ++ others)

CycleRun-sound : (wiring : Wiring) (form : CarriageTape) → IsCarriageTape form → (cycle : Cycle) (run : InRun) (new : MachineState) (left : ℕ)
    → IsSound form run.machine (suc left) → cycle_due run.machine ≡ Some cycle
    → CycleRun wiring cycle (made_ready cycle run).machine new → StepsSoundly form run.machine new left
CycleRun-sound wiring form is_form cycle run new left sound due ran =
    let ends = CycleRun-ends wiring cycle (made_ready cycle run).machine new ran in
    let kept : KeepsCarriage run.machine.carriage ends.at_end =
    subst (λ (c : CarriageState). KeepsCarriage c ends.at_end) (ready-carriage cycle run) ends.kept in
    let printing : new.program.printing ≡ run.machine.program.printing =
    ends.printing ∙ ap (λ (p : ProgramState). p.printing) (ready-program cycle run) in
    let stage : new.program.stage ≡ stage_ended run.machine.program.stage cycle =
    ends.order.stage ∙ ap (λ (p : ProgramState). stage_ended p.stage cycle) (ready-program cycle run) in
    record {
      sound = sound-after form is_form run.machine new ends.at_end cycle (has_more run.machine) left sound due kept
          ends.carriage printing stage;
      places = places-before form is_form run.machine new ends.at_end cycle (has_more run.machine) left sound due
          kept ends.carriage printing stage;
    }

-- the lines of a run follow the place of the carriage
RunsBy-in_order : (wiring : Wiring) (form : CarriageTape) → IsCarriageTape form
    → (cycles : List Cycle) (run : InRun) (lines : List PlacedLine)
    → IsSound form run.machine (length cycles) → RunsBy (CycleRun wiring) cycles run lines
    → FollowInOrder form.lines run.machine.carriage.spot.page run.machine.carriage.spot.line lines
unfolding RunsBy
RunsBy-in_order wiring form is_form [] run lines sound (due, none) = rw none tt
RunsBy-in_order wiring form is_form (cycle ∷ cycles) run lines sound (new, others, due, ran, runs, is) =
    let steps = CycleRun-sound wiring form is_form cycle run new (length cycles) sound due ran in
    rw is
    (steps.places others
    (RunsBy-in_order wiring form is_form cycles (record { machine = new; hopper = (made_ready cycle run).hopper }) others
    steps.sound runs))

-- a machine at the start of a run is sound
start-sound : (wiring : Wiring) (next : Option (List ℕ)) (left : ℕ) → IsCarriageTape wiring.tape → left ≤ 2 ^ 32
    → IsSound wiring.tape (moved_on next (machine_at_start wiring)) left
start-sound wiring next left is_form few = record {
  form_is = refl;
  printing = refl;
  inside = omega arith;
  asks = record { from = omega arith; to = omega arith };
  on_page = λ reset. cc;
  in_heads = λ heads. cc;
  few = omega (arith, few);
}

-- the lines of a run are in order
pub MachineLines-in_order : (wiring : Wiring) (cards : List (List ℕ)) (lines : List PlacedLine)
    → IsCarriageTape wiring.tape → length cards ≤ 999999 → MachineLines wiring cards lines → IsInOrder wiring.tape.lines lines
MachineLines-in_order wiring [] lines is_form short (cycles, runs) =
    let few = runs-have-few wiring [] cycles lines runs in
    RunsBy-in_order wiring wiring.tape is_form cycles (run_at_start wiring []) lines
    (start-sound wiring None (length cycles) is_form (omega (arith, few, short))) runs
MachineLines-in_order wiring (card ∷ cards) lines is_form short (cycles, runs) =
    let few = runs-have-few wiring (card ∷ cards) cycles lines runs in
    RunsBy-in_order wiring wiring.tape is_form cycles (run_at_start wiring (card ∷ cards)) lines
    (start-sound wiring (Some card) (length cycles) is_form (omega (arith, few, short))) runs
