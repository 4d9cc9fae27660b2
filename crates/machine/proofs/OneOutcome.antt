-- A setup and a deck have one run at most.
use Rattle.std.proofs.Common.{◌≡◌, ℕ, zero, suc, ◌↔◌, Bool, true, false, List, [], ◌∷◌, ◌++◌, Option, Some, refl, sym, ap, ◌∙◌, subst}
use Rattle.page_text.specs.declared.placed_lines.placed_line.PlacedLine.{PlacedLine}
use Rattle.hubs.specs.SetupsWords.Wiring.{Wiring}
use Rattle.hubs.specs.declared.hub.Hub.{Hub}
use Rattle.net.specs.Impulsed.{IsPicture}
use Rattle.net.specs.declared.cycle.Cycle.{Cycle}
use Rattle.net.specs.declared.cycle.Point.{Point}
use Rattle.machine.specs.Cycles.{PointStep, Reached, CycleRun, point_at, line_of}
use Rattle.machine.specs.Feeds.{Fed, FeedStep, taken}
use Rattle.machine.specs.Machine.{MachineState, emits, closes, sensed, ended}
use Rattle.machine.specs.Runs.{InRun, MachineLines, RunsBy, made_ready, run_at_start}

-- two tests that are true of the same are equal
same_test : (P : Type 0) (one other : Bool) → (one ≡ true) ↔ P → (other ≡ true) ↔ P → one ≡ other
same_test P true true first second = refl
same_test P true false first second = sym (second.1 (first.0 refl))
same_test P false true first second = first.1 (second.0 refl)
same_test P false false first second = refl

pub same_picture : (wiring : Wiring) (exits shut one other : Hub → Bool)
    → IsPicture wiring exits shut one → IsPicture wiring exits shut other → ◌≡◌ {A = Hub → Bool} one other
same_picture wiring exits shut one other first second = λ i h. same_test _ (one h) (other h) (first h) (second h) i

PointStep-one : (wiring : Wiring) (cycle : Cycle) (point : Point) (old one other : MachineState)
    → PointStep wiring cycle point old one → PointStep wiring cycle point old other → one ≡ other
PointStep-one wiring cycle point old one other first second =
    let pictures =
    same_picture wiring (emits old cycle point) (closes old cycle point) first.picture second.picture first.is_picture
    second.is_picture in
    first.is_new ∙ ap (λ (p : Hub → Bool). sensed old cycle point p) pictures ∙ sym second.is_new

pub Reached-one : (wiring : Wiring) (cycle : Cycle) (place : ℕ) (old one other : MachineState)
    → Reached wiring cycle place old one → Reached wiring cycle place old other → one ≡ other
unfolding Reached
Reached-one wiring cycle zero old one other first second = first ∙ sym second
Reached-one wiring cycle (suc place) old one other (mid, reached, step) (also_mid, also_reached, also_step) =
    let same = Reached-one wiring cycle place old mid also_mid reached also_reached in
    PointStep-one wiring cycle (point_at place) also_mid one other
    (subst (λ (m : MachineState). PointStep wiring cycle (point_at place) m one) same step) also_step

pub CycleRun-one : (wiring : Wiring) (cycle : Cycle) (old one other : MachineState)
    → CycleRun wiring cycle old one → CycleRun wiring cycle old other → one ≡ other
CycleRun-one wiring cycle old one other first second =
    let same = Reached-one wiring cycle 14 old first.at_end second.at_end first.reached second.reached in
    first.is_new ∙ ap (λ (m : MachineState). ended m cycle) same ∙ sym second.is_new

same_some : (one other : Cycle) → ◌≡◌ {A = Option Cycle} (Some one) (Some other) → one ≡ other
same_some one other same = cc

same_fed : (one other : Fed) → one.machine ≡ other.machine → one.waits ≡ other.waits → one.next ≡ other.next → one ≡ other
same_fed one other machine waits next = λ i. record { machine = machine i; waits = waits i; next = next i }

-- at most one cycle follows
pub FeedStep-one : (wiring : Wiring) (old one other : Fed) (cycle also : Cycle)
    → FeedStep wiring cycle old one → FeedStep wiring also old other → (cycle ≡ also) × (one ≡ other)
FeedStep-one wiring old one other cycle also first second =
    let same = same_some cycle also (sym first.due ∙ second.due) in (
      same,
      same_fed one other
          (CycleRun-one wiring also (taken also old).machine one.machine other.machine
          (subst (λ (c : Cycle). CycleRun wiring c (taken c old).machine one.machine) same first.ran) second.ran)
          (first.waits ∙ ap (λ (c : Cycle). (taken c old).waits) same ∙ sym second.waits)
          (first.next ∙ sym second.next),
    )

-- two runs from one machine on place the same lines
RunsBy-one : (wiring : Wiring) (cycles also : List Cycle) (run : InRun) (one other : List PlacedLine)
    → RunsBy (CycleRun wiring) cycles run one → RunsBy (CycleRun wiring) also run other → one ≡ other
unfolding RunsBy
RunsBy-one wiring [] [] run one other (due, none) (also_due, also_none) = none ∙ sym also_none
RunsBy-one wiring [] (cycle ∷ also) run one other (none_due, none) (new, others, due, ran, runs, is) =
    let e = sym none_due ∙ due in cc
RunsBy-one wiring (cycle ∷ cycles) [] run one other (new, others, due, ran, runs, is) (none_due, none) =
    let e = sym none_due ∙ due in cc
RunsBy-one wiring (cycle ∷ cycles) (also_cycle ∷ also) run one other (new, others, due, ran, runs, is)
    (also_new, also_others, also_due, also_ran, also_runs, also_is) =
    let same = same_some cycle also_cycle (sym due ∙ also_due) in
    let left = CycleRun-one wiring also_cycle (made_ready also_cycle run).machine new also_new
    (subst (λ (c : Cycle). CycleRun wiring c (made_ready c run).machine new) same ran) also_ran in
    let goes_on : InRun = record { machine = also_new; hopper = (made_ready also_cycle run).hopper } in
    let rest = RunsBy-one wiring cycles also goes_on others also_others
    (subst (λ (r : InRun). RunsBy (CycleRun wiring) cycles r others) (same_run run cycle also_cycle new also_new same left) runs)
    also_runs in
    is ∙ ap (λ (m : MachineState). line_of m ++ others) left ∙ ap (λ (l : List PlacedLine). line_of also_new ++ l) rest ∙ sym also_is
  where
    same_run : (before : InRun) (c d : Cycle) (m n : MachineState) → c ≡ d → m ≡ n
        → ◌≡◌ {A = InRun} (record { machine = m; hopper = (made_ready c before).hopper })
        (record { machine = n; hopper = (made_ready d before).hopper })
    same_run before c d m n cycles_same machines = λ i. record { machine = machines i; hopper = (made_ready (cycles_same i) before).hopper }

-- a setup and a deck have one list of lines at most
pub MachineLines-one : (wiring : Wiring) (cards : List (List ℕ)) (one other : List PlacedLine)
    → MachineLines wiring cards one → MachineLines wiring cards other → one ≡ other
MachineLines-one wiring cards one other (cycles, runs) (also, also_runs) =
    RunsBy-one wiring cycles also (run_at_start wiring cards) one other runs also_runs
