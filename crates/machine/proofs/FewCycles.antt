-- How many cycles a run has.
use Rattle.std.proofs.Common.{◌≡◌, ℕ, ◌+◌, ◌*◌, ◌<◌, ◌≤◌, Bool, true, false, not, ◌||◌, List, [], ◌∷◌, Some, None, is_some, length, if◌then◌else◌, refl, sym, ap, ◌∙◌, subst, arith}
use Rattle.page_text.specs.declared.placed_lines.placed_line.PlacedLine.{PlacedLine}
use Rattle.hubs.specs.SetupsWords.Wiring.{Wiring}
use Rattle.net.specs.declared.cycle.Cycle.{Cycle}
use Rattle.net.specs.declared.cycle.Cycle.TheVariants.{RunIn, Card, Prog, Head}
use Rattle.program_unit.specs.CycleOrder.{cycle_after, is_over_at}
use Rattle.program_unit.specs.declared.stage.Stage.{Stage}
use Rattle.program_unit.specs.declared.stage.Stage.TheVariants.{RanCard}
use Rattle.machine.specs.Cycles.{CycleRun}
use Rattle.machine.specs.Ends.{EndsCycle}
use Rattle.machine.specs.Feeds.{Fed, is_over, taken}
use Rattle.machine.specs.Machine.{MachineState}
use Rattle.machine.specs.Runs.{InRun, RunsBy, cycle_due, has_more, made_ready, run_at_start}
use Rattle.machine.proofs.CardCycles.{awaits_card, without-card, GoesWithout}
use Rattle.machine.proofs.FeedSteps.{left, ends-falls}
use Rattle.machine.proofs.Keeps.{CycleRun-ends}
use Rattle.machine.proofs.Work.{left_in, top_of, top_of-four, work-falls}

-- where a card cycle follows a card stands at first reading
abbrev pub IsSupplied : MachineState → Type 0
IsSupplied machine = has_more machine ≡ false → awaits_card machine.program.stage ≡ false

-- what follows in a supplied machine where no card stands at first reading
pub goes-without : (machine : MachineState) (cycle : Cycle) → IsSupplied machine → cycle_due machine ≡ Some cycle
    → has_more machine ≡ false → GoesWithout machine.program machine.program.stage cycle
goes-without machine cycle supplied due none =
    without-card machine.program machine.program.stage machine.carriage.spot.latch cycle (supplied none)
    (sym (ap (λ (more : Bool). cycle_after machine.program machine.program.stage machine.carriage.spot.latch more) none) ∙ due)

-- a cycle leaves a machine supplied
pub other-supplied : (cycle : Cycle) (old new : MachineState) → IsSupplied old → cycle_due old ≡ Some cycle
    → EndsCycle cycle old new → IsSupplied new
other-supplied cycle old new supplied due ends none =
    let before : has_more old ≡ false = sym (ap (λ s. is_some s.first) ends.stations) ∙ none in
    ap awaits_card ends.stage ∙ (goes-without old cycle supplied due before).still

pub still-supplied : (cycle : Cycle) (run : InRun) (new : MachineState) → IsSupplied run.machine
    → cycle_due run.machine ≡ Some cycle → EndsCycle cycle (made_ready cycle run).machine new → IsSupplied new
still-supplied RunIn run new supplied due ends = other-supplied RunIn run.machine new supplied due ends
still-supplied Card run new supplied due ends = λ none. ap awaits_card ends.stage
still-supplied (Prog level ordinal) run new supplied due ends = other-supplied (Prog level ordinal) run.machine new supplied due ends
still-supplied (Head heading) run new supplied due ends = other-supplied (Head heading) run.machine new supplied due ends

-- a machine as in a feed in which a card waits if one stands at first reading
abbrev as_fed : MachineState → Fed
as_fed machine = record { machine = machine; waits = has_more machine; next = None }

-- at most so many cycles follow in a run
abbrev pub ahead : InRun → ℕ
ahead run = left (as_fed run.machine) + 28 * length run.hopper

-- the cycles go on: a card stands at first reading, or those of the last card aren't over
goes-on : (machine : MachineState) (cycle : Cycle) → IsSupplied machine → cycle_due machine ≡ Some cycle
    → (has_more machine || not (is_over machine)) ≡ true
goes-on machine cycle supplied due = by (has_more machine) refl
  where
    by : (more : Bool) → has_more machine ≡ more → (more || not (is_over_at machine.program machine.program.stage more)) ≡ true
    by true is = refl
    by false is = ap not (goes-without machine cycle supplied due is).going

other-falls : (cycle : Cycle) (old new : MachineState) → taken cycle (as_fed old) ≡ as_fed old → IsSupplied old
    → cycle_due old ≡ Some cycle → EndsCycle cycle old new → left (as_fed new) < left (as_fed old)
other-falls cycle old new same supplied due ends =
    ends-falls cycle (as_fed old) (as_fed new)
    (ap (λ (going : Bool). if going then cycle_due old else None) (goes-on old cycle supplied due) ∙ due)
    (subst (λ (f : Fed). EndsCycle cycle f.machine new) (sym same) ends)
    (ap (λ s. is_some s.first) ends.stations ∙ ap (λ (f : Fed). f.waits) (sym same))

-- what follows a card cycle, where a card came to first reading and where none did
card-followed : (stage : Stage) (top : ℕ) (more : Bool) → stage ≡ RanCard → top ≤ 4 → left_in stage top more ≤ 52
card-followed stage top true is four = rw is (omega (arith, four))
card-followed stage top false is four = rw is (omega (arith, four))

last-followed : (stage : Stage) (top : ℕ) (more : Bool) → stage ≡ RanCard → top ≤ 4 → more ≡ false → left_in stage top more ≤ 24
last-followed stage top true is four none = cc
last-followed stage top false is four none = rw is (omega (arith, four))

card-falls : (machine new : MachineState) (hopper : List (List ℕ)) → IsSupplied machine → cycle_due machine ≡ Some Card
    → EndsCycle Card (made_ready Card (record { machine = machine; hopper = hopper })).machine new
    → ahead (record { machine = new; hopper = (made_ready Card (record { machine = machine; hopper = hopper })).hopper })
    < ahead (record { machine = machine; hopper = hopper })
card-falls machine new [] supplied due ends =
    let falls = work-falls machine.program machine.program.stage machine.carriage.spot.latch (has_more machine) (has_more machine)
    Card due (goes-on machine Card supplied due) in
    let few = last-followed new.program.stage (top_of new.program (has_more new)) (has_more new) ends.stage
    (top_of-four new.program (has_more new)) (ap (λ s. is_some s.first) ends.stations) in
    omega (arith, falls, few)
card-falls machine new (card ∷ cards) supplied due ends =
    let falls = work-falls machine.program machine.program.stage machine.carriage.spot.latch (has_more machine) (has_more machine)
    Card due (goes-on machine Card supplied due) in
    let few = card-followed new.program.stage (top_of new.program (has_more new)) (has_more new) ends.stage
    (top_of-four new.program (has_more new)) in
    omega (arith, falls, few)

-- each cycle of a run leaves less to follow
pub ahead-falls : (cycle : Cycle) (run : InRun) (new : MachineState) → IsSupplied run.machine
    → cycle_due run.machine ≡ Some cycle → EndsCycle cycle (made_ready cycle run).machine new
    → ahead (record { machine = new; hopper = (made_ready cycle run).hopper }) < ahead run
ahead-falls RunIn run new supplied due ends =
    let falls = other-falls RunIn run.machine new refl supplied due ends in omega (arith, falls)
ahead-falls Card run new supplied due ends = card-falls run.machine new run.hopper supplied due ends
ahead-falls (Prog level ordinal) run new supplied due ends =
    let falls = other-falls (Prog level ordinal) run.machine new refl supplied due ends in omega (arith, falls)
ahead-falls (Head heading) run new supplied due ends =
    let falls = other-falls (Head heading) run.machine new refl supplied due ends in omega (arith, falls)

RunsBy-few : (wiring : Wiring) (cycles : List Cycle) (run : InRun) (lines : List PlacedLine)
    → IsSupplied run.machine → RunsBy (CycleRun wiring) cycles run lines → length cycles ≤ ahead run
unfolding RunsBy
RunsBy-few wiring [] run lines supplied runs = omega arith
RunsBy-few wiring (cycle ∷ cycles) run lines supplied (new, others, due, ran, runs, is) =
    let ends = (CycleRun-ends wiring cycle (made_ready cycle run).machine new ran).order in
    let falls = ahead-falls cycle run new supplied due ends in
    let few = RunsBy-few wiring cycles (record { machine = new; hopper = (made_ready cycle run).hopper }) others
    (still-supplied cycle run new supplied due ends) runs in
    omega (arith, falls, few)

-- a run over a deck has at most 28 cycles for each card, and one
pub runs-have-few : (wiring : Wiring) (cards : List (List ℕ)) (cycles : List Cycle) (lines : List PlacedLine)
    → RunsBy (CycleRun wiring) cycles (run_at_start wiring cards) lines → length cycles ≤ 28 * length cards + 1
runs-have-few wiring [] cycles lines runs =
    let few = RunsBy-few wiring cycles (run_at_start wiring []) lines (λ none. refl) runs in omega (arith, few)
runs-have-few wiring (card ∷ cards) cycles lines runs =
    let few = RunsBy-few wiring cycles (run_at_start wiring (card ∷ cards)) lines (λ none. refl) runs in omega (arith, few)
