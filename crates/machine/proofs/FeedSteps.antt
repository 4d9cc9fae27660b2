-- The cycles of a feed, one after another.
use Rattle.std.proofs.Common.{◌≡◌, ℕ, ◌<◌, ◌≤◌, Bool, true, false, not, ◌||◌, Some, None, is_some, if◌then◌else◌, refl, ap, ◌∙◌, arith}
use Rattle.hubs.specs.SetupsWords.Wiring.{Wiring}
use Rattle.net.specs.declared.cycle.Cycle.{Cycle}
use Rattle.net.specs.declared.cycle.Cycle.TheVariants.{RunIn, Card, Prog, Head}
use Rattle.net.specs.declared.cycle.ProgramLevel.TheVariants.{Final}
use Rattle.program_unit.specs.CycleOrder.{levels_to}
use Rattle.program_unit.specs.Program.{ProgramState, stage_ended}
use Rattle.program_unit.specs.declared.stage.Stage.{Stage}
use Rattle.program_unit.specs.declared.stage.Stage.TheVariants.{RanCard}
use Rattle.stations.specs.Stations.{StationCards}
use Rattle.machine.specs.Feeds.{Fed, FeedStep, due_in, taken, is_over}
use Rattle.machine.specs.Runs.{cycle_due, has_more}
use Rattle.machine.specs.Ends.{is_card, EndsCycle}
use Rattle.machine.proofs.Keeps.{CycleRun-ends}
use Rattle.machine.proofs.Work.{left_in, top_of, top_of-four, work-falls}

-- at most so many cycles follow in a feed
abbrev pub left : Fed → ℕ
left fed = left_in fed.machine.program.stage (top_of fed.machine.program (has_more fed.machine)) fed.waits

-- What is due in a feed is due by the cycle order, and the feed isn't over.
pub record IsGoing (fed : Fed) (cycle : Cycle) : Type 0 where
  pub due : cycle_due fed.machine ≡ Some cycle
  pub going : (fed.waits || not (is_over fed.machine)) ≡ true

pub due_in-going : (fed : Fed) (cycle : Cycle) → due_in fed ≡ Some cycle → IsGoing fed cycle
due_in-going fed cycle = by (fed.waits || not (is_over fed.machine)) refl
  where
    by : (going : Bool) → (fed.waits || not (is_over fed.machine)) ≡ going
        → (if going then cycle_due fed.machine else None) ≡ Some cycle → IsGoing fed cycle
    by true is due = record { due = due; going = is }
    by false is due = cc

top-same : (one other : ProgramState) (first second : StationCards) → one.highest ≡ other.highest → first ≡ second
    → top_of one (is_some first.first) ≡ top_of other (is_some second.first)
top-same one other first second highest cards =
    ap (λ (more : Bool). top_of one more) (ap (λ (s : StationCards). is_some s.first) cards)
    ∙ ap (λ l. levels_to (if is_some second.first then l else Some Final)) highest

-- a cycle that is no card cycle leaves less to follow
other-falls : (cycle : Cycle) (old new : Fed) → is_card cycle ≡ false
    → EndsCycle cycle old.machine new.machine → new.waits ≡ old.waits
    → left_in (stage_ended old.machine.program.stage cycle) (top_of old.machine.program (has_more old.machine)) old.waits
    < left old
    → left new < left old
other-falls cycle old new is ends waits falls =
    let top = top-same new.machine.program old.machine.program new.machine.stations old.machine.stations (ends.highest is)
    ends.stations in
    rw (ends.stage, top, waits) falls

card-left : (stage : Stage) (top : ℕ) → stage ≡ RanCard → top ≤ 4 → left_in stage top false ≤ 24
card-left stage top is four = rw is (omega (arith, four))

-- a cycle that is due leaves less to follow
pub ends-falls : (cycle : Cycle) (old new : Fed) → due_in old ≡ Some cycle
    → EndsCycle cycle (taken cycle old).machine new.machine → new.waits ≡ (taken cycle old).waits → left new < left old
ends-falls RunIn old new due ends waits =
    let is = due_in-going old RunIn due in
    other-falls RunIn old new refl ends waits
    (work-falls old.machine.program old.machine.program.stage old.machine.carriage.spot.latch (has_more old.machine) old.waits
    RunIn is.due is.going)
ends-falls (Prog level ordinal) old new due ends waits =
    let is = due_in-going old (Prog level ordinal) due in
    other-falls (Prog level ordinal) old new refl ends waits
    (work-falls old.machine.program old.machine.program.stage old.machine.carriage.spot.latch (has_more old.machine) old.waits
    (Prog level ordinal) is.due is.going)
ends-falls (Head heading) old new due ends waits =
    let is = due_in-going old (Head heading) due in
    other-falls (Head heading) old new refl ends waits
    (work-falls old.machine.program old.machine.program.stage old.machine.carriage.spot.latch (has_more old.machine) old.waits
    (Head heading) is.due is.going)
ends-falls Card old new due ends waits =
    let is = due_in-going old Card due in
    let falls = work-falls old.machine.program old.machine.program.stage old.machine.carriage.spot.latch (has_more old.machine)
    old.waits Card is.due is.going in
    let few = card-left new.machine.program.stage (top_of new.machine.program (has_more new.machine)) ends.stage
    (top_of-four new.machine.program (has_more new.machine)) in
    rw waits (omega (arith, falls, few))

-- each cycle of a feed leaves less to follow
pub FeedStep-falls : (wiring : Wiring) (cycle : Cycle) (old new : Fed) → FeedStep wiring cycle old new → left new < left old
FeedStep-falls wiring cycle old new step =
    ends-falls cycle old new step.due (CycleRun-ends wiring cycle (taken cycle old).machine new.machine step.ran).order step.waits
