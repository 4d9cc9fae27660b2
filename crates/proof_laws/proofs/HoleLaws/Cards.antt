-- Before a program cycle of a run the cycle of its card ran.
use Rattle.std.proofs.Common.{◌≡◌, ◌∙◌, sym, ap, refl, ℕ, zero, suc, ◌+◌, ◌&&◌, Bool, true, false, List, [], ◌∷◌, Option, Some, if◌then◌else◌}
use Rattle.std.proofs.lemmas.Bool.{false≢true}
use Rattle.hubs.specs.declared.hub.Hub.{Hub}
use Rattle.explain_ledgers.specs.LedgersWords.Ledgers.{Along, ComesTo, Goes, at_start, on, ready}
use Rattle.program_unit.specs.CycleOrder.{cycle_after}
use Rattle.program_unit.specs.Program.{ProgramState, program_sensed, waiting}
use Rattle.program_unit.specs.declared.stage.Stage.{Stage}
use Rattle.program_unit.specs.declared.stage.Stage.TheVariants.{Fresh, RanIn, RanCard, RanProg, BeforeCard, BeforeTotal}
use Rattle.machine.specs.Cycles.{PointStep, Reached, point_at}
use Rattle.machine.specs.Machine.{MachineState}
use Rattle.machine.specs.Runs.{cycle_due, has_more}
use Rattle.net.specs.Printing.{prints}
use Rattle.net.specs.declared.cycle.Cycle.{Cycle}
use Rattle.net.specs.declared.cycle.Cycle.TheVariants.{RunIn, Card, Prog, Head}
use Rattle.net.specs.declared.cycle.Ordinal.{Ordinal}
use Rattle.net.specs.declared.cycle.Ordinal.TheVariants.{First, Second, Third}
use Rattle.net.specs.declared.cycle.Point.{Point}
use Rattle.net.specs.declared.cycle.Point.TheVariants.{K}
use Rattle.net.specs.declared.cycle.ProgramLevel.{ProgramLevel}
use Rattle.hubs.specs.SetupsWords.Wiring.{Wiring}
use Rattle.proof_laws.specs.HoleLaws.Reasons.{IsReading}

-- The card with a number was read: the machine before the closing point of its cycle, and behind it.
pub record WasRead (wiring : Wiring) (deck : List (List ℕ)) (card : ℕ) : Type 0 where
  pub now : MachineState
  pub reading : IsReading wiring deck card 13 now
  pub behind : MachineState
  pub closing : PointStep wiring Card K now behind

-- the stages in which program cycles can be due
is_in_card : Stage → Bool
is_in_card RanCard = true
is_in_card (RanProg level ordinal) = true
is_in_card (BeforeTotal level heading) = true
is_in_card other = false

is_program : Option Cycle → Bool
is_program (Some (Prog level ordinal)) = true
is_program other = false

due-in-card : (program : ProgramState) (stage : Stage) (restore more : Bool) → is_program (cycle_after program stage restore more) ≡ true
    → is_in_card stage ≡ true
unfolding is_in_card is_program
due-in-card program Fresh restore true due = absurd (false≢true due)
due-in-card program Fresh restore false due = absurd (false≢true due)
due-in-card program RanIn restore more due = absurd (false≢true (sym (none (prints program.printing Card && restore)) ∙ due))
  where
    none : (headed_by : Bool) → is_program (Some (if headed_by then Head First else Card)) ≡ false
    none true = refl
    none false = refl
due-in-card program RanCard restore more due = refl
due-in-card program (RanProg level ordinal) restore more due = refl
due-in-card program (BeforeCard First) restore more due = absurd (false≢true due)
due-in-card program (BeforeCard Second) restore more due = absurd (false≢true due)
due-in-card program (BeforeCard Third) restore more due = absurd (false≢true due)
due-in-card program (BeforeTotal level heading) restore more due = refl

due-stage : (machine : MachineState) (level : ProgramLevel) (ordinal : Ordinal) → cycle_due machine ≡ Some (Prog level ordinal)
    → is_in_card machine.program.stage ≡ true
unfolding is_program
due-stage machine level ordinal due =
    due-in-card machine.program machine.program.stage machine.carriage.spot.latch (has_more machine) (ap is_program due)

waits-in-card : (stage : Stage) (heading : Ordinal) → is_in_card (waiting stage heading) ≡ true → is_in_card stage ≡ true
unfolding is_in_card
waits-in-card RanCard heading waits = refl
waits-in-card (RanProg level ordinal) heading waits = refl
waits-in-card (BeforeTotal level before) heading waits = refl
waits-in-card Fresh heading waits = absurd (false≢true waits)
waits-in-card RanIn heading waits = absurd (false≢true waits)
waits-in-card (BeforeCard before) heading waits = absurd (false≢true waits)

-- the points of a cycle leave the stage
sensed-stage : (program : ProgramState) (cycle : Cycle) (point : Point) (picture : Hub → Bool)
    → (program_sensed program cycle point picture).stage ≡ program.stage
sensed-stage program Card K picture = refl
sensed-stage program cycle point picture = refl

points-stage : (wiring : Wiring) (cycle : Cycle) (points : ℕ) (old now : MachineState) → Reached wiring cycle points old now
    → now.program.stage ≡ old.program.stage
unfolding Reached
points-stage wiring cycle zero old now is = ap (λ (m : MachineState). m.program.stage) is
points-stage wiring cycle (suc points) old now (mid, before, step) =
    ap (λ (m : MachineState). m.program.stage) step.is_new ∙ sensed-stage mid.program cycle (point_at points) step.picture
    ∙ points-stage wiring cycle points old mid before

read-here : (wiring : Wiring) (deck : List (List ℕ)) (along : Along) (behind : MachineState) → ComesTo wiring deck along
    → Goes wiring Card along behind → Reached wiring Card 14 (ready Card along) behind → WasRead wiring deck (along.card + 1)
unfolding Reached
read-here wiring deck along behind comes goes (mid, before, step) = record {
  now = mid;
  reading = record { along = along; comes = comes; behind = behind; goes = goes; numbered = refl; reached = before };
  behind = behind;
  closing = step;
}

-- if a program cycle can be due, the card was read
was-read : (wiring : Wiring) (deck : List (List ℕ)) {along : Along} → ComesTo wiring deck along
    → is_in_card along.run.machine.program.stage ≡ true → WasRead wiring deck along.card
unfolding is_in_card
was-read wiring [] at_start waits = absurd (false≢true waits)
was-read wiring (card ∷ deck) at_start waits = absurd (false≢true waits)
was-read wiring deck (on RunIn along behind comes goes) waits = absurd (false≢true waits)
was-read wiring deck (on Card along behind comes goes) waits = read-here wiring deck along behind comes goes goes.reached
was-read wiring deck (on (Prog level ordinal) along behind comes goes) waits =
    was-read wiring deck comes (due-stage along.run.machine level ordinal goes.due)
was-read wiring deck (on (Head heading) along behind comes goes) waits =
    was-read wiring deck comes
    (ap is_in_card (sym (points-stage wiring (Head heading) 14 (ready (Head heading) along) behind goes.reached))
    ∙ waits-in-card behind.program.stage heading waits)

-- so it is if one is due
pub card-read : (wiring : Wiring) (deck : List (List ℕ)) {along : Along} (level : ProgramLevel) (ordinal : Ordinal) → ComesTo wiring deck along
    → cycle_due along.run.machine ≡ Some (Prog level ordinal) → WasRead wiring deck along.card
card-read wiring deck {along} level ordinal comes due = was-read wiring deck comes (due-stage along.run.machine level ordinal due)
