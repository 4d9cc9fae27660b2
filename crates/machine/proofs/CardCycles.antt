-- When card cycles follow: a card stands at first reading, and the cycles of the card before are over.
use Rattle.std.proofs.Common.{◌≡◌, Bool, true, false, not, ◌&&◌, Option, Some, None, if◌then◌else◌, refl, subst}
use Rattle.net.specs.Printing.{prints}
use Rattle.net.specs.declared.cycle.Cycle.{Cycle}
use Rattle.net.specs.declared.cycle.Cycle.TheVariants.{Card, Prog, Head}
use Rattle.net.specs.declared.cycle.ProgramLevel.{ProgramLevel}
use Rattle.net.specs.declared.cycle.Ordinal.TheVariants.{First, Second, Third}
use Rattle.program_unit.specs.CycleOrder.{cycle_after, after, has_level_left, headed, is_over_at, level_above}
use Rattle.program_unit.specs.Program.{ProgramState, stage_ended}
use Rattle.program_unit.specs.declared.stage.Stage.{Stage}
use Rattle.program_unit.specs.declared.stage.Stage.TheVariants.{Fresh, RanIn, RanCard, RanProg, BeforeCard, BeforeTotal}
use Rattle.machine.specs.Ends.{is_card}

-- whether a card cycle follows, or its heading cycles
abbrev pub awaits_card : Stage → Bool
awaits_card Fresh = false
awaits_card RanIn = true
awaits_card RanCard = false
awaits_card (RanProg level ordinal) = false
awaits_card (BeforeCard heading) = true
awaits_card (BeforeTotal level heading) = false

-- A cycle that follows where no card stands at first reading.
pub record GoesWithout (program : ProgramState) (stage : Stage) (cycle : Cycle) : Type 0 where
  pub other : is_card cycle ≡ false
  pub going : is_over_at program stage false ≡ false
  pub still : awaits_card (stage_ended stage cycle) ≡ false

same_some : (one other : Cycle) → ◌≡◌ {A = Option Cycle} (Some one) (Some other) → one ≡ other
same_some one other same = cc

level-without : (program : ProgramState) (stage : Stage) (done : Option ProgramLevel) (restore : Bool) (cycle : Cycle)
    → is_over_at program stage false ≡ not (has_level_left program done false)
    → after program done restore false ≡ Some cycle → GoesWithout program stage cycle
level-without program stage done restore cycle over = by (has_level_left program done false) over
  where
    by : (left : Bool) → is_over_at program stage false ≡ not left
        → (if left then Some (Prog (level_above done) First) else None) ≡ Some cycle → GoesWithout program stage cycle
    by true is due =
        subst (λ (c : Cycle). GoesWithout program stage c) (same_some (Prog (level_above done) First) cycle due)
        (record { other = refl; going = is; still = refl })
    by false is due = cc

total-without : (program : ProgramState) (level : ProgramLevel) (restore : Bool) (cycle : Cycle)
    → headed program.printing restore (Prog level Third) ≡ cycle → GoesWithout program (RanProg level Second) cycle
total-without program level restore cycle = by (prints program.printing (Prog level Third) && restore)
  where
    by : (first : Bool) → (if first then Head First else Prog level Third) ≡ cycle
        → GoesWithout program (RanProg level Second) cycle
    by true is =
        subst (λ (c : Cycle). GoesWithout program (RanProg level Second) c) is (record { other = refl; going = refl; still = refl })
    by false is =
        subst (λ (c : Cycle). GoesWithout program (RanProg level Second) c) is (record { other = refl; going = refl; still = refl })

-- where no card stands at first reading and none is awaited, no card cycle follows, nor will one be awaited
pub without-card : (program : ProgramState) (stage : Stage) (restore : Bool) (cycle : Cycle)
    → awaits_card stage ≡ false → cycle_after program stage restore false ≡ Some cycle → GoesWithout program stage cycle
without-card program Fresh restore cycle awaits due = cc
without-card program RanIn restore cycle awaits due = cc
without-card program RanCard restore cycle awaits due = level-without program RanCard None restore cycle refl due
without-card program (RanProg level First) restore cycle awaits due =
    subst (λ (c : Cycle). GoesWithout program (RanProg level First) c) (same_some (Prog level Second) cycle due)
    (record { other = refl; going = refl; still = refl })
without-card program (RanProg level Second) restore cycle awaits due =
    total-without program level restore cycle (same_some (headed program.printing restore (Prog level Third)) cycle due)
without-card program (RanProg level Third) restore cycle awaits due =
    level-without program (RanProg level Third) (Some level) restore cycle refl due
without-card program (BeforeCard heading) restore cycle awaits due = cc
without-card program (BeforeTotal level First) restore cycle awaits due =
    subst (λ (c : Cycle). GoesWithout program (BeforeTotal level First) c) (same_some (Head Second) cycle due)
    (record { other = refl; going = refl; still = refl })
without-card program (BeforeTotal level Second) restore cycle awaits due =
    subst (λ (c : Cycle). GoesWithout program (BeforeTotal level Second) c) (same_some (Head Third) cycle due)
    (record { other = refl; going = refl; still = refl })
without-card program (BeforeTotal level Third) restore cycle awaits due =
    subst (λ (c : Cycle). GoesWithout program (BeforeTotal level Third) c) (same_some (Prog level Third) cycle due)
    (record { other = refl; going = refl; still = refl })

level-over : (program : ProgramState) (done : Option ProgramLevel) (restore more : Bool)
    → after program done restore more ≡ Some Card → not (has_level_left program done more) ≡ true
level-over program done restore more = by (has_level_left program done more)
  where
    by : (left : Bool)
        → (if left
        then Some (Prog (level_above done) First)
        else if more then Some (headed program.printing restore Card) else None)
        ≡ Some Card
        → not left ≡ true
    by true due = cc
    by false due = refl

no-total : (program : ProgramState) (level : ProgramLevel) (restore : Bool)
    → ◌≡◌ {A = Option Cycle} (Some (headed program.printing restore (Prog level Third))) (Some Card) → ⊥
no-total program level restore = by (prints program.printing (Prog level Third) && restore)
  where
    by : (first : Bool) → ◌≡◌ {A = Option Cycle} (Some (if first then Head First else Prog level Third)) (Some Card) → ⊥
    by true due = cc
    by false due = cc

-- where a card cycle follows, the cycles of the card before are over
pub card-over : (program : ProgramState) (stage : Stage) (restore more : Bool)
    → cycle_after program stage restore more ≡ Some Card → is_over_at program stage more ≡ true
card-over program Fresh restore true due = cc
card-over program Fresh restore false due = cc
card-over program RanIn restore more due = refl
card-over program RanCard restore more due = level-over program None restore more due
card-over program (RanProg level First) restore more due = cc
card-over program (RanProg level Second) restore more due = absurd (no-total program level restore due)
card-over program (RanProg level Third) restore more due = level-over program (Some level) restore more due
card-over program (BeforeCard heading) restore more due = refl
card-over program (BeforeTotal level First) restore more due = cc
card-over program (BeforeTotal level Second) restore more due = cc
card-over program (BeforeTotal level Third) restore more due = cc

level-with : (program : ProgramState) (done : Option ProgramLevel) (restore : Bool) → after program done restore true ≡ None → ⊥
level-with program done restore = by (has_level_left program done true)
  where
    by : (left : Bool)
        → (if left then Some (Prog (level_above done) First) else Some (headed program.printing restore Card)) ≡ None → ⊥
    by true due = cc
    by false due = cc

-- where a card stands at first reading, some cycle follows
pub with-card : (program : ProgramState) (stage : Stage) (restore : Bool) → cycle_after program stage restore true ≡ None → ⊥
with-card program Fresh restore due = cc
with-card program RanIn restore due = cc
with-card program RanCard restore due = level-with program None restore due
with-card program (RanProg level First) restore due = cc
with-card program (RanProg level Second) restore due = cc
with-card program (RanProg level Third) restore due = level-with program (Some level) restore due
with-card program (BeforeCard heading) restore due = cc
with-card program (BeforeTotal level heading) restore due = cc
