-- Which cycle comes in a run: where a card waits, after levels, within one, and where a total waits.
use Rattle.std.proofs.Common.{◌≡◌, ◌∙◌, refl, sym, ap, subst, ◌&&◌, not, Bool, true, false, ◌⊎◌, inl, inr, Option, Some, None, if◌then◌else◌}
use Rattle.net.specs.Printing.{prints}
use Rattle.net.specs.declared.cycle.Cycle.{Cycle}
use Rattle.net.specs.declared.cycle.Cycle.TheVariants.{Card, Prog, Head}
use Rattle.net.specs.declared.cycle.Ordinal.{Ordinal}
use Rattle.net.specs.declared.cycle.Ordinal.TheVariants.{First, Second, Third}
use Rattle.net.specs.declared.cycle.ProgramLevel.{ProgramLevel}
use Rattle.net.specs.declared.printing.Printing.{Printing}
use Rattle.proof_reports.proofs.WiredPanels.CycleAsks.LinePlaces.DueCycles.{stage_after}
use Rattle.program_unit.specs.CycleOrder.{cycle_after, has_level_left, headed, is_over_at, level_above}
use Rattle.program_unit.specs.Program.{ProgramState, stage_ended}
use Rattle.program_unit.specs.declared.stage.Stage.{Stage}
use Rattle.program_unit.specs.declared.stage.Stage.TheVariants.{Fresh, RanIn, RanCard, RanProg, BeforeCard, BeforeTotal}

pub one-due : (cycle other : Cycle) → Some cycle ≡ Some other → cycle ≡ other
one-due cycle other same = cc

-- a cycle that is due runs, or the first heading cycle in its place
headed-is : (printing : Printing) (restore : Bool) (cycle other : Cycle) → Some (headed printing restore cycle) ≡ Some other
    → (cycle ≡ other) ⊎ (Head First ≡ other)
headed-is printing restore cycle other same = by (prints printing cycle && restore) (one-due _ _ same)
  where
    by : (b : Bool) → (if b then Head First else cycle) ≡ other → (cycle ≡ other) ⊎ (Head First ≡ other)
    by true is = inr is
    by false is = inl is

-- Where a card waits its card cycle comes, or a heading cycle after which it still waits.
pub data ForCard (program : ProgramState) (stage : Stage) : Cycle → Type 0 where
  its_card : ForCard program stage Card
  its_heading : (heading : Ordinal) → is_over_at program (stage_ended stage (Head heading)) true ≡ true → ForCard program stage (Head heading)

card-or-heading : (program : ProgramState) (stage : Stage) (restore : Bool) (cycle : Cycle)
    → ((heading : Ordinal) → is_over_at program (stage_ended stage (Head heading)) true ≡ true)
    → Some (headed program.printing restore Card) ≡ Some cycle → ForCard program stage cycle
card-or-heading program stage restore cycle waits same = by (headed-is program.printing restore Card cycle same)
  where
    by : (Card ≡ cycle) ⊎ (Head First ≡ cycle) → ForCard program stage cycle
    by (inl is) = subst (ForCard program stage) is its_card
    by (inr is) = subst (ForCard program stage) is (its_heading First (waits First))

-- no level is left
none-left : {X : Type 0} (left : Bool) (level card : X) → not left ≡ true → (if left then level else card) ≡ card
none-left true level card none = cc
none-left false level card none = refl

pub for-card : (program : ProgramState) (stage : Stage) (restore : Bool) (cycle : Cycle) → is_over_at program stage true ≡ true
    → cycle_after program stage restore true ≡ Some cycle → ForCard program stage cycle
for-card program Fresh restore cycle over due = cc
for-card program RanIn restore cycle over due = card-or-heading program RanIn restore cycle (λ heading. refl) due
for-card program RanCard restore cycle over due =
    card-or-heading program RanCard restore cycle (λ heading. refl)
    (sym (none-left (has_level_left program None true) (Some (Prog (level_above None) First)) (Some (headed program.printing restore Card)) over) ∙ due)
for-card program (RanProg level First) restore cycle over due = cc
for-card program (RanProg level Second) restore cycle over due = cc
for-card program (RanProg level Third) restore cycle over due =
    card-or-heading program (RanProg level Third) restore cycle (λ heading. refl)
    (sym (none-left (has_level_left program (Some level) true) (Some (Prog (level_above (Some level)) First))
    (Some (headed program.printing restore Card)) over) ∙ due)
for-card program (BeforeCard First) restore cycle over due =
    subst (ForCard program (BeforeCard First)) (one-due (Head Second) cycle due) (its_heading Second refl)
for-card program (BeforeCard Second) restore cycle over due =
    subst (ForCard program (BeforeCard Second)) (one-due (Head Third) cycle due) (its_heading Third refl)
for-card program (BeforeCard Third) restore cycle over due =
    subst (ForCard program (BeforeCard Third)) (one-due Card cycle due) its_card
for-card program (BeforeTotal level heading) restore cycle over due = cc

-- after levels, where one is left, its first program cycle comes
pub for-level : (program : ProgramState) (done : Option ProgramLevel) (restore more : Bool) → has_level_left program done more ≡ true
    → cycle_after program (stage_after done) restore more ≡ Some (Prog (level_above done) First)
for-level program None restore more left =
    ap (λ (b : Bool). if b
    then Some (Prog (level_above None) First)
    else (if more then Some (headed program.printing restore Card) else None)) left
for-level program (Some level) restore more left =
    ap (λ (b : Bool). if b
    then Some (Prog (level_above (Some level)) First)
    else (if more then Some (headed program.printing restore Card) else None)) left

-- where none is left, the run is over without a card, and with one that card waits
pub none-due : (program : ProgramState) (done : Option ProgramLevel) (restore : Bool) → has_level_left program done false ≡ false
    → cycle_after program (stage_after done) restore false ≡ None
none-due program None restore none =
    ap (λ (b : Bool). if b then Some (Prog (level_above None) First) else None) none
none-due program (Some level) restore none =
    ap (λ (b : Bool). if b then Some (Prog (level_above (Some level)) First) else None) none

pub card-waits : (program : ProgramState) (done : Option ProgramLevel) → has_level_left program done true ≡ false
    → is_over_at program (stage_after done) true ≡ true
card-waits program None none = ap not none
card-waits program (Some level) none = ap not none

-- the level of the total that waits
abbrev pub awaits : Stage → Option ProgramLevel
awaits Fresh = None
awaits RanIn = None
awaits RanCard = None
awaits (RanProg level First) = None
awaits (RanProg level Second) = Some level
awaits (RanProg level Third) = None
awaits (BeforeCard heading) = None
awaits (BeforeTotal level heading) = Some level

-- Where a total waits its third program cycle comes, or a heading cycle after which it still waits.
pub data ForTotal (stage : Stage) (level : ProgramLevel) : Cycle → Type 0 where
  its_total : ForTotal stage level (Prog level Third)
  heading_first : (heading : Ordinal) → awaits (stage_ended stage (Head heading)) ≡ Some level → ForTotal stage level (Head heading)

pub for-total : (program : ProgramState) (stage : Stage) (restore more : Bool) (level : ProgramLevel) (cycle : Cycle)
    → awaits stage ≡ Some level → cycle_after program stage restore more ≡ Some cycle → ForTotal stage level cycle
for-total program Fresh restore more level cycle waits due = cc
for-total program RanIn restore more level cycle waits due = cc
for-total program RanCard restore more level cycle waits due = cc
for-total program (RanProg own First) restore more level cycle waits due = cc
for-total program (RanProg own Second) restore more level cycle waits due =
    let same : own ≡ level = cc in
    by (headed-is program.printing restore (Prog own Third) cycle due) same
  where
    by : (Prog own Third ≡ cycle) ⊎ (Head First ≡ cycle) → own ≡ level → ForTotal (RanProg own Second) level cycle
    by (inl is) same = subst (ForTotal (RanProg own Second) level) (ap (λ (l : ProgramLevel). Prog l Third) (sym same) ∙ is) its_total
    by (inr is) same = subst (ForTotal (RanProg own Second) level) is (heading_first First (ap Some same))
for-total program (RanProg own Third) restore more level cycle waits due = cc
for-total program (BeforeCard heading) restore more level cycle waits due = cc
for-total program (BeforeTotal own First) restore more level cycle waits due =
    subst (ForTotal (BeforeTotal own First) level) (one-due (Head Second) cycle due) (heading_first Second waits)
for-total program (BeforeTotal own Second) restore more level cycle waits due =
    subst (ForTotal (BeforeTotal own Second) level) (one-due (Head Third) cycle due) (heading_first Third waits)
for-total program (BeforeTotal own Third) restore more level cycle waits due =
    let same : own ≡ level = cc in
    subst (ForTotal (BeforeTotal own Third) level)
    (ap (λ (l : ProgramLevel). Prog l Third) (sym same) ∙ one-due (Prog own Third) cycle due) its_total
