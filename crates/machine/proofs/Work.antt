-- How many cycles a feed can still have.
use Rattle.std.proofs.Common.{◌≡◌, ℕ, ◌+◌, ◌*◌, ◌-◌, ◌<◌, ◌≤◌, Bool, true, false, not, ◌&&◌, ◌||◌, Option, Some, None, if◌then◌else◌, refl, subst, arith}
use Rattle.std.proofs.lemmas.Bool.{ltb-true}
use Rattle.net.specs.Cycles.{level_number, ordinal_number}
use Rattle.net.specs.Printing.{prints}
use Rattle.net.specs.declared.cycle.Cycle.{Cycle}
use Rattle.net.specs.declared.cycle.Cycle.TheVariants.{RunIn, Card, Prog, Head}
use Rattle.net.specs.declared.cycle.ProgramLevel.{ProgramLevel}
use Rattle.net.specs.declared.cycle.ProgramLevel.TheVariants.{Minor, Final}
use Rattle.net.specs.declared.cycle.Ordinal.TheVariants.{First, Second, Third}
use Rattle.program_unit.specs.CycleOrder.{cycle_after, after, headed, levels_to, level_above, top_level, has_level_left, is_over_at}
use Rattle.program_unit.specs.Program.{ProgramState, stage_ended}
use Rattle.program_unit.specs.declared.stage.Stage.{Stage}
use Rattle.program_unit.specs.declared.stage.Stage.TheVariants.{Fresh, RanIn, RanCard, RanProg, BeforeCard, BeforeTotal}

-- at most so many cycles follow a stage before the cycles of its card are over, where so many levels run in all
abbrev pub left_of : Stage → ℕ → ℕ
left_of Fresh top = 1
left_of RanIn top = 0
left_of RanCard top = 6 * top
left_of (RanProg level First) top = 6 * (top - level_number level) + 5
left_of (RanProg level Second) top = 6 * (top - level_number level) + 4
left_of (RanProg level Third) top = 6 * (top - level_number level)
left_of (BeforeCard heading) top = 0
left_of (BeforeTotal level heading) top = 6 * (top - level_number level) + (4 - ordinal_number heading)

-- at most so many cycles belong to a card that waits: heading cycles that have run are not counted again
abbrev pub left_before : Stage → ℕ
left_before (BeforeCard heading) = 28 - ordinal_number heading
left_before stage = 28

-- at most so many cycles follow in a feed
abbrev pub left_in : Stage → ℕ → Bool → ℕ
left_in stage top true = left_of stage top + left_before stage
left_in stage top false = left_of stage top

-- how many levels run in all
abbrev pub top_of : ProgramState → Bool → ℕ
top_of program more = levels_to (top_level program more)

levels_to-four : (level : Option ProgramLevel) → levels_to level ≤ 4
levels_to-four None = omega arith
levels_to-four (Some Minor) = omega arith
levels_to-four other = omega arith

pub top_of-four : (program : ProgramState) (more : Bool) → top_of program more ≤ 4
top_of-four program more = levels_to-four (top_level program more)

-- A cycle leaves less to follow. After a card cycle at most 24 cycles follow.
abbrev Falls : Stage → ℕ → Bool → Cycle → Type 0
Falls stage top waits Card = 24 < left_in stage top waits
Falls stage top waits cycle = left_in (stage_ended stage cycle) top waits < left_in stage top waits

-- a card cycle or its first heading cycle is due: something waits
card-falls : (stage : Stage) (top : ℕ) (printing restore waits : Bool) (cycle : Cycle)
    → waits ≡ true → left_before stage ≡ 28 → stage_ended stage (Head First) ≡ BeforeCard First
    → (if printing && restore then Head First else Card) ≡ cycle → Falls stage top waits cycle
card-falls stage top true true true cycle here fresh waiting is =
    subst (λ (c : Cycle). Falls stage top true c) is (rw (waiting, fresh) (omega arith))
card-falls stage top true false true cycle here fresh waiting is =
    subst (λ (c : Cycle). Falls stage top true c) is (rw fresh (omega arith))
card-falls stage top false restore true cycle here fresh waiting is =
    subst (λ (c : Cycle). Falls stage top true c) is (rw fresh (omega arith))
card-falls stage top printing restore false cycle here fresh waiting is = cc

level_above-next : (done : Option ProgramLevel) → levels_to done < 4 → level_number (level_above done) ≡ levels_to done + 1
level_above-next (Some Final) below = absurd (omega (arith, below))
level_above-next other below = refl

same_some : {X : Type 0} → (one other : X) → ◌≡◌ {A = Option X} (Some one) (Some other) → one ≡ other
same_some one other same = cc

level-falls : (stage : Stage) (top : ℕ) (waits : Bool) (done : Option ProgramLevel) → top ≤ 4 → levels_to done < top
    → left_of stage top ≡ 6 * (top - levels_to done) → left_before stage ≡ 28
    → Falls stage top waits (Prog (level_above done) First)
level-falls stage top true done four below here fresh =
    let next = level_above-next done (omega (arith, four, below)) in rw (next, here, fresh) (omega (arith, below))
level-falls stage top false done four below here fresh =
    let next = level_above-next done (omega (arith, four, below)) in rw (next, here) (omega (arith, below))

-- after the cycles of a card, or of one of its levels
after-falls : (program : ProgramState) (stage : Stage) (done : Option ProgramLevel) (restore more waits : Bool) (cycle : Cycle)
    → left_of stage (top_of program more) ≡ 6 * (top_of program more - levels_to done) → left_before stage ≡ 28
    → stage_ended stage (Head First) ≡ BeforeCard First
    → after program done restore more ≡ Some cycle → (waits || not (not (has_level_left program done more))) ≡ true
    → Falls stage (top_of program more) waits cycle
after-falls program stage done restore more waits cycle here fresh waiting = by (has_level_left program done more) more refl
  where
    top : ℕ
    top = top_of program more

    by : (left card : Bool) → has_level_left program done more ≡ left
        → (if left
        then Some (Prog (level_above done) First)
        else if card then Some (headed program.printing restore Card) else None)
        ≡ Some cycle
        → (waits || not (not left)) ≡ true → Falls stage top waits cycle
    by true card is due going =
        subst (λ (c : Cycle). Falls stage top waits c) (same_some (Prog (level_above done) First) cycle due)
        (level-falls stage top waits done (top_of-four program more) (ltb-true (levels_to done) top is) here fresh)
    by false true is due going = waiting_then waits going
      where
        waiting_then : (w : Bool) → (w || not (not false)) ≡ true → Falls stage top w cycle
        waiting_then true go =
            card-falls stage top (prints program.printing Card) restore true cycle refl fresh waiting
            (same_some (headed program.printing restore Card) cycle due)
        waiting_then false go = cc
    by false false is due going = cc

-- the third program cycle of a level is due, or its first heading cycle
total-falls : (level : ProgramLevel) (top : ℕ) (printing restore waits : Bool) (cycle : Cycle)
    → (if printing && restore then Head First else Prog level Third) ≡ cycle
    → Falls (RanProg level Second) top waits cycle
total-falls level top true true true cycle is =
    subst (λ (c : Cycle). Falls (RanProg level Second) top true c) is (omega arith)
total-falls level top true true false cycle is =
    subst (λ (c : Cycle). Falls (RanProg level Second) top false c) is (omega arith)
total-falls level top true false true cycle is =
    subst (λ (c : Cycle). Falls (RanProg level Second) top true c) is (omega arith)
total-falls level top true false false cycle is =
    subst (λ (c : Cycle). Falls (RanProg level Second) top false c) is (omega arith)
total-falls level top false restore true cycle is =
    subst (λ (c : Cycle). Falls (RanProg level Second) top true c) is (omega arith)
total-falls level top false restore false cycle is =
    subst (λ (c : Cycle). Falls (RanProg level Second) top false c) is (omega arith)

-- each cycle that is due leaves less to follow
pub work-falls : (program : ProgramState) (stage : Stage) (restore more waits : Bool) (cycle : Cycle)
    → cycle_after program stage restore more ≡ Some cycle → (waits || not (is_over_at program stage more)) ≡ true
    → Falls stage (top_of program more) waits cycle
work-falls program Fresh restore true true cycle due going =
    subst (λ (c : Cycle). Falls Fresh (top_of program true) true c) (same_some RunIn cycle due) (omega arith)
work-falls program Fresh restore true false cycle due going =
    subst (λ (c : Cycle). Falls Fresh (top_of program true) false c) (same_some RunIn cycle due) (omega arith)
work-falls program Fresh restore false waits cycle due going = cc
work-falls program RanIn restore more true cycle due going =
    card-falls RanIn (top_of program more) (prints program.printing Card) restore true cycle refl refl refl
    (same_some (headed program.printing restore Card) cycle due)
work-falls program RanIn restore more false cycle due going = cc
work-falls program RanCard restore more waits cycle due going =
    after-falls program RanCard None restore more waits cycle (omega arith) refl refl due going
work-falls program (RanProg level First) restore more true cycle due going =
    subst (λ (c : Cycle). Falls (RanProg level First) (top_of program more) true c) (same_some (Prog level Second) cycle due)
    (omega arith)
work-falls program (RanProg level First) restore more false cycle due going =
    subst (λ (c : Cycle). Falls (RanProg level First) (top_of program more) false c) (same_some (Prog level Second) cycle due)
    (omega arith)
work-falls program (RanProg level Second) restore more waits cycle due going =
    total-falls level (top_of program more) (prints program.printing (Prog level Third)) restore waits cycle
    (same_some (headed program.printing restore (Prog level Third)) cycle due)
work-falls program (RanProg level Third) restore more waits cycle due going =
    after-falls program (RanProg level Third) (Some level) restore more waits cycle refl refl refl due going
work-falls program (BeforeCard heading) restore more false cycle due going = cc
work-falls program (BeforeCard First) restore more true cycle due going =
    subst (λ (c : Cycle). Falls (BeforeCard First) (top_of program more) true c) (same_some (Head Second) cycle due) (omega arith)
work-falls program (BeforeCard Second) restore more true cycle due going =
    subst (λ (c : Cycle). Falls (BeforeCard Second) (top_of program more) true c) (same_some (Head Third) cycle due) (omega arith)
work-falls program (BeforeCard Third) restore more true cycle due going =
    subst (λ (c : Cycle). Falls (BeforeCard Third) (top_of program more) true c) (same_some Card cycle due) (omega arith)
work-falls program (BeforeTotal level First) restore more true cycle due going =
    subst (λ (c : Cycle). Falls (BeforeTotal level First) (top_of program more) true c) (same_some (Head Second) cycle due)
    (omega arith)
work-falls program (BeforeTotal level First) restore more false cycle due going =
    subst (λ (c : Cycle). Falls (BeforeTotal level First) (top_of program more) false c) (same_some (Head Second) cycle due)
    (omega arith)
work-falls program (BeforeTotal level Second) restore more true cycle due going =
    subst (λ (c : Cycle). Falls (BeforeTotal level Second) (top_of program more) true c) (same_some (Head Third) cycle due)
    (omega arith)
work-falls program (BeforeTotal level Second) restore more false cycle due going =
    subst (λ (c : Cycle). Falls (BeforeTotal level Second) (top_of program more) false c) (same_some (Head Third) cycle due)
    (omega arith)
work-falls program (BeforeTotal level Third) restore more true cycle due going =
    subst (λ (c : Cycle). Falls (BeforeTotal level Third) (top_of program more) true c) (same_some (Prog level Third) cycle due)
    (omega arith)
work-falls program (BeforeTotal level Third) restore more false cycle due going =
    subst (λ (c : Cycle). Falls (BeforeTotal level Third) (top_of program more) false c) (same_some (Prog level Third) cycle due)
    (omega arith)
