-- The digits that a group entered, by the pictures of the rows.
use Rattle.std.proofs.Common.{◌≡◌, ◌∙◌, sym, ap, subst, refl, inl, inr, ℕ, zero, suc, ◌+◌, ◌-◌, ◌==◌, ◌<◌, ◌≤◌, ◌⊎◌, ◌&&◌, ◌||◌, nat_le, Bool, true, false, List, [], ◌∷◌, Option, length, get_or, replicate, arith, if◌then◌else◌}
use Rattle.std.proofs.lemmas.Bool.Decides.{nat_tests}
use Rattle.std.specs.Prelude.{IsSome, Vec}
use Rattle.std.specs.declared.alloc.Global.{Global}
use Rattle.card_code.specs.Rows.{row_number}
use Rattle.hubs.specs.declared.hub.Group.{Group}
use Rattle.hubs.specs.declared.hub.Hub.{Hub}
use Rattle.hubs.specs.declared.hub.Hub.TheVariants.{GE}
use Rattle.hubs.specs.SetupsWords.Wiring.{Wiring}
use Rattle.net.specs.Impulsed.{IsImpulsed}
use Rattle.net.specs.declared.cycle.Cycle.{Cycle}
use Rattle.net.specs.declared.cycle.Point.{Point}
use Rattle.net.specs.declared.cycle.Point.TheVariants.{C, Row, K}
use Rattle.counters.specs.Counters.{Counter, all_taken, counter_at_start, counter_sensed, group_of_unit, taken, takes}
use Rattle.counters.specs.Laws.{IsCounter}
use Rattle.counters.proofs.TakenRows.{length-all_taken}
use Rattle.machine.specs.Cycles.{PointStep, Reached, point_at}
use Rattle.machine.specs.Machine.{MachineState, closes, emits}
use Rattle.machine.proofs.OneOutcome.{Reached-one}
use Rattle.explain_ledgers.specs.LedgersWords.Ledgers.{group_at, ready}
use Rattle.explain_ledgers.proofs.LedgersWords.Points.{StandsAt, reached-stands}
use Rattle.explain_ledgers.proofs.LedgersWords.Whole.{holds, ready-groups}
use Rattle.explain_ledgers.proofs.CycleWays.Controls.{group-sensed, stood}
use Rattle.explain_ledgers.proofs.CycleWays.Named.{named}
use Rattle.explain_wheels.specs.ExplanationsWords.Explanations.{TellsPoint}
use Rattle.explain_ledgers.specs.CycleWays.ToldImpulses.{DigitsAreTold, digit_at}

digit-none : (here : Bool) (rest : ℕ) → rest ≡ 0 → (if here then 0 else rest) ≡ 0
digit-none true rest none = refl
digit-none false rest none = none

no-digits : (n position : ℕ) → digit_at (replicate n 0) position ≡ 0
no-digits zero position = refl
no-digits (suc n) position =
    digit-none (length (replicate n 0) + 1 == position) (digit_at (replicate n 0) position) (no-digits n position)

-- a digit behind a row is that before, or the row, whose entry was impulsed
IsTakenAt : (row : ℕ) (impulsed : ℕ → Bool) (position old new : ℕ) → Type 0
IsTakenAt row impulsed position old new = (new ≡ old) ⊎ ((impulsed position ≡ true) × (new ≡ row))

one-taken : (row digit : ℕ) (impulsed : ℕ → Bool) (here position : ℕ) → here ≡ position
    → IsTakenAt row impulsed position digit (taken row (impulsed here) digit)
unfolding IsTakenAt
one-taken row digit impulsed here position same = by (digit == 0) (impulsed here) refl
  where
    by : (empty on : Bool) → impulsed here ≡ on
        → ((if empty && on then row else digit) ≡ digit) ⊎ ((impulsed position ≡ true) × ((if empty && on then row else digit) ≡ row))
    by true true is = inr (ap impulsed (sym same) ∙ is, refl)
    by true false is = inl refl
    by false on is = inl refl

digit-taken : (row : ℕ) (impulsed : ℕ → Bool) (position : ℕ) (entered : List ℕ)
    → IsTakenAt row impulsed position (digit_at entered position) (digit_at (all_taken row impulsed entered) position)
unfolding IsTakenAt
digit-taken row impulsed position [] = inl refl
digit-taken row impulsed position (digit ∷ below) =
    subst
    (λ (n : ℕ). IsTakenAt row impulsed position (if length below + 1 == position then digit else digit_at below position)
    (if n + 1 == position then taken row (impulsed (length below + 1)) digit else digit_at (all_taken row impulsed below) position))
    (sym (length-all_taken row impulsed below))
    (by (length below + 1 == position) refl (digit-taken row impulsed position below))
  where
    by : (here : Bool) → (length below + 1 == position) ≡ here
        → IsTakenAt row impulsed position (digit_at below position) (digit_at (all_taken row impulsed below) position)
        → IsTakenAt row impulsed position (if here then digit else digit_at below position)
        (if here then taken row (impulsed (length below + 1)) digit else digit_at (all_taken row impulsed below) position)
    by true is rest = one-taken row digit impulsed (length below + 1) position (grind (arith, nat_tests, is))
    by false is rest = rest

-- the digit of a point: that of its row
abbrev digit_of : Point → ℕ
digit_of C = 0
digit_of (Row row) = row_number row
digit_of K = 0

place-of : (n : ℕ) → 1 ≤ digit_of (point_at n) → digit_of (point_at n) ≤ 9 → 10 - digit_of (point_at n) ≡ n
place-of zero low high = absurd (omega (arith, low))
place-of (suc zero) low high = refl
place-of (suc (suc zero)) low high = refl
place-of (suc (suc (suc zero))) low high = refl
place-of (suc (suc (suc (suc zero)))) low high = refl
place-of (suc (suc (suc (suc (suc zero))))) low high = refl
place-of (suc (suc (suc (suc (suc (suc zero)))))) low high = refl
place-of (suc (suc (suc (suc (suc (suc (suc zero))))))) low high = refl
place-of (suc (suc (suc (suc (suc (suc (suc (suc zero)))))))) low high = refl
place-of (suc (suc (suc (suc (suc (suc (suc (suc (suc zero))))))))) low high = refl
place-of (suc (suc (suc (suc (suc (suc (suc (suc (suc (suc zero)))))))))) low high = absurd (omega (arith, low))
place-of (suc (suc (suc (suc (suc (suc (suc (suc (suc (suc (suc zero))))))))))) low high = absurd (omega (arith, high))
place-of (suc (suc (suc (suc (suc (suc (suc (suc (suc (suc (suc (suc zero)))))))))))) low high = absurd (omega (arith, high))
place-of (suc (suc (suc (suc (suc (suc (suc (suc (suc (suc (suc (suc (suc zero))))))))))))) low high = absurd (omega (arith, low))
place-of (suc (suc (suc (suc (suc (suc (suc (suc (suc (suc (suc (suc (suc (suc n)))))))))))))) low high = absurd (omega (arith, low))

-- a digit behind a point: that before, or that of the point
data IsPassed (group : Counter) (point : Point) (picture : Hub → Bool) (position new : ℕ) : Type 0 where
  as_before : new ≡ digit_at group.entered position → IsPassed group point picture position new
  came : picture (GE group.name position) ≡ true → new ≡ digit_of point → 1 ≤ digit_of point → digit_of point ≤ 9
      → IsPassed group point picture position new

row-low : (on : Bool) (row : ℕ) → (on && (nat_le 1 row && nat_le row 9)) ≡ true → 1 ≤ row
row-low on row is = grind (arith, nat_tests, is)

row-high : (on : Bool) (row : ℕ) → (on && (nat_le 1 row && nat_le row 9)) ≡ true → row ≤ 9
row-high on row is = grind (arith, nat_tests, is)

passed-point : (group : Counter) (cycle : Cycle) (point : Point) (picture : Hub → Bool) (position : ℕ)
    → IsPassed group point picture position (digit_at (counter_sensed group cycle point picture).entered position)
unfolding IsTakenAt
passed-point group cycle C picture position = as_before refl
passed-point group cycle K picture position = as_before refl
passed-point group cycle (Row row) picture position = by (takes group.controls (row_number row)) refl
  where
    by : (on : Bool) → takes group.controls (row_number row) ≡ on
        → IsPassed group (Row row) picture position
        (digit_at (if on then all_taken (row_number row) (λ position. picture (GE group.name position)) group.entered else group.entered) position)
    by false is = as_before refl
    by true is = elim (digit-taken (row_number row) (λ position. picture (GE group.name position)) position group.entered) [
      | inl same ↦ as_before same
      | inr new ↦
          came new.0 new.1 (row-low (group.controls.plus || group.controls.minus) (row_number row) is)
          (row-high (group.controls.plus || group.controls.minus) (row_number row) is)
    ]

-- the entry of a position was impulsed at the row of a digit
record Seen (wiring : Wiring) (cycle : Cycle) (name : Group) (position digit : ℕ) (old : MachineState) : Type 0 where
  now : MachineState
  reached : Reached wiring cycle (10 - digit) old now
  impulsed : IsImpulsed wiring (emits now cycle (point_at (10 - digit))) (closes now cycle (point_at (10 - digit))) (GE name position)

-- nothing is entered yet, or it came at its row
data IsSeen (wiring : Wiring) (cycle : Cycle) (name : Group) (position digit : ℕ) (old : MachineState) : Type 0 where
  nothing : digit ≡ 0 → IsSeen wiring cycle name position digit old
  seen : Seen wiring cycle name position digit old → IsSeen wiring cycle name position digit old

-- one point more
seen-more : (wiring : Wiring) (cycle : Cycle) (points position : ℕ) (name : Group) (group : Counter) (old mid now : MachineState) (new : ℕ)
    → group.name ≡ name → Reached wiring cycle points old mid → (step : PointStep wiring cycle (point_at points) mid now)
    → IsSeen wiring cycle name position (digit_at group.entered position) old
    → IsPassed group (point_at points) step.picture position new → IsSeen wiring cycle name position new old
seen-more wiring cycle points position name group old mid now new named reached step before (as_before same) =
    subst (λ (d : ℕ). IsSeen wiring cycle name position d old) (sym same) before
seen-more wiring cycle points position name group old mid now new named reached step before (came on is low high) =
    let here : points ≡ 10 - new = sym (ap (λ (d : ℕ). 10 - d) is ∙ place-of points low high) in
    seen (record {
      now = mid;
      reached = subst (λ (k : ℕ). Reached wiring cycle k old mid) here reached;
      impulsed =
          subst (λ (k : ℕ). IsImpulsed wiring (emits mid cycle (point_at k)) (closes mid cycle (point_at k)) (GE name position)) here
          (subst (λ (n : Group). IsImpulsed wiring (emits mid cycle (point_at points)) (closes mid cycle (point_at points)) (GE n position))
          named ((step.is_picture (GE group.name position)).0 on));
    })

all-seen : (wiring : Wiring) (cycle : Cycle) (points place position : ℕ) (old now : MachineState) → place < length old.groups
    → IsCounter (group_at old place) → digit_at (group_at old place).entered position ≡ 0 → Reached wiring cycle points old now
    → IsSeen wiring cycle (group_at old place).name position (digit_at (group_at now place).entered position) old
unfolding Reached
all-seen wiring cycle zero place position old now low lawful empty same =
    nothing (ap (λ (m : MachineState). digit_at (group_at m place).entered position) same ∙ empty)
all-seen wiring cycle (suc points) place position old now low lawful empty (mid, reached, step) =
    let before = all-seen wiring cycle points place position old mid low lawful empty reached in
    let at : StandsAt place old mid = reached-stands wiring cycle points place old mid low lawful reached in
    let sensed =
    group-sensed cycle (point_at points) step.picture place mid now (subst (λ (n : ℕ). place < n) (sym at.many) low) step.is_new in
    seen-more wiring cycle points position (group_at old place).name (group_at mid place) old mid now
    (digit_at (group_at now place).entered position) at.stands.name reached step before
    (subst (λ (g : Counter). IsPassed (group_at mid place) (point_at points) step.picture position (digit_at g.entered position)) (sym sensed)
    (passed-point (group_at mid place) cycle (point_at points) step.picture position))

-- what is told of an entry that was impulsed is a way
seen-told : (wiring : Wiring) (cycle : Cycle) (name : Group) (position digit : ℕ) (old : MachineState) (found : Option (Vec Hub Global))
    → 1 ≤ digit → IsSeen wiring cycle name position digit old → TellsPoint wiring cycle old (10 - digit) (GE name position) found
    → IsSome found
seen-told wiring cycle name position digit old found some (nothing none) tells = absurd (omega (arith, some, none))
seen-told wiring cycle name position digit old found some (seen is) tells =
    let one = Reached-one wiring cycle (10 - digit) old is.now tells.now is.reached tells.reached in
    tells.exactly.1
    (subst (λ (m : MachineState). IsImpulsed wiring (emits m cycle (point_at (10 - digit))) (closes m cycle (point_at (10 - digit)))
    (GE name position)) one is.impulsed)

pub digits-told : DigitsAreTold
digits-told wiring deck passed has place position found low some tells =
    let cycle = has.cycle in
    let old = ready cycle has.along in
    let all = holds wiring deck place low has.comes in
    let same : group_at old place ≡ group_at has.along.run.machine place =
    ap (λ (gs : List Counter). get_or gs place (counter_at_start 3)) (ready-groups cycle has.along) in
    let here = stood wiring deck passed has place low in
    let empty : digit_at (group_at old place).entered position ≡ 0 =
    ap (λ (g : Counter). digit_at g.entered position) same
    ∙ ap (λ (l : List ℕ). digit_at l position) all.empty ∙ no-digits (group_at has.along.run.machine place).name.width position in
    let digit = digit_at (group_at has.behind place).entered position in
    let name : group_of_unit (3 + place) ≡ (group_at old place).name =
    sym (named wiring deck passed has place low) ∙ here.at.stands.name in
    seen-told wiring cycle (group_at old place).name position digit old found some
    (all-seen wiring cycle 14 place position old has.behind here.within here.lawful empty has.goes.reached)
    (subst (λ (n : Group). TellsPoint wiring cycle old (10 - digit) (GE n position) found) name tells)
