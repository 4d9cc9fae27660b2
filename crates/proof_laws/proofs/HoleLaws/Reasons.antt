-- What is told of a program cycle is why it runs.
use Rattle.std.proofs.Common.{◌≡◌, ◌∙◌, sym, ap, subst, refl, ℕ, zero, suc, ◌<◌, ◌≤◌, ◌==◌, ◌&&◌, arith, not, Bool, true, false, ◌⊎◌, inl, inr, List, [], ◌∷◌, ◌++◌, Contains, Option, Some, None, length, take, if◌then◌else◌}
use Rattle.std.proofs.lemmas.Bool.{and_parts, cases_lt, eqb-true, false≢true, leb-true}
use Rattle.std.proofs.lemmas.Bool.Decides.{nat_tests}
use Rattle.std.proofs.lemmas.Option.{none-some, slice_get_past}
use Rattle.std.specs.Prelude.{is_some, nat_le, slice_get}
use Rattle.card_code.specs.Rows.{rows}
use Rattle.hubs.proofs.HubLemmas.{in_range}
use Rattle.hubs.specs.Hubs.{is_within, number_of}
use Rattle.hubs.specs.declared.hub.Hub.{Hub}
use Rattle.hubs.specs.declared.hub.Hub.TheVariants.{CA, CB, CX, ST}
use Rattle.program_unit.specs.CycleOrder.{levels_to}
use Rattle.program_unit.specs.Laws.{levels, levels_with}
use Rattle.program_unit.specs.Program.{called_for}
use Rattle.machine.specs.Cycles.{PointStep}
use Rattle.machine.specs.Machine.{MachineState, closes, emits}
use Rattle.machine.specs.Runs.{has_more}
use Rattle.net.specs.Cycles.{level_number}
use Rattle.net.specs.Impulsed.{IsImpulsed}
use Rattle.net.specs.Impulsed.IsImpulsed.{emitting, led_on}
use Rattle.explain_ledgers.specs.LedgersWords.Ledgers.{card_in}
use Rattle.net.specs.declared.cycle.Cycle.{Cycle}
use Rattle.net.specs.declared.cycle.Cycle.TheVariants.{Card}
use Rattle.net.specs.declared.cycle.Point.TheVariants.{K}
use Rattle.net.specs.declared.cycle.ProgramLevel.{ProgramLevel}
use Rattle.net.specs.declared.cycle.ProgramLevel.TheVariants.{Minor, Intermediate, Major, Final}
use Rattle.explain_origins.specs.Holes.{first_of}
use Rattle.explain_origins.specs.Levels.{called_by, called_by_holes, called_text, called_to, calling_text, calls, is_of_brushes, last_text, level_text, or_text, position_text, position_text_by, positions_text, runs_text, unlike_lines}
use Rattle.hubs.proofs.SetupsWords.WiredLemmas.{HasWire-is_wired}
use Rattle.hubs.specs.SetupsWords.Wiring.{HasWire, LeadsToEntries, Wiring, is_wired}
use Rattle.proof_laws.specs.HoleLaws.Reasons.{CallsLevel, IsOfBrushes, IsReading, IsReason, IsWhy, NoneBelowCalls, OthersCallNoLevel, ReasonsHold, has_lines}
use Rattle.proof_laws.specs.HoleLaws.Reasons.IsReason.{called_from, last}
use Rattle.proof_laws.proofs.HoleLaws.Cards.{WasRead, card-read}
use Rattle.proof_laws.proofs.HoleLaws.Differences.{cons-some, lines-tell, reads}

some-same : (n m : ℕ) → ◌≡◌ {A = Option ℕ} (Some n) (Some m) → n ≡ m
some-same n m same = cc

-- the level that is found is called
called-leads : (wiring : Wiring) (position from levels called : ℕ) → called_to wiring position from levels ≡ Some called
    → calls wiring position from called ≡ true
called-leads wiring position from zero called found = absurd (none-some called found)
called-leads wiring position from (suc levels) called found =
    by (λ other is. called-leads wiring position from levels other is) (called_to wiring position from levels) refl
    (calls wiring position from (suc levels)) refl found
  where
    by : ((level : ℕ) → called_to wiring position from levels ≡ Some level → calls wiring position from level ≡ true)
        → (lower : Option ℕ) → called_to wiring position from levels ≡ lower → (here : Bool) → calls wiring position from (suc levels) ≡ here
        → first_of lower (if here then Some (suc levels) else None) ≡ Some called → calls wiring position from called ≡ true
    by lower (Some level) is here leads same = lower called (is ∙ same)
    by lower None is true leads same =
        subst (λ (n : ℕ). calls wiring position from n ≡ true) (some-same (suc levels) called same) leads
    by lower None is false leads same = absurd (none-some called same)

-- a position that calls a level by holes
record CalledByHoles (wiring : Wiring) (position from called : ℕ) : Type 0 where
  brushes : is_of_brushes wiring (CA position) ≡ true
  also : is_of_brushes wiring (CB position) ≡ true
  high : from ≤ called
  wired : is_wired wiring (CX position) (ST called) ≡ true

by-holes : (wiring : Wiring) (position from called : ℕ) → called_by_holes wiring position from ≡ Some called
    → CalledByHoles wiring position from called
by-holes wiring position from called found =
    by (is_of_brushes wiring (CA position)) refl (is_of_brushes wiring (CB position)) refl found
  where
    by : (one : Bool) → is_of_brushes wiring (CA position) ≡ one → (other : Bool) → is_of_brushes wiring (CB position) ≡ other
        → (if one && other then called_to wiring position from 3 else None) ≡ Some called → CalledByHoles wiring position from called
    by true is true also same =
        let parts = and_parts (nat_le from called) (is_wired wiring (CX position) (ST called)) (called-leads wiring position from 3 called same) in
        record { brushes = is; also = also; high = leb-true from called parts.0; wired = parts.1 }
    by true is false also same = absurd (none-some called same)
    by false is other also same = absurd (none-some called same)

of-brushes : (wiring : Wiring) (position from called : ℕ) → called_by_holes wiring position from ≡ Some called → IsOfBrushes wiring position
of-brushes wiring position from called found =
    let is = by-holes wiring position from called found in record { first = is.brushes; second = is.also }

-- the numbers of positions and of levels that have wires
position-within : (position number : ℕ) → number_of (CX position) ≡ Some number → is_within position 30 ≡ true
position-within position number numbered = grind (arith, nat_tests)

level-within : (level number : ℕ) → number_of (ST level) ≡ Some number → (1 ≤ level) × (level ≤ 3)
level-within level number numbered = grind (arith, nat_tests)

-- the program unit takes the level of an entry that is impulsed, or a higher one
level-taken : (picture : Hub → Bool) (called : ℕ) → 1 ≤ called → called ≤ 3 → picture (ST called) ≡ true → called ≤ levels_to (called_for picture)
level-taken picture called from to here = by (picture (ST 3)) refl (picture (ST 2)) refl (picture (ST 1)) refl
  where
    differs : (level : ℕ) → picture (ST level) ≡ false → called ≡ level → ⊥
    differs level off same = false≢true (sym off ∙ ap (λ (n : ℕ). picture (ST n)) (sym same) ∙ here)

    below : (level : ℕ) → called ≤ suc level → (called ≡ suc level → ⊥) → called ≤ level
    below level most apart = least (cases_lt level called)
      where
        least : (level < called) ⊎ (called ≤ level) → called ≤ level
        least (inl high) = absurd (apart (omega (arith, high, most)))
        least (inr low) = low

    by : (three : Bool) → picture (ST 3) ≡ three → (two : Bool) → picture (ST 2) ≡ two → (first : Bool) → picture (ST 1) ≡ first
        → called ≤ levels_to (if three then Some Major else if two then Some Intermediate else if first then Some Minor else None)
    by true a two b first c = to
    by false a true b first c = below 2 to (differs 3 a)
    by false a false b true c = below 1 (below 2 to (differs 3 a)) (differs 2 b)
    by false a false b false c = below 0 (below 1 (below 2 to (differs 3 a)) (differs 2 b)) (differs 1 c)

positions-call : (wiring : Wiring) (deck : List (List ℕ)) (card position level called : ℕ) (now behind : MachineState)
    → LeadsToEntries wiring → IsReading wiring deck card 13 now → PointStep wiring Card K now behind
    → called_by_holes wiring position level ≡ Some called → has_lines wiring deck card position ≡ true
    → (level ≤ called) × CallsLevel wiring position called now behind
positions-call wiring deck card position level called now behind leads reading step found lines =
    let is = by-holes wiring position level called found in
    let wire : HasWire wiring (CX position) (ST called) = (HasWire-is_wired wiring (CX position) (ST called)).0 is.wired in
    let emitted : emits now Card K (CX position) ≡ true =
    lines-tell wiring deck card position now leads reading (position-within position wire.number wire.numbered) is.brushes is.also ∙ lines in
    let impulsed : IsImpulsed wiring (emits now Card K) (closes now Card K) (ST called) =
    led_on (CX position) (ST called) (emitting (CX position) (in_range (CX position) wire.number wire.numbered) emitted) (inl wire) in
    let within = level-within called wire.to wire.entry_numbered in
    let taken : called ≤ levels_to (called_for step.picture) =
    level-taken step.picture called within.0 within.1 ((step.is_picture (ST called)).1 impulsed) in
    let program : behind.program.highest ≡ called_for step.picture = ap (λ (m : MachineState). m.program.highest) step.is_new in (
      is.high,
      record { emitted = emitted; wired = wire; impulsed = impulsed; taken = rw program taken },
    )

-- a text that isn't empty is that of a position that calls a level by holes and has lines
record TellsPosition (wiring : Wiring) (deck : List (List ℕ)) (card level : ℕ) (text : List ℕ) : Type 0 where
  position : ℕ
  called : ℕ
  found : called_by_holes wiring position level ≡ Some called
  lines : has_lines wiring deck card position ≡ true
  is : called_text level card position called (unlike_lines wiring deck card position rows) ≡ text
  lowest : (lower : ℕ) → 1 ≤ lower → lower < position → position_text wiring deck card level lower ≡ []

tells-position : (wiring : Wiring) (deck : List (List ℕ)) (card level position : ℕ)
    → ((lower : ℕ) → 1 ≤ lower → lower < position → position_text wiring deck card level lower ≡ [])
    → (position_text wiring deck card level position ≡ [] → ⊥)
    → TellsPosition wiring deck card level (position_text wiring deck card level position)
unfolding position_text
tells-position wiring deck card level position lowest told =
    by (called_by_holes wiring position level) refl (length (unlike_lines wiring deck card position rows) == 0) refl told
  where
    by : (found : Option ℕ) → called_by_holes wiring position level ≡ found
        → (none : Bool) → (length (unlike_lines wiring deck card position rows) == 0) ≡ none
        → (position_text_by level card position found (unlike_lines wiring deck card position rows) ≡ [] → ⊥)
        → TellsPosition wiring deck card level (position_text_by level card position found (unlike_lines wiring deck card position rows))
    by None is none empty text = absurd (text refl)
    by (Some called) is true empty text =
        let lines : List ℕ = unlike_lines wiring deck card position rows in
        absurd (text (ap (λ (b : Bool). if b then [] else runs_text level card ++ calling_text position called ++ lines) empty))
    by (Some called) is false empty text =
        record { position = position; called = called; found = is; lines = ap not empty; is = refl; lowest = lowest }

some-none : (byte : ℕ) (bytes : List ℕ) → byte ∷ bytes ≡ [] → ⊥
some-none byte bytes same = cc

or-some : (byte : ℕ) (bytes other : List ℕ) → or_text (byte ∷ bytes) other ≡ byte ∷ bytes
or-some byte bytes other = ap (λ (b : Bool). if b then other else byte ∷ bytes) (cons-some (length bytes))

-- no position has a text if all together have none
none-among : (wiring : Wiring) (deck : List (List ℕ)) (card level positions lower : ℕ)
    → positions_text wiring deck card level positions ≡ [] → 1 ≤ lower → lower ≤ positions → position_text wiring deck card level lower ≡ []
unfolding positions_text
none-among wiring deck card level zero lower none from to = absurd (omega (arith, from, to))
none-among wiring deck card level (suc positions) lower none from to =
    by (λ are within. none-among wiring deck card level positions lower are from within) (positions_text wiring deck card level positions) refl none
  where
    by : (positions_text wiring deck card level positions ≡ [] → lower ≤ positions → position_text wiring deck card level lower ≡ [])
        → (others : List ℕ) → positions_text wiring deck card level positions ≡ others
        → or_text others (position_text wiring deck card level (suc positions)) ≡ [] → position_text wiring deck card level lower ≡ []
    by before [] is text = split (cases_lt positions lower)
      where
        split : (positions < lower) ⊎ (lower ≤ positions) → position_text wiring deck card level lower ≡ []
        split (inl above) = let top : lower ≡ suc positions = omega (arith, above, to) in
            ap (λ (n : ℕ). position_text wiring deck card level n) top ∙ text
        split (inr within) = before is within
    by before (byte ∷ bytes) is text =
        absurd (some-none byte bytes (sym (or-some byte bytes (position_text wiring deck card level (suc positions))) ∙ text))

tells-positions : (wiring : Wiring) (deck : List (List ℕ)) (card level positions : ℕ)
    → (positions_text wiring deck card level positions ≡ [] → ⊥)
    → TellsPosition wiring deck card level (positions_text wiring deck card level positions)
unfolding positions_text
tells-positions wiring deck card level zero told = absurd (told refl)
tells-positions wiring deck card level (suc positions) told =
    by (tells-positions wiring deck card level positions) (positions_text wiring deck card level positions) refl told
  where
    by : ((positions_text wiring deck card level positions ≡ [] → ⊥)
        → TellsPosition wiring deck card level (positions_text wiring deck card level positions))
        → (lower : List ℕ) → positions_text wiring deck card level positions ≡ lower
        → (or_text lower (position_text wiring deck card level (suc positions)) ≡ [] → ⊥)
        → TellsPosition wiring deck card level (or_text lower (position_text wiring deck card level (suc positions)))
    by others [] is text =
        tells-position wiring deck card level (suc positions)
        (λ lower from less. none-among wiring deck card level positions lower is from (omega (arith, less))) text
    by others (byte ∷ bytes) is text =
        subst (TellsPosition wiring deck card level) (is ∙ sym (or-some byte bytes (position_text wiring deck card level (suc positions))))
        (others (λ none. some-none byte bytes (sym is ∙ none)))

-- a position that calls a level, and has lines, has a text
called-some : (wiring : Wiring) (position from levels level : ℕ) → 1 ≤ level → level ≤ levels → calls wiring position from level ≡ true
    → called_to wiring position from levels ≡ None → ⊥
called-some wiring position from zero level low high is none = omega (arith, low, high)
called-some wiring position from (suc levels) level low high is none =
    by (λ within found. called-some wiring position from levels level low within is found) (called_to wiring position from levels) refl
    (calls wiring position from (suc levels)) refl none
  where
    by : (level ≤ levels → called_to wiring position from levels ≡ None → ⊥)
        → (lower : Option ℕ) → called_to wiring position from levels ≡ lower → (here : Bool) → calls wiring position from (suc levels) ≡ here
        → first_of lower (if here then Some (suc levels) else None) ≡ None → ⊥
    by before (Some other) found here leads same = none-some other (sym same)
    by before None found true leads same = none-some (suc levels) (sym same)
    by before None found false leads same = split (cases_lt levels level)
      where
        split : (levels < level) ⊎ (level ≤ levels) → ⊥
        split (inl above) = let top : suc levels ≡ level = omega (arith, above, high) in
            false≢true (sym leads ∙ ap (λ (n : ℕ). calls wiring position from n) top ∙ is)
        split (inr within) = before within found

both-true : (one other : Bool) → one ≡ true → other ≡ true → (one && other) ≡ true
both-true true true is also = refl
both-true true false is also = absurd (false≢true also)
both-true false other is also = absurd (false≢true is)

not-over : (one other : ℕ) → one ≤ other → nat_le one other ≡ true
not-over one other within = grind (arith, nat_tests, within)

position-told : (wiring : Wiring) (deck : List (List ℕ)) (card level position called : ℕ) → IsOfBrushes wiring position
    → has_lines wiring deck card position ≡ true → level ≤ called → 1 ≤ called → called ≤ 3
    → is_wired wiring (CX position) (ST called) ≡ true → position_text wiring deck card level position ≡ [] → ⊥
unfolding position_text
position-told wiring deck card level position called brushes has high from to wired none =
    by (called_to wiring position level 3) refl
    (ap (λ (found : Option ℕ). position_text_by level card position found lines) (sym by_holes) ∙ none)
  where
    lines : List ℕ
    lines = unlike_lines wiring deck card position rows

    by_holes : called_by_holes wiring position level ≡ called_to wiring position level 3
    by_holes = (λ i. if brushes.first i && brushes.second i then called_to wiring position level 3 else None)

    some : (length lines == 0) ≡ false
    some = split (length lines == 0) has
      where
        split : (none : Bool) → not none ≡ true → none ≡ false
        split true is = absurd (false≢true is)
        split false is = refl

    calling : calls wiring position level called ≡ true
    calling = both-true (nat_le level called) (is_wired wiring (CX position) (ST called)) (not-over level called high) wired

    by : (found : Option ℕ) → called_to wiring position level 3 ≡ found → position_text_by level card position found lines ≡ [] → ⊥
    by None is text = called-some wiring position level 3 called from to calling is
    by (Some other) is text =
        let whole : runs_text level card ++ calling_text position other ++ lines ≡ [] =
        ap (λ (b : Bool). if b then [] else runs_text level card ++ calling_text position other ++ lines) (sym some) ∙ text in
        false≢true (sym (cons-some _) ∙ ap (λ (l : List ℕ). length l == 0) whole)

-- so no lower position calls the level
within-from : (position : ℕ) → is_within position 30 ≡ true → 1 ≤ position
within-from position within = grind (arith, nat_tests, within)

none-below-calls : (wiring : Wiring) (deck : List (List ℕ)) (card position level : ℕ) (now behind : MachineState)
    → LeadsToEntries wiring → IsReading wiring deck card 13 now
    → ((lower : ℕ) → 1 ≤ lower → lower < position → position_text wiring deck card level lower ≡ [])
    → NoneBelowCalls wiring position level now behind
none-below-calls wiring deck card position level now behind leads reading lowest lower called less high brushes calls =
    let wire = calls.wired in
    let within = position-within lower wire.number wire.numbered in
    let lines : has_lines wiring deck card lower ≡ true =
    sym (lines-tell wiring deck card lower now leads reading within brushes.first brushes.second) ∙ calls.emitted in
    let range = level-within called wire.to wire.entry_numbered in
    position-told wiring deck card level lower called brushes lines high range.0 range.1
    ((HasWire-is_wired wiring (CX lower) (ST called)).1 wire) (lowest lower (within-from lower within) less)

-- a position of which no line is told calls no level
pub others-call-none : OthersCallNoLevel
others-call-none wiring deck card position called now behind leads reading brushes none calls =
    let wire = calls.wired in
    let within = position-within position wire.number wire.numbered in
    false≢true
    (sym none ∙ sym (lines-tell wiring deck card position now leads reading within brushes.first brushes.second) ∙ calls.emitted)

-- a level up to the highest that is taken runs with the card, and each level with the last card
level-most : (level : ProgramLevel) → level_number level ≤ 4
level-most Minor = omega arith
level-most Intermediate = omega arith
level-most Major = omega arith
level-most Final = omega arith

level-runs : (level : ProgramLevel) (top : Option ProgramLevel) → level_number level ≤ levels_to top → Contains (take (levels_to top) levels) level
level-runs level None most = absurd (no-level level most)
  where
    no-level : (level : ProgramLevel) → level_number level ≤ 0 → ⊥
    no-level Minor most = omega (arith, most)
    no-level Intermediate most = omega (arith, most)
    no-level Major most = omega (arith, most)
    no-level Final most = omega (arith, most)
level-runs Minor (Some Minor) most = (0, omega arith, refl)
level-runs Minor (Some Intermediate) most = (0, omega arith, refl)
level-runs Minor (Some Major) most = (0, omega arith, refl)
level-runs Minor (Some Final) most = (0, omega arith, refl)
level-runs Intermediate (Some Minor) most = absurd (omega (arith, most))
level-runs Intermediate (Some Intermediate) most = (1, omega arith, refl)
level-runs Intermediate (Some Major) most = (1, omega arith, refl)
level-runs Intermediate (Some Final) most = (1, omega arith, refl)
level-runs Major (Some Minor) most = absurd (omega (arith, most))
level-runs Major (Some Intermediate) most = absurd (omega (arith, most))
level-runs Major (Some Major) most = (2, omega arith, refl)
level-runs Major (Some Final) most = (2, omega arith, refl)
level-runs Final (Some Minor) most = absurd (omega (arith, most))
level-runs Final (Some Intermediate) most = absurd (omega (arith, most))
level-runs Final (Some Major) most = absurd (omega (arith, most))
level-runs Final (Some Final) most = (3, omega arith, refl)

module _ (wiring : Wiring) (deck : List (List ℕ)) (card : ℕ) (level : ProgramLevel) (now behind : MachineState) (leads : LeadsToEntries wiring)
    (reading : IsReading wiring deck card 13 now) (step : PointStep wiring Card K now behind) where
  Holds : List ℕ → Type 0
  Holds text =
      IsReason wiring deck card (level_number level) now behind text × Contains (levels_with step.picture (has_more behind)) level

  first : behind.stations.first ≡ slice_get deck card
  first =
      let own = reads deck wiring card 13 now reading in
      ap (λ (m : MachineState). m.stations.first) step.is_new ∙ own.stand.first ∙ ap (slice_get deck) (sym own.is)

  -- with the last card all levels run
  at-last : (card == length deck) ≡ true → Holds (last_text (level_number level) card)
  unfolding Holds
  at-last is =
      let past : slice_get deck card ≡ None = slice_get_past deck card (omega (arith, eqb-true card (length deck) is)) in
      let none : has_more behind ≡ false = ap is_some (first ∙ past) in (
        last none,
        subst (λ (more : Bool). Contains (levels_with step.picture more) level) (sym none) (level-runs level (Some Final) (level-most level)),
      )

  -- a level up to the highest that is called for runs
  runs : (more : Bool) → level_number level ≤ levels_to (called_for step.picture) → Contains (levels_with step.picture more) level
  runs true most = level-runs level (called_for step.picture) most
  runs false most = level-runs level (Some Final) (level-most level)

  by-position : (text : List ℕ) → TellsPosition wiring deck card (level_number level) text → Holds text
  unfolding Holds
  by-position text tells =
      let call =
      positions-call wiring deck card tells.position (level_number level) tells.called now behind leads reading step tells.found tells.lines in
      let highest : behind.program.highest ≡ called_for step.picture = ap (λ (m : MachineState). m.program.highest) step.is_new in
      let taken : tells.called ≤ levels_to (called_for step.picture) =
      subst (λ (top : Option ProgramLevel). tells.called ≤ levels_to top) highest call.1.taken in (
        subst (IsReason wiring deck card (level_number level) now behind) tells.is
            (called_from tells.position tells.called (of-brushes wiring tells.position (level_number level) tells.called tells.found) call.0 call.1 tells.lines
            (none-below-calls wiring deck card tells.position (level_number level) now behind leads reading tells.lowest)),
        runs (has_more behind) (omega (arith, call.0, taken)),
      )

  holds : (level_text wiring deck card (level_number level) ≡ [] → ⊥) → Holds (level_text wiring deck card (level_number level))
  holds told = by (card == length deck) refl told
    where
      by : (is_last : Bool) → (card == length deck) ≡ is_last
          → ((if is_last then last_text (level_number level) card else positions_text wiring deck card (level_number level) 30) ≡ [] → ⊥)
          → Holds (if is_last then last_text (level_number level) card else positions_text wiring deck card (level_number level) 30)
      by true is text = at-last is
      by false is text =
          by-position (positions_text wiring deck card (level_number level) 30)
          (tells-positions wiring deck card (level_number level) 30 text)

why : (wiring : Wiring) (deck : List (List ℕ)) (card : ℕ) (level : ProgramLevel) → LeadsToEntries wiring → WasRead wiring deck card
    → (level_text wiring deck card (level_number level) ≡ [] → ⊥)
    → IsWhy wiring deck card level (level_text wiring deck card (level_number level))
unfolding Holds
why wiring deck card level leads read told =
    let both = holds wiring deck card level read.now read.behind leads read.reading read.closing told in
    record {
      now = read.now;
      reading = read.reading;
      behind = read.behind;
      closing = read.closing;
      reason = both.0;
      runs = both.1;
    }

pub reasons-hold : ReasonsHold
reasons-hold wiring deck passed has level ordinal leads is =
    subst
    (λ (cycle : Cycle). (called_by wiring deck (card_in cycle has.along.card) cycle ≡ [] → ⊥)
    → IsWhy wiring deck (card_in cycle has.along.card) level (called_by wiring deck (card_in cycle has.along.card) cycle))
    (sym is)
    (why wiring deck has.along.card level leads (card-read wiring deck level ordinal has.comes (has.goes.due ∙ ap Some is)))
