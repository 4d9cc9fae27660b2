-- What the last cycle left that changed it.
use Rattle.std.proofs.Common.{◌≡◌, ◌∙◌, sym, ap, subst, refl, ℕ, zero, suc, ◌≤◌, ◌<◌, nat_le, List, [], ◌∷◌, Option, Some, None, Bool, true, false, ◌&&◌, not, length, map, get_or, arith, if◌then◌else◌}
use Rattle.std.proofs.lemmas.Bool.{false≢true}
use Rattle.std.proofs.lemmas.Bool.Decides.{nat_tests}
use Rattle.std.proofs.lemmas.List.{get_or-map}
use Rattle.std.specs.Prelude.{slice_index}
use Rattle.card_code.specs.Rows.{passing_place, rows}
use Rattle.card_code.specs.declared.row.Row.{Row}
use Rattle.counters.specs.Counters.{Counter, counter_ended, digits_ended, top_is_nine}
use Rattle.card_code.specs.declared.row.Row.TheVariants.{Zero, One, Two, Three, Four, Five, Six, Seven, Eight, Nine, Eleven, Twelve}
use Rattle.hubs.specs.HubTable.Ranges.{is_within}
use Rattle.hubs.specs.declared.hub.Hub.{Hub}
use Rattle.hubs.specs.SetupsWords.Wiring.{Wiring}
use Rattle.net.specs.declared.cycle.Cycle.{Cycle}
use Rattle.net.specs.declared.cycle.Cycle.TheVariants.{RunIn, Card, Prog, Head}
use Rattle.net.specs.declared.cycle.Point.{Point}
use Rattle.net.specs.declared.cycle.Point.TheVariants as point
use Rattle.machine.specs.Cycles.{Reached, point_at}
use Rattle.machine.specs.Machine.{MachineState, ended}
use Rattle.machine.specs.Runs.{cards_moved, run_at_start}
use Rattle.selectors.specs.Pilots.{PilotStates, moves_pilots, no_pilots, pilots_ended}
use Rattle.storage_units.specs.Storage.{StorageState, blank, holds, storage_at_start, storage_ended, storage_sensed}
use Rattle.storage_units.specs.Words.{has_column}
use Rattle.explain_ledgers.specs.LedgersWords.Entries.{same}
use Rattle.explain_ledgers.specs.LedgersWords.Ledgers.{Along, ComesTo, Goes, group_at, ready}
use Rattle.explain_ledgers.proofs.LedgersWords.Places.{goes-one, places-one}
use Rattle.explain_ledgers.proofs.LedgersWords.Whole.{holds as groups-hold, in-cycle, start-group}
use Rattle.explain_origins.specs.Changes.{IsLast, LatchesAreTested, LeftBy, PilotsArePickedUp, StorageIsKept, begun, last_with, latch_left, more, moves, passed_cycle, storage_at, text_held, text_left}
use Rattle.explain_origins.specs.Holding.{hold_same, hold_same_at, hold_same_rows, hold_same_to}
use Rattle.explain_origins.specs.declared.changes.PassedCycle.{PassedCycle}
use Rattle.explain_origins.specs.declared.holders.Holder.TheVariants.{Latch, Pilot, Storage}
use Rattle.explain_origins.proofs.Keeping.{last-comes}
use Rattle.explain_origins.proofs.Storing.{four-units, goes-many, ready-storage, start-storage}

module _ {X : Type 0} (wiring : Wiring) (deck : List (List ℕ)) (does : Cycle → MachineState → Bool) (first : X)
    (leaves : Cycle → MachineState → X) (view : MachineState → X)
    (starts : view (run_at_start wiring deck).machine ≡ first)
    (moved :
    (cycle : Cycle) (along : Along) (behind : MachineState) → ComesTo wiring deck along → Goes wiring cycle along behind
    → does cycle behind ≡ true → view (ended behind cycle) ≡ leaves cycle behind)
    (kept :
    (cycle : Cycle) (along : Along) (behind : MachineState) → ComesTo wiring deck along → Goes wiring cycle along behind
    → does cycle behind ≡ false → view (ended behind cycle) ≡ view along.run.machine)
  where
    left-same : (last : Option PassedCycle) (now next : X) → next ≡ now → LeftBy wiring deck first leaves last now
        → LeftBy wiring deck first leaves last next
    left-same None now next is left = is ∙ left
    left-same (Some here) now next is left = λ has. is ∙ left has

    left-more : (cycle : Cycle) (along : Along) (last : Option PassedCycle) (behind : MachineState) (done : Bool) → does cycle behind ≡ done
        → IsLast wiring deck does along last → Goes wiring cycle along behind → LeftBy wiring deck first leaves last (view along.run.machine)
        → LeftBy wiring deck first leaves (last_with done (passed_cycle cycle along) last) (view (ended behind cycle))
    left-more cycle along last behind true is_done before goes left = λ has.
        let comes = last-comes wiring deck does before in
        let is : along ≡ has.along = places-one wiring deck comes has.comes (sym has.counted) in
        let one =
        goes-one wiring cycle has.cycle has.along behind has.behind (subst (λ (a : Along). Goes wiring cycle a behind) is goes) has.goes in
        moved cycle along behind comes goes is_done
        ∙ ap (λ (c : Cycle). leaves c behind) one.0
        ∙ ap (λ (m : MachineState). leaves has.cycle m) one.1
    left-more cycle along last behind false is_done before goes left =
        left-same last (view along.run.machine) (view (ended behind cycle))
        (kept cycle along behind (last-comes wiring deck does before) goes is_done) left

    -- what stands was left by the last cycle that changed it
    pub left-by : {along : Along} {last : Option PassedCycle} → IsLast wiring deck does along last
        → LeftBy wiring deck first leaves last (view along.run.machine)
    left-by begun = starts
    left-by (more cycle along last behind before goes) =
        left-more cycle along last behind (does cycle behind) refl before goes (left-by before)

-- both of two tests
first-of-both : (one other : Bool) → (one && other) ≡ true → one ≡ true
first-of-both true other both = refl
first-of-both false other both = both

second-of-both : (one other : Bool) → (one && other) ≡ true → other ≡ true
second-of-both true other both = both
second-of-both false other both = absurd (false≢true both)

same-is : (one other : Bool) → same one other ≡ true → one ≡ other
same-is true true is = refl
same-is true false is = sym is
same-is false true is = is
same-is false false is = refl

not-false : (test : Bool) → not test ≡ false → test ≡ true
not-false true is = refl
not-false false is = sym is

-- what they hold the same of, column by column
same-to : (one other : StorageState) (row : Row) (columns column : ℕ) → hold_same_to one other row columns ≡ true → 1 ≤ column
    → column ≤ columns → holds one row column ≡ holds other row column
unfolding hold_same_to
same-to one other row zero column all least most = absurd (omega (arith, least, most))
same-to one other row (suc columns) column all least most =
    by (same-to one other row columns column
    (first-of-both (hold_same_to one other row columns) (hold_same_at one other row (suc columns)) all) least)
    (nat_le column columns) refl
  where
    by : (column ≤ columns → holds one row column ≡ holds other row column) → (b : Bool) → nat_le column columns ≡ b
        → holds one row column ≡ holds other row column
    by lower true low = lower (grind (arith, nat_tests, low))
    by lower false high =
        let here : column ≡ suc columns = grind (arith, nat_tests, high, most) in
        ap (holds one row) here
        ∙ same-is (holds one row (suc columns)) (holds other row (suc columns))
        (second-of-both (hold_same_to one other row columns) (hold_same_at one other row (suc columns)) all)
        ∙ sym (ap (holds other row) here)

-- and of all of them
same-row : (one other : StorageState) (row : Row) (column : ℕ) → hold_same_to one other row 16 ≡ true
    → holds one row column ≡ holds other row column
same-row one other row column all = by (is_within column 16) refl
  where
    by : (b : Bool) → is_within column 16 ≡ b → holds one row column ≡ holds other row column
    by true is = same-to one other row 16 column all (grind (arith, nat_tests, is)) (grind (arith, nat_tests, is))
    by false is = grind (arith, nat_tests, is)

rows-same : (one other : StorageState) (some : List Row) (place : ℕ) → place < length some → hold_same_rows one other some ≡ true
    → hold_same_to one other (get_or some place Nine) 16 ≡ true
rows-same one other [] place low all = absurd (omega (arith, low))
rows-same one other (row ∷ others) zero low all =
    first-of-both (hold_same_to one other row 16) (hold_same_rows one other others) all
rows-same one other (row ∷ others) (suc place) low all =
    rows-same one other others place (omega (arith, low))
    (second-of-both (hold_same_to one other row 16) (hold_same_rows one other others) all)

passing : (row : Row) → (passing_place row < 12) × (get_or rows (passing_place row) Nine ≡ row)
passing Nine = (omega arith, refl)
passing Eight = (omega arith, refl)
passing Seven = (omega arith, refl)
passing Six = (omega arith, refl)
passing Five = (omega arith, refl)
passing Four = (omega arith, refl)
passing Three = (omega arith, refl)
passing Two = (omega arith, refl)
passing One = (omega arith, refl)
passing Zero = (omega arith, refl)
passing Eleven = (omega arith, refl)
passing Twelve = (omega arith, refl)

-- two units that hold the same text
same-text : (one other : StorageState) → hold_same one other ≡ true → holds one ≡ holds other
unfolding hold_same
same-text one other all = λ i row column. each row column i
  where
    each : (row : Row) (column : ℕ) → holds one row column ≡ holds other row column
    each row column =
        same-row one other row column
        (subst (λ (r : Row). hold_same_to one other r 16 ≡ true) (passing row).1
        (rows-same one other rows (passing_place row) (passing row).0 all))

-- storage units hold what they held through the points
held-kept : (cycle : Cycle) (at : Point) (picture : Hub → Bool) (storage : List StorageState)
    → map (λ (s : StorageState). s.held) (map (λ (s : StorageState). storage_sensed s cycle at picture) storage)
    ≡ map (λ (s : StorageState). s.held) storage
held-kept cycle at picture [] = refl
held-kept cycle point.C picture (s ∷ storage) = ap (λ (l : List (List ℕ)). s.held ∷ l) (held-kept cycle point.C picture storage)
held-kept cycle (point.Row row) picture (s ∷ storage) =
    ap (λ (l : List (List ℕ)). s.held ∷ l) (held-kept cycle (point.Row row) picture storage)
held-kept cycle point.K picture (s ∷ storage) = ap (λ (l : List (List ℕ)). s.held ∷ l) (held-kept cycle point.K picture storage)

-- what all storage units hold
abbrev all_held : List StorageState → List (List ℕ)
all_held units = map (λ (s : StorageState). s.held) units

points-held : (wiring : Wiring) (cycle : Cycle) (points : ℕ) (old now : MachineState) → Reached wiring cycle points old now
    → all_held now.storage ≡ all_held old.storage
unfolding Reached
points-held wiring cycle zero old now is = ap (λ (m : MachineState). all_held m.storage) is
points-held wiring cycle (suc points) old now (mid, before, step) =
    ap (λ (m : MachineState). all_held m.storage) step.is_new ∙ held-kept cycle (point_at points) step.picture mid.storage
    ∙ points-held wiring cycle points old mid before

held-at : (units : List StorageState) (place : ℕ) → place < length units → get_or (all_held units) place blank ≡ (storage_at units place).held
held-at units place low = get_or-map (λ (s : StorageState). s.held) units place (storage_at_start 35) blank low

-- a unit is read by what it holds
abbrev text_by : List ℕ → Row → ℕ → Bool
text_by held row column = has_column (slice_index held (passing_place row)) column

module _ (wiring : Wiring) (deck : List (List ℕ)) (place : ℕ) (low : place < 4) where
  -- at the end of a cycle
  ended-text : (cycle : Cycle) (along : Along) (behind : MachineState) → ComesTo wiring deck along → Goes wiring cycle along behind
      → text_held place (ended behind cycle) ≡ text_left place cycle behind
  ended-text cycle along behind comes goes =
      ap holds
      (get_or-map (λ (s : StorageState). storage_ended s cycle) behind.storage place (storage_at_start 35) (storage_at_start 35)
      (subst (λ (n : ℕ). place < n) (sym (goes-many wiring cycle along behind (four-units wiring deck comes) goes)) low))

  -- behind the points
  points-text : (cycle : Cycle) (along : Along) (behind : MachineState) → ComesTo wiring deck along → Goes wiring cycle along behind
      → text_held place behind ≡ text_held place along.run.machine
  points-text cycle along behind comes goes =
      let four = four-units wiring deck comes in
      let held : (storage_at behind.storage place).held ≡ (storage_at along.run.machine.storage place).held =
      sym (held-at behind.storage place (subst (λ (n : ℕ). place < n) (sym (goes-many wiring cycle along behind four goes)) low))
      ∙ ap (λ (l : List (List ℕ)). get_or l place blank)
      (points-held wiring cycle 14 (ready cycle along) behind goes.reached ∙ ap all_held (ready-storage cycle along))
      ∙ held-at along.run.machine.storage place (subst (λ (n : ℕ). place < n) (sym four) low) in
      ap text_by held

  start-text : text_held place (run_at_start wiring deck).machine ≡ holds (storage_at_start 35)
  start-text = ap (λ (units : List StorageState). holds (storage_at units place)) (start-storage wiring deck) ∙ by place
    where
      by : (any : ℕ) → holds (storage_at (map storage_at_start (35 ∷ 36 ∷ 37 ∷ 38 ∷ [])) any) ≡ holds (storage_at_start 35)
      by zero = refl
      by (suc zero) = refl
      by (suc (suc zero)) = refl
      by (suc (suc (suc zero))) = refl
      by (suc (suc (suc (suc any)))) = refl

  pub kept-text : {along : Along} {last : Option PassedCycle} → IsLast wiring deck (moves (Storage place)) along last
      → LeftBy wiring deck (holds (storage_at_start 35)) (text_left place) last (text_held place along.run.machine)
  kept-text is =
      left-by wiring deck (moves (Storage place)) (holds (storage_at_start 35)) (text_left place) (text_held place) start-text
      (λ cycle along behind comes goes done. ended-text cycle along behind comes goes)
      (λ cycle along behind comes goes idle.
      ended-text cycle along behind comes goes
      ∙ sym (same-text (storage_at behind.storage place) (storage_ended (storage_at behind.storage place) cycle)
      (not-false (hold_same (storage_at behind.storage place) (storage_ended (storage_at behind.storage place) cycle)) idle))
      ∙ points-text cycle along behind comes goes)
      is

pub storage-kept : StorageIsKept
storage-kept wiring deck place along last low is = kept-text wiring deck place low is

-- pilots stay through the points as they stand
points-pilots : (wiring : Wiring) (cycle : Cycle) (points : ℕ) (old now : MachineState) → Reached wiring cycle points old now
    → now.pilots.transferred ≡ old.pilots.transferred
unfolding Reached
points-pilots wiring cycle zero old now is = ap (λ (m : MachineState). m.pilots.transferred) is
points-pilots wiring cycle (suc points) old now (mid, before, step) =
    ap (λ (m : MachineState). m.pilots.transferred) step.is_new ∙ points-pilots wiring cycle points old mid before

ready-pilots : (cycle : Cycle) (along : Along) → (ready cycle along).pilots ≡ along.run.machine.pilots
ready-pilots RunIn along = refl
ready-pilots Card along = by along.run.hopper
  where
    by : (hopper : List (List ℕ)) → (cards_moved along.run.machine hopper).machine.pilots ≡ along.run.machine.pilots
    by [] = refl
    by (card ∷ cards) = refl
ready-pilots (Prog level ordinal) along = refl
ready-pilots (Head heading) along = refl

start-pilots : (wiring : Wiring) (deck : List (List ℕ)) → (run_at_start wiring deck).machine.pilots.transferred ≡ no_pilots
start-pilots wiring [] = refl
start-pilots wiring (card ∷ cards) = refl

-- at the end of a cycle
moved-pilots : (pilots : PilotStates) (cycle : Cycle) → moves_pilots cycle ≡ true → (pilots_ended pilots cycle).transferred ≡ pilots.picked_up
moved-pilots pilots cycle moved =
    ap (λ (b : Bool). (if b then record { transferred = pilots.picked_up; picked_up = no_pilots } else pilots).transferred) moved

idle-pilots : (pilots : PilotStates) (cycle : Cycle) → moves_pilots cycle ≡ false → (pilots_ended pilots cycle).transferred ≡ pilots.transferred
idle-pilots pilots cycle idle =
    ap (λ (b : Bool). (if b then record { transferred = pilots.picked_up; picked_up = no_pilots } else pilots).transferred) idle

pub pilots-picked-up : PilotsArePickedUp
pilots-picked-up wiring deck pilot along last is =
    left-by wiring deck (moves (Pilot pilot)) no_pilots (λ cycle behind. behind.pilots.picked_up) (λ machine. machine.pilots.transferred)
    (start-pilots wiring deck)
    (λ cycle along behind comes goes done. moved-pilots behind.pilots cycle done)
    (λ cycle along behind comes goes idle.
    idle-pilots behind.pilots cycle idle ∙ points-pilots wiring cycle 14 (ready cycle along) behind goes.reached
    ∙ ap (λ (p : PilotStates). p.transferred) (ready-pilots cycle along))
    is

-- a latch at the end of a cycle
latch-by : (group : Counter) (cycle : Cycle) (test : Bool) → group.controls.test ≡ test
    → (counter_ended group cycle).latch ≡ (if test then top_is_nine (digits_ended group) else group.latch)
latch-by group cycle test is = ap (λ (b : Bool). if b then top_is_nine (digits_ended group) else group.latch) is

start-latch : (wiring : Wiring) (deck : List (List ℕ)) (place : ℕ) → place < 32
    → (group_at (run_at_start wiring deck).machine place).latch ≡ false
start-latch wiring deck place low = ap (λ (g : Counter). g.latch) (start-group wiring deck place low)

pub latches-tested : LatchesAreTested
latches-tested wiring deck place along last low is =
    left-by wiring deck (moves (Latch place)) false (latch_left place) (λ machine. (group_at machine place).latch)
    (start-latch wiring deck place low)
    (λ cycle along behind comes goes done.
    let here = in-cycle wiring cycle place along behind low (groups-hold wiring deck place low comes) goes in
    ap (λ (g : Counter). g.latch) here.same ∙ latch-by (group_at behind place) cycle true done)
    (λ cycle along behind comes goes idle.
    let here = in-cycle wiring cycle place along behind low (groups-hold wiring deck place low comes) goes in
    ap (λ (g : Counter). g.latch) here.same ∙ latch-by (group_at behind place) cycle false idle ∙ here.latch)
    is
