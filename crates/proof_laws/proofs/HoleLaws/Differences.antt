-- A comparing position whose entries are wired from brushes alone emits exactly if a line is told of it.
use Rattle.std.proofs.Common.{◌≡◌, ◌∙◌, sym, ap, subst, refl, ℕ, suc, ◌+◌, ◌==◌, ◌&&◌, ◌||◌, ◌↔◌, arith, not, Bool, true, false, List, [], ◌∷◌, ◌++◌, Option, Some, None, is_some, length, map}
use Rattle.std.proofs.lemmas.Bool.{and_right}
use Rattle.std.proofs.lemmas.Bool.Decides.{nat_tests}
use Rattle.std.specs.List.{flat_map, list_any}
use Rattle.card_code.specs.Rows.{rows}
use Rattle.card_code.specs.declared.row.Row.{Row as CardRow}
use Rattle.hubs.specs.Hubs.{is_within}
use Rattle.hubs.specs.declared.hub.Hub.{Hub}
use Rattle.hubs.specs.declared.hub.Hub.TheVariants.{CA, CB, CO, CX}
use Rattle.explain_ledgers.specs.LedgersWords.Ledgers.{Along, ComesTo, at_start, on, ready}
use Rattle.explain_ledgers.specs.LedgersWords.Running.{HasCycle}
use Rattle.machine.proofs.OneOutcome.{Reached-one}
use Rattle.counters.specs.Counters.{Counter, counter_emits, wheels_in}
use Rattle.counters.specs.Wheels.{carries_out}
use Rattle.machine.specs.Below.storage_units.Storage.{StorageState, storage_emits}
use Rattle.machine.specs.Cycles.{Reached}
use Rattle.machine.specs.Machine.{MachineState, closes, emits}
use Rattle.machine.specs.Runs.{cards_moved}
use Rattle.net.specs.Cycles.{points}
use Rattle.net.specs.Impulsed.{IsImpulsed}
use Rattle.net.specs.declared.cycle.Cycle.TheVariants.{Card}
use Rattle.net.specs.declared.cycle.Point.{Point}
use Rattle.net.specs.declared.cycle.Point.TheVariants.{C, Row, K}
use Rattle.explain_origins.proofs.Standing.{cards-numbered, points-stations}
use Rattle.explain_origins.specs.Cards.{CardsStand}
use Rattle.explain_origins.specs.Holes.{hole_to}
use Rattle.explain_origins.specs.Levels.{is_of_brushes, unlike_at, unlike_line}
use Rattle.explain_origins.specs.declared.holes.Hole.{Hole}
use Rattle.hubs.specs.SetupsWords.Wiring.{LeadsToEntries, Wiring}
use Rattle.stations.proofs.Differences.{tells_differences}
use Rattle.stations.specs.Comparing.{Compared, are_unlike, comparing_at_start, comparing_emits}
use Rattle.stations.specs.Stations.{StationCards}
use Rattle.proof_cycles.proofs.WholeCycles.Alone.{differing}
use Rattle.proof_cycles.proofs.WholeCycles.Parts.{compared_after, machine_after, parts}
use Rattle.proof_cycles.proofs.WholeCycles.Sources.{none-any}
use Rattle.proof_cycles.proofs.WholeCycles.Walks.{IsWalked, rows_before, walked}
use Rattle.proof_cycles.proofs.WholeCycles.Wholes.{HasPicture, senses, walk_of}
use Rattle.proof_laws.specs.HoleLaws.Reasons.{HolesTellCompared, IsEntryOf, IsReading, LinesTellDifferences, has_lines}
use Rattle.proof_laws.specs.HoleLaws.Reasons.IsEntryOf.{first_entry, second_entry}
use Rattle.proof_laws.proofs.HoleLaws.Brushes.{hole-impulses, hole-told}

-- the cards that stand there while a card is read
moved-cards : (deck : List (List ℕ)) (wiring : Wiring) (card points : ℕ) (now : MachineState) (is : IsReading wiring deck card points now)
    → CardsStand deck (is.along.card + 1) now
moved-cards deck wiring card points now is =
    let has : HasCycle wiring deck is.along.passed =
    record { along = is.along; comes = is.comes; counted = refl; cycle = Card; behind = is.behind; goes = is.goes } in
    let stand : CardsStand deck (is.along.card + 1) is.behind = cards-numbered wiring deck is.along.passed has in
    let stations : now.stations ≡ is.behind.stations =
    points-stations wiring Card points (ready Card is.along) now is.reached
    ∙ sym (points-stations wiring Card 14 (ready Card is.along) is.behind is.goes.reached) in
    record {
      second = ap (λ (s : StationCards). s.second) stations ∙ stand.second;
      first = ap (λ (s : StationCards). s.first) stations ∙ stand.first;
    }

-- the card that is read is not the card before the first
pub record Reads (deck : List (List ℕ)) (card : ℕ) (now : MachineState) : Type 0 where
  pub before : ℕ
  pub is : card ≡ suc before
  pub stand : CardsStand deck (suc before) now

pub reads : (deck : List (List ℕ)) (wiring : Wiring) (card points : ℕ) (now : MachineState) → IsReading wiring deck card points now
    → Reads deck card now
reads deck wiring card points now is =
    let next : is.along.card + 1 ≡ suc is.along.card = omega arith in
    record {
      before = is.along.card;
      is = is.numbered ∙ next;
      stand = subst (λ (n : ℕ). CardsStand deck n now) next (moved-cards deck wiring card points now is);
    }

-- at a row, by the cards that stand there
row-told : (wiring : Wiring) (deck : List (List ℕ)) (card position : ℕ) (now : MachineState) (entry : Hub) (row : CardRow)
    → LeadsToEntries wiring → Reads deck card now → IsEntryOf position entry → is_of_brushes wiring entry ≡ true
    → (is_some (hole_to wiring deck card row entry) ≡ true)
    ↔ IsImpulsed wiring (emits now Card (Row row)) (closes now Card (Row row)) entry
row-told wiring deck card position now entry row leads reading is brushes =
    subst
    (λ (n : ℕ). (is_some (hole_to wiring deck n row entry) ≡ true)
    ↔ IsImpulsed wiring (emits now Card (Row row)) (closes now Card (Row row)) entry)
    (sym reading.is) (
      hole-impulses wiring deck reading.before row now reading.stand leads entry,
      hole-told wiring deck reading.before row now reading.stand leads position entry is brushes,
    )

pub holes-tell : HolesTellCompared
holes-tell wiring deck card points position now entry row leads is entry_is brushes =
    row-told wiring deck card position now entry row leads (reads deck wiring card points now is) entry_is brushes

-- comparing has nothing before a cycle
fresh : (wiring : Wiring) (deck : List (List ℕ)) {along : Along} → ComesTo wiring deck along
    → along.run.machine.comparing ≡ comparing_at_start
fresh wiring [] at_start = refl
fresh wiring (card ∷ deck) at_start = refl
fresh wiring deck (on cycle along behind comes goes) = refl

moved-fresh : (machine : MachineState) (hopper : List (List ℕ)) → (cards_moved machine hopper).machine.comparing ≡ machine.comparing
moved-fresh machine [] = refl
moved-fresh machine (card ∷ hopper) = refl

-- comparing senses nothing at the closing point
closing-keeps : (wiring : Wiring) (old now behind : MachineState) → Reached wiring Card 13 old now → Reached wiring Card 14 old behind
    → now.comparing ≡ behind.comparing
unfolding Reached
closing-keeps wiring old now behind before (mid, reached, step) =
    ap (λ (m : MachineState). m.comparing) (Reached-one wiring Card 13 old now mid before reached)
    ∙ sym (ap (λ (m : MachineState). m.comparing) step.is_new)

-- what comparing has collected by the closing point
collected : (wiring : Wiring) (old now behind : MachineState) (is : IsWalked (senses Card) (HasPicture wiring Card) old behind)
    → Reached wiring Card 13 old now → Reached wiring Card 14 old behind → old.comparing ≡ comparing_at_start
    → now.comparing ≡ compared_after Card is.pictures points comparing_at_start
collected wiring old now behind is before reached start =
    closing-keeps wiring old now behind before reached
    ∙ ap (λ (m : MachineState). m.comparing) is.reached
    ∙ (parts Card is.pictures points old).comparing
    ∙ ap (compared_after Card is.pictures points) start

-- comparing alone emits at the exits of its positions
comparing-alone : (comparing groups storage : Bool) → groups ≡ false → storage ≡ false
    → (false || comparing || groups || storage || false || false || false || false || false || false || false) ≡ comparing
comparing-alone true groups storage a b = refl
comparing-alone false groups storage a b = rw (a, b) refl

at-closing : (now : MachineState) (position : ℕ) → emits now Card K (CX position) ≡ comparing_emits now.comparing Card K (CX position)
at-closing now position =
    comparing-alone (comparing_emits now.comparing Card K (CX position))
    (list_any (λ group. counter_emits group Card K (CX position)) now.groups)
    (list_any (λ storage. storage_emits storage Card K (CX position)) now.storage)
    (none-any (λ (group : Counter). counter_emits group Card K (CX position)) now.groups
    (λ group. and_right (carries_out (wheels_in group) false) _ (differing (CO group.name) (CX position) (λ is. cc))))
    (none-any (λ (storage : StorageState). storage_emits storage Card K (CX position)) now.storage (λ storage. refl))

-- tests that hold together are the same
same-tests : (a b : Bool) → (a ≡ true → b ≡ true) → (b ≡ true → a ≡ true) → a ≡ b
same-tests true b to from = sym (to refl)
same-tests false true to from = from refl
same-tests false false to from = refl

-- lines are told exactly if a line of a row is
pub cons-some : (n : ℕ) → (suc n == 0) ≡ false
cons-some n = grind (arith, nat_tests)

some-either : (one other : List ℕ) → not (length (one ++ other) == 0) ≡ (not (length one == 0) || not (length other == 0))
some-either [] other = refl
some-either (x ∷ one) other = rw (cons-some (length (one ++ other)), cons-some (length one)) refl

some-lines : {X : Type 0} (lines : X → List ℕ) (xs : List X)
    → not (length (flat_map lines xs) == 0) ≡ list_any (λ x. not (length (lines x) == 0)) xs
some-lines lines [] = refl
some-lines lines (x ∷ xs) =
    some-either (lines x) (flat_map lines xs) ∙ ap (λ (b : Bool). not (length (lines x) == 0) || b) (some-lines lines xs)

line-some : (here there : Option Hole) (card position : ℕ) (row : CardRow)
    → not (length (unlike_line here there card position row) == 0) ≡ are_unlike (is_some here) (is_some there)
line-some None None card position row = refl
line-some (Some one) None card position row = ap not (cons-some _)
line-some None (Some other) card position row = ap not (cons-some _)
line-some (Some one) (Some other) card position row = refl

lines-unlike : (wiring : Wiring) (deck : List (List ℕ)) (card position : ℕ)
    → has_lines wiring deck card position
    ≡ list_any (λ row. are_unlike (is_some (hole_to wiring deck card row (CA position))) (is_some (hole_to wiring deck card row (CB position)))) rows
lines-unlike wiring deck card position =
    some-lines (unlike_at wiring deck card position) rows
    ∙ (λ i. list_any
    (λ row. line-some (hole_to wiring deck card row (CA position)) (hole_to wiring deck card row (CB position)) card position row i) rows)

module _ (wiring : Wiring) (deck : List (List ℕ)) (card position : ℕ) (now : MachineState) (leads : LeadsToEntries wiring)
    (reading : IsReading wiring deck card 13 now) where
  old : MachineState
  old = ready Card reading.along

  is-walked : IsWalked (senses Card) (HasPicture wiring Card) old reading.behind
  unfolding old
  is-walked = walked (senses Card) (HasPicture wiring Card) old reading.behind (walk_of wiring Card 14 old reading.behind reading.goes.reached)

  -- the pictures of the rows have an entry exactly if a hole is told for it
  picture-told : (entry : Hub) (row : CardRow) → IsEntryOf position entry → is_of_brushes wiring entry ≡ true
      → is-walked.pictures (Row row) entry ≡ is_some (hole_to wiring deck card row entry)
  unfolding old is-walked
  picture-told entry row is brushes =
      let here : MachineState = machine_after Card is-walked.pictures (C ∷ map Row (rows_before row)) old in
      let stations : here.stations ≡ now.stations =
      (parts Card is-walked.pictures (C ∷ map Row (rows_before row)) old).stations
      ∙ sym (points-stations wiring Card 13 old now reading.reached) in
      let own = reads deck wiring card 13 now reading in
      let stand : Reads deck card here = record {
        before = own.before;
        is = own.is;
        stand = record {
          second = ap (λ (s : StationCards). s.second) stations ∙ own.stand.second;
          first = ap (λ (s : StationCards). s.first) stations ∙ own.stand.first;
        };
      } in
      let by = row-told wiring deck card position here entry row leads stand is brushes in
      let picture = is-walked.at_rows row entry in
      same-tests (is-walked.pictures (Row row) entry) (is_some (hole_to wiring deck card row entry)) (λ on. by.1 (picture.0 on))
      (λ told. picture.1 (by.0 told))

  differences-told : is_within position 30 ≡ true → is_of_brushes wiring (CA position) ≡ true → is_of_brushes wiring (CB position) ≡ true
      → emits now Card K (CX position) ≡ has_lines wiring deck card position
  unfolding old
  differences-told within brushes also =
      let start : old.comparing ≡ comparing_at_start =
      moved-fresh reading.along.run.machine reading.along.run.hopper ∙ fresh wiring deck reading.comes in
      let pictures : Point → Hub → Bool = is-walked.pictures in
      let first = λ (row : CardRow). picture-told (CA position) row first_entry brushes in
      let second = λ (row : CardRow). picture-told (CB position) row second_entry also in
      at-closing now position
      ∙ ap (λ (c : Compared). comparing_emits c Card K (CX position))
      (collected wiring old now reading.behind is-walked reading.reached reading.goes.reached start)
      ∙ tells_differences (λ row. pictures (Row row)) position
      ∙ ap (λ (b : Bool). b && list_any (λ row. are_unlike (pictures (Row row) (CA position)) (pictures (Row row) (CB position))) rows) within
      ∙ (λ i. list_any (λ row. are_unlike (first row i) (second row i)) rows)
      ∙ sym (lines-unlike wiring deck card position)

pub lines-tell : LinesTellDifferences
lines-tell wiring deck card position now leads reading within brushes also =
    differences-told wiring deck card position now leads reading within brushes also
