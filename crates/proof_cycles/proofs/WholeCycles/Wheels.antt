-- The print wheels through a cycle.
use Rattle.std.proofs.Common.{◌≡◌, ◌∙◌, ap, refl, ℕ, suc, ◌+◌, ◌-◌, ◌≤◌, Bool, List, [], ◌∷◌, length, map, slice_index_or, arith}
use Rattle.std.specs.List.{All, range_with_len}
use Rattle.std.proofs.lemmas.List.Elements.{All-head, All-tail}
use Rattle.std.proofs.lemmas.List.FromFn.{get_or-map-range_with_len}
use Rattle.card_code.specs.Rows.{rows}
use Rattle.card_code.specs.declared.row.Row.{Row as CardRow}
use Rattle.hubs.specs.declared.hub.Hub.{Hub}
use Rattle.hubs.specs.declared.hub.Hub.TheVariants.{W}
use Rattle.net.specs.Cycles.{points}
use Rattle.net.specs.declared.cycle.Cycle.{Cycle}
use Rattle.net.specs.declared.cycle.Point.{Point}
use Rattle.net.specs.declared.cycle.Point.TheVariants.{C, Row, K}
use Rattle.machine.specs.Below.print_unit.Laws.{no_wheel}
use Rattle.machine.specs.Below.print_unit.Wheels.{WheelsState, wheel_at_start, collected, emptied, wheels_sensed, wheel_sensed}
use Rattle.machine.specs.Below.print_unit.ZeroControl.{Wheel}
use Rattle.machine.proofs.Below.print_unit.Ranges.{map-same}
use Rattle.proof_cycles.specs.WholeCycles.Between.{IsEmpty}
use Rattle.proof_cycles.specs.WholeCycles.Laws.{WheelsHaveTheirJacks}
use Rattle.proof_cycles.specs.WholeCycles.WholeCycles.{wheel_received, rows_received, wheel_after, wheels_after}
use Rattle.proof_cycles.proofs.WholeCycles.Parts.{after-kept, sensed_wheels}

-- the wheels from wheel v on by the pictures of some rows
collected_rows : (Point → Hub → Bool) → ℕ → List CardRow → List Wheel → List Wheel
collected_rows pictures v [] wheels = wheels
collected_rows pictures v (row ∷ others) wheels =
    collected_rows pictures v others (collected v row (pictures (Row row)) wheels)

-- a wheel by the pictures of some rows
abbrev wheel_rows : (Point → Hub → Bool) → ℕ → List CardRow → Wheel → Wheel
wheel_rows pictures v [] wheel = wheel
wheel_rows pictures v (row ∷ others) wheel =
    wheel_rows pictures v others (wheel_sensed row (pictures (Row row) (W v)) wheel)

collected-none : (pictures : Point → Hub → Bool) (v : ℕ) (list : List CardRow) → collected_rows pictures v list [] ≡ []
unfolding collected_rows
collected-none pictures v [] = refl
collected-none pictures v (row ∷ others) = collected-none pictures v others

collected-cons : (pictures : Point → Hub → Bool) (v : ℕ) (list : List CardRow) (wheel : Wheel) (wheels : List Wheel)
    → collected_rows pictures v list (wheel ∷ wheels)
    ≡ wheel_rows pictures v list wheel ∷ collected_rows pictures (v + 1) list wheels
unfolding collected_rows
collected-cons pictures v [] wheel wheels = refl
collected-cons pictures v (row ∷ others) wheel wheels =
    collected-cons pictures v others (wheel_sensed row (pictures (Row row) (W v)) wheel)
    (collected (v + 1) row (pictures (Row row)) wheels)

-- wheel v with what the rows give it
abbrev filled : (Point → Hub → Bool) → ℕ → Wheel → Wheel
filled pictures v wheel = record wheel { received = rows_received pictures v }

-- a wheel that has received nothing collects exactly the rows at which it is impulsed
wheel-filled : (pictures : Point → Hub → Bool) (v : ℕ) (wheel : Wheel) → IsEmpty wheel
    → wheel_rows pictures v rows wheel ≡ filled pictures v wheel
wheel-filled pictures v wheel empty =
    ap (λ (received : List Bool). wheel_rows pictures v rows (record wheel { received = received })) empty

-- wheel v among the wheels from another on
abbrev wheel_from : (Point → Hub → Bool) → ℕ → List Wheel → ℕ → Wheel
wheel_from pictures first wheels v = filled pictures v (slice_index_or wheels (v - first) no_wheel)

collected-all : (pictures : Point → Hub → Bool) (v : ℕ) (wheels : List Wheel) → All IsEmpty wheels
    → collected_rows pictures v rows wheels ≡ map (wheel_from pictures v wheels) (range_with_len v (length wheels))
collected-all pictures v [] empty = collected-none pictures v rows
collected-all pictures v (wheel ∷ wheels) empty =
    let here : wheel_rows pictures v rows wheel ≡ wheel_from pictures v (wheel ∷ wheels) v =
    wheel-filled pictures v wheel (All-head IsEmpty wheel wheels empty)
    ∙ ap (λ (n : ℕ). filled pictures v (slice_index_or (wheel ∷ wheels) n no_wheel)) none in
    let others =
    collected-all pictures (v + 1) wheels (All-tail IsEmpty wheel wheels empty)
    ∙ map-same (wheel_from pictures (v + 1) wheels) (wheel_from pictures v (wheel ∷ wheels)) (v + 1) (length wheels)
    (λ u low high. ap (λ (n : ℕ). filled pictures u (slice_index_or (wheel ∷ wheels) n no_wheel)) (next u low)) in
    collected-cons pictures v rows wheel wheels ∙ (λ i. here i ∷ others i)
  where
    none : 0 ≡ v - v
    none = omega arith

    next : (u : ℕ) → v + 1 ≤ u → suc (u - (v + 1)) ≡ u - v
    next u low = omega (arith, low)

-- the wheels after all points
pub wheels-collected : (cycle : Cycle) (pictures : Point → Hub → Bool) (wheels : WheelsState)
    → length wheels.wheels ≡ 120 → All IsEmpty wheels.wheels
    → (sensed_wheels cycle pictures points wheels).wheels ≡ wheels_after pictures wheels.wheels
unfolding collected_rows
wheels-collected cycle pictures wheels many empty =
    collected-all pictures 1 wheels.wheels empty
    ∙ ap (λ (n : ℕ). map (wheel_after pictures wheels.wheels) (range_with_len 1 n)) many

-- what wheels collect is forgotten with the rest
collected-emptied : (v : ℕ) (row : CardRow) (picture : Hub → Bool) (wheels : List Wheel)
    → map emptied (collected v row picture wheels) ≡ map emptied wheels
collected-emptied v row picture [] = refl
collected-emptied v row picture (wheel ∷ others) =
    ap (λ (rest : List Wheel). emptied wheel ∷ rest) (collected-emptied (v + 1) row picture others)

sensed-emptied : (cycle : Cycle) (wheels : WheelsState) (point : Point) (picture : Hub → Bool)
    → map emptied (wheels_sensed wheels cycle point picture).wheels ≡ map emptied wheels.wheels
sensed-emptied cycle wheels C picture = refl
sensed-emptied cycle wheels (Row row) picture = collected-emptied 1 row picture wheels.wheels
sensed-emptied cycle wheels K picture = refl

pub wheels-emptied : (cycle : Cycle) (pictures : Point → Hub → Bool) (list : List Point) (wheels : WheelsState)
    → map emptied (sensed_wheels cycle pictures list wheels).wheels ≡ map emptied wheels.wheels
wheels-emptied cycle pictures list wheels =
    after-kept (λ state point picture. wheels_sensed state cycle point picture) (λ state. map emptied state.wheels)
    (λ state point picture. sensed-emptied cycle state point picture) pictures list wheels

-- the wheels of a setup with all that they receive
pub wheels-jacks : WheelsHaveTheirJacks
wheels-jacks wiring machine pictures set_up =
    ap (λ (ws : List Wheel). wheels_after pictures ws) set_up.wheels
    ∙ map-same (wheel_after pictures (map (wheel_at_start wiring) (range_with_len 1 120))) (wheel_received wiring pictures) 1 120
    (λ v low high. ap (filled pictures v)
    (get_or-map-range_with_len (wheel_at_start wiring) 1 120 (v - 1) v no_wheel (omega (arith, low, high)) (omega (arith, low))))
