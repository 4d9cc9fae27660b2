-- Rows of wheels, each made by the bit that stands for it.
use Rattle.std.proofs.Common.{◌≡◌, ◌≢◌, ◌∙◌, ◌⊎◌, ◌==◌, inl, inr, nat_le, nat_lt, drop, Some, [], ◌∷◌, refl, sym, ap, ℕ, suc, zero, ◌+◌, ◌-◌, ◌<◌, ◌≤◌, ◌&&◌, ◌||◌, Bool, true, false, List, map, replicate, length, slice_index_or, slice_set, arith}
use Rattle.std.proofs.lemmas.Bool.Decides.{eqb_tells, nat_tests}
use Rattle.std.proofs.lemmas.List.{get_or-replicate, get_or-set_same, get_or-set_other, length-set}
use Rattle.std.proofs.lemmas.List.FromFn.{get_or-map-range_with_len, length-map-range_with_len}
use Rattle.std.specs.List.{range_with_len}
use Rattle.card_code.specs.Rows.{passing_place, rows}
use Rattle.card_code.specs.declared.row.Row.TheVariants as row
use Rattle.card_code.specs.declared.row.Row.{Row as CardRow}
use Rattle.hubs.specs.declared.hub.Hub.{Hub}
use Rattle.hubs.specs.declared.hub.Hub.TheVariants.{W}
use Rattle.hubs.proofs.HubLemmas.{number_of-W}
use Rattle.net.proofs.SetLemmas.{set-read}
use Rattle.net.specs.HubSets.{is_bit, is_in_row, is_in_reach}
use Rattle.net.specs.RowSets.{after_rows, pictures_of}
use Rattle.net.specs.WholeCycles.{after_points}
use Rattle.net.specs.declared.cycle.Point.{Point}
use Rattle.net.specs.declared.cycle.Cycle.{Cycle}
use Rattle.net.specs.declared.cycle.Point.TheVariants.{Row}
use Rattle.print_unit.specs.Wheels.{wheel_sensed, collected, emptied, wheels_sensed, wheels_ended}
use Rattle.print_unit.specs.WheelWords.{state_of, wheel_at, received_at, hides, given_by, printed_at}
use Rattle.print_unit.specs.RowSets.{rows_in, Receives, TakesRow}
use Rattle.print_unit.specs.ZeroControl.{Wheel, printed_from, has_zero_control}
use Rattle.print_unit.specs.declared.wheels.Wheels.TheInside as inside
use Rattle.print_unit.proofs.Bits.{is_bit-zero}
use Rattle.print_unit.proofs.Ranges.{list-made, map-same}

-- what is made alike from each bit and from the number of its wheel
pub map-next : {X : Type 0} (one other : ℕ → X) (from count : ℕ)
    → ((k : ℕ) → from ≤ k → k < from + count → one k ≡ other (k + 1))
    → map one (range_with_len from count) ≡ map other (range_with_len (from + 1) count)
map-next one other from zero same = refl
map-next one other from (suc count) same =
    rw (same from (omega arith) (omega arith), map-next one other (from + 1) count (λ k low high. same k (omega arith) (omega arith)))
    refl

-- the wheels at the point of a row
pub collected-map : (row : CardRow) (picture : Hub → Bool) (one other : ℕ → Wheel) (from count : ℕ)
    → ((k : ℕ) → from ≤ k → k < from + count → wheel_sensed row (picture (W (k + 1))) (one k) ≡ other k)
    → collected (from + 1) row picture (map one (range_with_len from count)) ≡ map other (range_with_len from count)
collected-map row picture one other from zero same = refl
collected-map row picture one other from (suc count) same =
    rw (same from (omega arith) (omega arith), collected-map row picture one other (from + 1) count (λ k low high. same k (omega arith) (omega arith)))
    refl

-- the bit of a wheel in the word from W.1 on
pub is_in_row-W : (word k : ℕ) → k < 120 → is_in_row (W 1) word (W (k + 1)) ≡ is_bit word k
is_in_row-W word k below = by (1798 + (k + 1) - 1799) (omega arith)
  where
    by : (bit : ℕ) → bit ≡ k → is_in_row (W 1) word (W (k + 1)) ≡ is_bit word k
    by bit same = grind (arith, nat_tests, same)

-- the wheels are in reach of W.1
pub is_in_reach-W : (k : ℕ) → k < 120 → is_in_reach (W 1) (W (k + 1)) ≡ true
is_in_reach-W k below = grind (arith, nat_tests)

-- a wheel's rows, one by one
pub received-long : (sets : List ℕ) (k : ℕ) → length (received_at sets k) ≡ 12
received-long sets k = length-map-range_with_len (λ place. is_bit (slice_index_or sets k 0) place) 0 12

received-at : (sets : List ℕ) (k place : ℕ) → place < 12
    → slice_index_or (received_at sets k) place false ≡ is_bit (slice_index_or sets k 0) place
received-at sets k place low =
    get_or-map-range_with_len (λ p. is_bit (slice_index_or sets k 0) p) 0 12 place place false low (omega arith)

-- a wheel that takes a row
received-taken : (old new : List ℕ) (k place : ℕ) (impulsed : Bool) → place < 12
    → ((p : ℕ) → is_bit (slice_index_or new k 0) p ≡ (is_bit (slice_index_or old k 0) p || (p == place) && impulsed))
    → slice_set (received_at old k) place (slice_index_or (received_at old k) place false || impulsed) ≡ received_at new k
received-taken old new k place impulsed low takes =
    sym (list-made (λ p. is_bit (slice_index_or new k 0) p) (slice_set (received_at old k) place (slice_index_or (received_at old k) place false || impulsed)) false 12 long (λ p inside. by p inside (eqb_tells p place)))
  where
    long : length (slice_set (received_at old k) place (slice_index_or (received_at old k) place false || impulsed)) ≡ 12
    long = length-set (received_at old k) place (slice_index_or (received_at old k) place false || impulsed) ∙ received-long old k

    by : (p : ℕ) → p < 12 → ((p == place) ≡ true) × (p ≡ place) ⊎ ((p == place) ≡ false) × (p ≢ place)
        → slice_index_or (slice_set (received_at old k) place (slice_index_or (received_at old k) place false || impulsed)) p false
        ≡ is_bit (slice_index_or new k 0) p
    by p inside (inl same) =
        let takes_it = takes p in
        let long_is = received-long old k in
        ap (λ (j : ℕ). slice_index_or (slice_set (received_at old k) place (slice_index_or (received_at old k) place false || impulsed)) j false) same.1
        ∙ get_or-set_same (received_at old k) place (slice_index_or (received_at old k) place false || impulsed) false (omega (arith, long_is, low))
        ∙ ap (λ b. b || impulsed) (received-at old k place low)
        ∙ ap (λ (j : ℕ). is_bit (slice_index_or old k 0) j || impulsed) (sym same.1)
        ∙ sym (takes_it ∙ ap (λ b. is_bit (slice_index_or old k 0) p || b && impulsed) same.0)
    by p inside (inr other) =
        get_or-set_other (received_at old k) place p (slice_index_or (received_at old k) place false || impulsed) false other.1
        ∙ received-at old k p inside
        ∙ none (is_bit (slice_index_or old k 0) p)
        ∙ sym (takes p ∙ ap (λ b. is_bit (slice_index_or old k 0) p || b && impulsed) other.0)
      where
        none : (b : Bool) → b ≡ (b || false && impulsed)
        none true = refl
        none false = refl

-- a wheel of words at the point of a row: its set takes the row
wheel_at-sensed : (words : inside.Inside) (new : List ℕ) (row : CardRow) (impulsed : Bool) (word k : ℕ)
    → passing_place row < 12 → k < 128 → impulsed ≡ is_bit word k → TakesRow word (passing_place row) words.sets new
    → wheel_sensed row impulsed (wheel_at words k) ≡ wheel_at (record words { sets = new }) k
wheel_at-sensed words new row impulsed word k low below there takes =
    let received =
    received-taken words.sets new k (passing_place row) impulsed low
    (λ p. takes k below p ∙ ap (λ b. is_bit (slice_index_or words.sets k 0) p || (p == passing_place row) && b) (sym there)) in
    λ i. record { received = received i; link = is_bit words.link k; suppress = is_bit words.suppress k; symbol = is_bit words.symbol k }

-- no wheel has received a row of empty sets
pub received-none : (k : ℕ) → k < 128 → received_at (replicate 128 0) k ≡ replicate 12 false
received-none k below =
    ap rows_in (get_or-replicate {A = ℕ} 128 k 0 0 below)
    ∙ map-same (λ place. is_bit 0 place) (λ place. false) 0 12 (λ p low high. is_bit-zero p)

-- wheels of words forget what they received
pub emptied-map : (words : inside.Inside) (from count : ℕ) → from + count ≤ 120
    → map emptied (map (wheel_at words) (range_with_len from count))
    ≡ map (wheel_at (record words { sets = replicate 128 0 })) (range_with_len from count)
emptied-map words from zero few = refl
emptied-map words from (suc count) few =
    let none = received-none from (omega (arith, few)) in
    let others = emptied-map words (from + 1) count (omega (arith, few)) in
    λ i. record { received = sym none i; link = is_bit words.link from; suppress = is_bit words.suppress from; symbol = is_bit words.symbol from }
    ∷ others i

-- without zero control each wheel prints its character
printed_from-free : (words : inside.Inside) (hidden : ℕ) (given : Bool) (from count : ℕ)
    → ((k : ℕ) → from ≤ k → k < from + count → is_bit hidden k ≡ false)
    → printed_from false given (map (wheel_at words) (range_with_len from count))
    ≡ map (printed_at words.sets hidden) (range_with_len from count)
printed_from-free words hidden given from zero free = refl
printed_from-free words hidden given from (suc count) free =
    rw (free from (omega arith) (omega arith), printed_from-free words hidden true (from + 1) count (λ k low high. free k (omega arith) (omega arith)))
    refl

-- under zero control a wheel that is hidden prints blank, and gives what the words say to the wheel on its right
printed_from-controlled : (words : inside.Inside) (hidden from count : ℕ)
    → ((k : ℕ) → from ≤ k → k < from + count
    → is_bit hidden k ≡ hides (received_at words.sets) words.link words.suppress words.symbol k)
    → printed_from true (given_by (received_at words.sets) words.link from) (map (wheel_at words) (range_with_len from count))
    ≡ map (printed_at words.sets hidden) (range_with_len from count)
printed_from-controlled words hidden from zero hiding = refl
printed_from-controlled words hidden from (suc count) hiding =
    let next : from + 1 ≡ suc from = omega arith in
    let others = printed_from-controlled words hidden (from + 1) count (λ k low high. hiding k (omega arith) (omega arith)) in
    rw (hiding from (omega arith) (omega arith), sym others, next) refl

-- the line of the wheels, with zero control or without
pub printed_from-words : (control : Bool) (words : inside.Inside) (hidden count : ℕ)
    → ((k : ℕ) → k < count → is_bit hidden k ≡ (control && hides (received_at words.sets) words.link words.suppress words.symbol k))
    → printed_from control false (map (wheel_at words) (range_with_len 0 count))
    ≡ map (printed_at words.sets hidden) (range_with_len 0 count)
printed_from-words true words hidden count hiding =
    printed_from-controlled words hidden 0 count (λ k low high. hiding k (omega arith))
printed_from-words false words hidden count hiding =
    printed_from-free words hidden false 0 count (λ k low high. hiding k (omega arith))

-- the state of wheels of words at the point of a row
pub state-sensed : (words : inside.Inside) (new : List ℕ) (cycle : Cycle) (row : CardRow) (picture : Hub → Bool) (word : ℕ)
    → passing_place row < 12
    → ((k : ℕ) → k < 120 → picture (W (k + 1)) ≡ is_bit word k)
    → TakesRow word (passing_place row) words.sets new
    → state_of (record words { sets = new }) ≡ wheels_sensed (state_of words) cycle (Row row) picture
state-sensed words new cycle row picture word low there takes =
    ap (λ wheels. record { wheels = wheels; line = words.line }) (sym (collected-map row picture (wheel_at words) (wheel_at (record words { sets = new })) 0 120 (λ k from below. wheel_at-sensed words new row (picture (W (k + 1))) word k low (omega (arith, below)) (there k (omega arith)) takes)))

-- the state of wheels of words at the end of a cycle
pub state-ended : (words : inside.Inside) (cycle : Cycle) (hidden : ℕ) (line : List ℕ) → length line ≡ 120
    → ((k : ℕ) → k < 120
    → is_bit hidden k ≡ (has_zero_control cycle && hides (received_at words.sets) words.link words.suppress words.symbol k))
    → ((k : ℕ) → k < 120 → slice_index_or line k 0 ≡ printed_at words.sets hidden k)
    → state_of (record words { sets = replicate 128 0; line = line }) ≡ wheels_ended (state_of words) cycle
state-ended words cycle hidden line long hiding printed =
    let wheels = emptied-map words 0 120 (omega arith) in
    let made = printed_from-words (has_zero_control cycle) words hidden 120 hiding ∙ list-made (printed_at words.sets hidden) line 0 120 long printed in
    ap (λ ws. record { wheels = ws; line = line }) (sym wheels)
    ∙ ap (λ l. record { wheels = map emptied (map (wheel_at words) (range_with_len 0 120)); line = l }) (sym made)

-- a wheel after the points of some rows
pub sensed_over : List CardRow → (Point → Hub → Bool) → (ℕ → Wheel) → ℕ → Wheel
sensed_over [] pictures one = one
sensed_over (row ∷ others) pictures one =
    sensed_over others pictures (λ k. wheel_sensed row (pictures (Row row) (W (k + 1))) (one k))

-- wheels each go through the points of the rows by themselves
wheels-over : (list : List CardRow) (cycle : Cycle) (pictures : Point → Hub → Bool) (one : ℕ → Wheel) (line : List ℕ)
    → after_points wheels_sensed cycle pictures (map Row list) (record { wheels = map one (range_with_len 0 120); line = line })
    ≡ record { wheels = map (sensed_over list pictures one) (range_with_len 0 120); line = line }
unfolding sensed_over
wheels-over [] cycle pictures one line = refl
wheels-over (row ∷ others) cycle pictures one line =
    ap (λ (ws : List Wheel). after_points wheels_sensed cycle pictures (map Row others) (record { wheels = ws; line = line }))
    (collected-map row (pictures (Row row)) one (λ k. wheel_sensed row (pictures (Row row) (W (k + 1))) (one k)) 0 120 (λ k low high. refl))
    ∙ wheels-over others cycle pictures (λ k. wheel_sensed row (pictures (Row row) (W (k + 1))) (one k)) line

-- a wheel of words after all rows: its set has those at whose points it is impulsed
wheel_at-rows : (words : inside.Inside) (new : List ℕ) (pictures : Point → Hub → Bool) (k : ℕ)
    → ((row : CardRow) → is_bit (slice_index_or new k 0) (passing_place row)
    ≡ (is_bit (slice_index_or words.sets k 0) (passing_place row) || pictures (Row row) (W (k + 1))))
    → sensed_over rows pictures (wheel_at words) k ≡ wheel_at (record words { sets = new }) k
unfolding sensed_over
wheel_at-rows words new pictures k received =
    λ i. record {
      received =
          sym (received row.Nine) i ∷ sym (received row.Eight) i ∷ sym (received row.Seven) i ∷ sym (received row.Six) i
          ∷ sym (received row.Five) i ∷ sym (received row.Four) i ∷ sym (received row.Three) i ∷ sym (received row.Two) i
          ∷ sym (received row.One) i ∷ sym (received row.Zero) i ∷ sym (received row.Eleven) i ∷ sym (received row.Twelve) i ∷ [];
      link = is_bit words.link k;
      suppress = is_bit words.suppress k;
      symbol = is_bit words.symbol k;
    }

-- the state of wheels of words after all rows
pub state-rows : (words : inside.Inside) (new : List ℕ) (cycle : Cycle) (pictures : Point → Hub → Bool)
    → ((k : ℕ) → k < 120 → (row : CardRow) → is_bit (slice_index_or new k 0) (passing_place row)
    ≡ (is_bit (slice_index_or words.sets k 0) (passing_place row) || pictures (Row row) (W (k + 1))))
    → state_of (record words { sets = new }) ≡ after_rows wheels_sensed cycle pictures (state_of words)
state-rows words new cycle pictures received =
    sym (wheels-over rows cycle pictures (wheel_at words) words.line
    ∙ ap (λ (ws : List Wheel). record { wheels = ws; line = words.line })
    (map-same (sensed_over rows pictures (wheel_at words)) (wheel_at (record words { sets = new })) 0 120
    (λ k low high. wheel_at-rows words new pictures k (received k (omega (arith, high))))))

-- what a wheel receives of sets that are read from W.1 on
pub receives-picture : (sets received old new : List ℕ) (k : ℕ) (at : CardRow) → k < 120 → received ≡ drop 1798 sets
    → Receives 0 120 received old new
    → is_bit (slice_index_or new k 0) (passing_place at)
    ≡ (is_bit (slice_index_or old k 0) (passing_place at) || pictures_of sets (Row at) (W (k + 1)))
receives-picture sets received old new k at below is receives =
    receives k below (passing_place at)
    ∙ ap (λ b. is_bit (slice_index_or old k 0) (passing_place at) || b)
    (inside (k - 0) (omega arith)
    ∙ ap (λ (rs : List ℕ). is_bit (slice_index_or rs k 0) (passing_place at)) is
    ∙ set-read sets (W (k + 1)) 1799 k (passing_place at) (omega arith)
    (number_of-W (k + 1) (omega arith) (omega (arith, below)) ∙ ap (λ (n : ℕ). Some n) index))
  where
    index : 1798 + (k + 1) ≡ 1799 + k
    index = omega arith

    inside : (j : ℕ) → j ≡ k
        → (nat_le 0 k && (nat_lt j 120 && is_bit (slice_index_or received j 0) (passing_place at)))
        ≡ is_bit (slice_index_or received k 0) (passing_place at)
    inside j same = rw same (grind (arith, nat_tests, below))
