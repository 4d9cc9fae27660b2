-- Rows of contacts against the definitions of which of them are closed.
use Rattle.std.proofs.Common.{◌≡◌, ◌≤◌, ◌<◌, ◌+◌, ◌-◌, ◌*◌, ◌∙◌, ap, refl, sym, arith, ℕ, suc, Bool, true, false, not, ◌==◌, ◌&&◌, ◌||◌, nat_le, List, [], ◌∷◌, length, slice_index_or, ◌⊎◌, inl, inr, Option, Some, None, if◌then◌else◌}
use Rattle.std.specs.Prelude.{option_map}
use Rattle.std.proofs.lemmas.Bool.Decides.{nat_tests}
use Rattle.std.proofs.lemmas.Nat.Bits.{bit_at_ones}
use Rattle.std.proofs.lemmas.Option.{same_Some}
use Rattle.hubs.proofs.HubTable.PlaceLemmas.{place-range}
use Rattle.card_code.specs.declared.row.Row.{Row as CardRow}
use Rattle.hubs.specs.HubTable.HubTable.{row_of}
use Rattle.hubs.specs.Hubs.{letters_of, number_of}
use Rattle.hubs.specs.HubTable.Places.{up_to, part_place, group_place, count_of}
use Rattle.hubs.specs.HubTable.Ranges.{is_within}
use Rattle.hubs.specs.declared.hub.Group.{Group}
use Rattle.hubs.specs.declared.hub.Hub.{Hub}
use Rattle.hubs.specs.declared.hub.Hub.TheVariants.{CO, BAN, BAT, PIN, PIT, IX, CSD, CSZ}
use Rattle.hubs.specs.declared.hub_table.letters.Letters.{Letters}
use Rattle.hubs.specs.declared.hub_table.letters.Letters.TheVariants as kind
use Rattle.hubs.specs.declared.hub_table.shape.Numbers.TheVariants.{Two}
use Rattle.hubs.specs.declared.hub_table.shape.Shape.TheVariants.{Groups}
use Rattle.net.specs.HubSets.{is_bit, is_bit_from, is_in_row}
use Rattle.net.specs.Cycles.{is_closing}
use Rattle.net.specs.Panel.{unit_after, unit_of}
use Rattle.net.specs.declared.cycle.Cycle.{Cycle}
use Rattle.net.specs.declared.cycle.Cycle.TheVariants.{Card}
use Rattle.net.specs.declared.cycle.Point.{Point}
use Rattle.net.specs.declared.cycle.Point.TheVariants.{C, K, Row}
use Rattle.selectors.specs.Contacts.{balance_closes, carry_closes, has_balance, is_balance_set, is_nines}
use Rattle.selectors.specs.Indicate.{Latches, indicate_closes}
use Rattle.selectors.specs.Pilots.{PilotStates, pilots_closes}
use Rattle.selectors.specs.Splits.{split_closes, is_digit_row}
use Rattle.selectors.specs.Spread.{spread}
use Rattle.selectors.proofs.RowLemmas.{in_no_row}
use Rattle.selectors.proofs.SpreadLemmas.{is_same, side-below, side-bit, spread_side}

-- whether a thing that is there, with a part that is there, is of a value
abbrev side : Bool → List Bool → Option ℕ → Option ℕ → Bool
side value things (Some thing) (Some part) = is_same value (slice_index_or things (thing - 1) false)
side value things thing part = false

-- the bit of a part of a thing, where the row begins with the first part of the first thing
part_bit : (before parts bits t p : ℕ) → 1 ≤ p
    → is_bit_from (Some (before + 1)) bits (Some (before + ((t - 1) * parts + p))) ≡ is_bit bits ((t - 1) * parts + (p - 1))
part_bit before parts bits t p from = at ((t - 1) * parts)
  where
    at : (x : ℕ) → is_bit_from (Some (before + 1)) bits (Some (before + (x + p))) ≡ is_bit bits (x + (p - 1))
    at x = let place : before + (x + p) - (before + 1) ≡ x + (p - 1) = omega arith in
        let there : nat_le (before + 1) (before + (x + p)) ≡ true = grind (arith, nat_tests) in
        ap (λ b. b && is_bit bits (before + (x + p) - (before + 1))) there ∙ ap (is_bit bits) place

-- a row that has as many bits for each thing, at the parts of the things
spread_row :
    (value : Bool) (parts before : ℕ) (things : List Bool) (thing part : Option ℕ)
    → ((t : ℕ) → thing ≡ Some t → (1 ≤ t) × (t ≤ length things))
    → ((p : ℕ) → part ≡ Some p → (1 ≤ p) × (p ≤ parts))
    → is_bit_from (Some (before + 1)) (spread_side value parts things) (option_map (λ place. before + place) (part_place parts thing part))
    ≡ side value things thing part
spread_row value parts before things (Some t) (Some p) thing_in part_in =
    let of_thing = thing_in t refl in let of_part = part_in p refl in
    part_bit before parts (spread_side value parts things) t p of_part.0
    ∙ side-bit value parts things (t - 1) (p - 1) (omega (arith, of_part)) (omega (arith, of_thing))
spread_row value parts before things (Some t) None thing_in part_in = refl
spread_row value parts before things None part thing_in part_in = refl

up_to-range : (last n p : ℕ) → up_to last n ≡ Some p → (1 ≤ p) × (p ≤ last)
up_to-range last n p e = grind (arith, nat_tests)

-- the side of a thing and a part by their numbers
side_up_to : (value : Bool) (things : List Bool) (last n parts m : ℕ)
    → side value things (up_to last n) (up_to parts m)
    ≡ ((is_within n last && is_same value (slice_index_or things (n - 1) false)) && is_within m parts)
side_up_to value things last n parts m = by (is_within n last) (is_within m parts)
  where
    all : (b : Bool) → b ≡ ((true && b) && true)
    all true = refl
    all false = refl

    no_part : (b : Bool) → false ≡ ((true && b) && false)
    no_part true = refl
    no_part false = refl

    by : (is_thing is_part : Bool)
        → side value things (if is_thing then Some n else None) (if is_part then Some m else None)
        ≡ ((is_thing && is_same value (slice_index_or things (n - 1) false)) && is_part)
    by true true = all (is_same value (slice_index_or things (n - 1) false))
    by true false = no_part (is_same value (slice_index_or things (n - 1) false))
    by false is_part = refl

-- a test of a row, and another one that has no such hub
one_row : (one other test : Bool) → one ≡ test → other ≡ false → (one || other) ≡ test
one_row one other test is none = grind (arith, is, none)

other_row : (one other test : Bool) → one ≡ false → other ≡ test → (one || other) ≡ test
other_row one other test none is = grind (arith, is, none)

-- a row of all of a kind has no hub of other letters
no_spread : (letters : Letters) (value : Bool) (parts : ℕ) (things : List Bool) (hub : Hub) → (letters_of hub ≡ letters → ⊥)
    → parts * length things ≡ count_of (row_of letters).shape
    → is_bit_from (Some ((row_of letters).before + 1)) (spread_side value parts things) (number_of hub) ≡ false
no_spread letters value parts things hub other whole =
    in_no_row letters ((row_of letters).before + 1) (parts * length things) (spread_side value parts things) hub other (omega arith)
    (omega (arith, whole)) (side-below value parts things)

-- the rows of the pilots' contacts
pub pilot_rows : (pilots : PilotStates) (cycle : Cycle) (point : Point) (hub : Hub) → length pilots.transferred ≡ 16
    → (is_in_row (PIN 1 1) (spread_side false 3 pilots.transferred) hub || is_in_row (PIT 1 1) (spread 3 pilots.transferred) hub)
    ≡ pilots_closes pilots cycle point hub
pilot_rows pilots cycle point (PIN pilot position) long = one_row _ _ _
    (spread_row false 3 646 pilots.transferred (up_to 16 pilot) (up_to 3 position)
    (λ t e. rw long (up_to-range 16 pilot t e)) (up_to-range 3 position)
    ∙ side_up_to false pilots.transferred 16 pilot 3 position)
    (no_spread kind.PIT true 3 pilots.transferred (PIN pilot position) (λ same. cc) (rw long refl))
pilot_rows pilots cycle point (PIT pilot position) long = other_row _ _ _
    (no_spread kind.PIN false 3 pilots.transferred (PIT pilot position) (λ same. cc) (rw long refl))
    (spread_row true 3 694 pilots.transferred (up_to 16 pilot) (up_to 3 position)
    (λ t e. rw long (up_to-range 16 pilot t e)) (up_to-range 3 position)
    ∙ side_up_to true pilots.transferred 16 pilot 3 position)
pilot_rows pilots cycle point other long = one_row _ _ _
    (no_spread kind.PIN false 3 pilots.transferred other (λ same. cc) (rw long refl))
    (no_spread kind.PIT true 3 pilots.transferred other (λ same. cc) (rw long refl))

-- a group's side, by its place
group_side : (value : Bool) (latches : List Bool) (group : Group) (position : ℕ)
    → side value latches (group_place group.width group.number) (up_to 4 position)
    ≡ (has_balance group position && is_same value (is_balance_set latches group))
group_side value latches group position =
    by (group_place group.width group.number) (λ t e. place-range Groups (Two group.width group.number) t e) (is_within position 4)
  where
    by : (found : Option ℕ) → ((t : ℕ) → found ≡ Some t → (1 ≤ t) × (t ≤ 32)) → (is_part : Bool)
        → side value latches found (if is_part then Some position else None)
        ≡ ((nat_le 3 (unit_after 2 found) && is_part) && is_same value (slice_index_or latches (unit_after 2 found - 3) false))
    by None range is_part = refl
    by (Some t) range is_part =
        let there : nat_le 3 (2 + t) ≡ true = let from = (range t refl).0 in grind (arith, nat_tests, from) in
        let place : 2 + t - 3 ≡ t - 1 = omega arith in
        part is_part (slice_index_or latches (t - 1) false)
        ∙ ap (λ b. (b && is_part) && is_same value (slice_index_or latches (t - 1) false)) (sym there)
        ∙ ap (λ k. (nat_le 3 (2 + t) && is_part) && is_same value (slice_index_or latches k false)) (sym place)
      where
        part : (is_part test : Bool) → side value latches (Some t) (if is_part then Some position else None)
            ≡ ((true && is_part) && is_same value (slice_index_or latches (t - 1) false))
        part true test = refl
        part false test = refl

-- the rows of the balance positions' contacts
pub balance_rows : (latches : List Bool) (hub : Hub) → length latches ≡ 32
    → (is_in_row (BAN (record { width = 3; number = 1 }) 1) (spread_side false 4 latches) hub
    || is_in_row (BAT (record { width = 3; number = 1 }) 1) (spread 4 latches) hub)
    ≡ balance_closes latches hub
balance_rows latches (BAN group position) long = one_row _ _ _
    (spread_row false 4 390 latches (group_place group.width group.number) (up_to 4 position)
    (λ t e. rw long (place-range Groups (Two group.width group.number) t e)) (up_to-range 4 position)
    ∙ group_side false latches group position)
    (no_spread kind.BAT true 4 latches (BAN group position) (λ same. cc) (rw long refl))
balance_rows latches (BAT group position) long = other_row _ _ _
    (no_spread kind.BAN false 4 latches (BAT group position) (λ same. cc) (rw long refl))
    (spread_row true 4 518 latches (group_place group.width group.number) (up_to 4 position)
    (λ t e. rw long (place-range Groups (Two group.width group.number) t e)) (up_to-range 4 position)
    ∙ group_side true latches group position)
balance_rows latches other long = one_row _ _ _
    (no_spread kind.BAN false 4 latches other (λ same. cc) (rw long refl))
    (no_spread kind.BAT true 4 latches other (λ same. cc) (rw long refl))

-- the row of the carries' contacts, which has one of each group
pub carry_row : (nines : List Bool) (hub : Hub) → length nines ≡ 32
    → is_in_row (CO (record { width = 3; number = 1 })) (spread 1 nines) hub ≡ carry_closes K nines hub
carry_row nines (CO group) long =
    by (group_place group.width group.number) (λ t e. place-range Groups (Two group.width group.number) t e)
  where
    by : (found : Option ℕ) → ((t : ℕ) → found ≡ Some t → (1 ≤ t) × (t ≤ 32))
        → is_bit_from (Some 359) (spread 1 nines) (option_map (λ place. 358 + place) found)
        ≡ (nat_le 3 (unit_after 2 found) && slice_index_or nines (unit_after 2 found - 3) false)
    by None range = refl
    by (Some t) range =
        let within = range t refl in
        let one : 358 + t ≡ 358 + ((t - 1) * 1 + 1) = omega (arith, within.0) in
        let there : nat_le 3 (2 + t) ≡ true = let from = within.0 in grind (arith, nat_tests, from) in
        let place : 2 + t - 3 ≡ t - 1 = omega arith in
        ap (λ n. is_bit_from (Some 359) (spread 1 nines) (Some n)) one
        ∙ spread_row true 1 358 nines (Some t) (Some 1) (λ s e. rw long (range s e)) (λ p e. only p e)
        ∙ ap (λ b. b && slice_index_or nines (t - 1) false) (sym there)
        ∙ ap (λ k. nat_le 3 (2 + t) && slice_index_or nines k false) (sym place)
      where
        only : (p : ℕ) → ◌≡◌ {A = Option ℕ} (Some 1) (Some p) → (1 ≤ p) × (p ≤ 1)
        only p e = let same : 1 ≡ p = same_Some _ _ e in (omega (arith, same), omega (arith, same))
carry_row nines other long = no_spread kind.CO true 1 nines other (λ same. cc) (rw long refl)

-- before the closing point no carry's contact is closed
pub no_carry_before : (point : Point) (nines : List Bool) (hub : Hub) → (point ≡ C) ⊎ ((row : CardRow) × (point ≡ Row row))
    → carry_closes point nines hub ≡ false
no_carry_before point nines (CO group) at = ap (λ b. b && (nat_le 3 (unit_of group) && is_nines nines group)) (before at)
  where
    before : (point ≡ C) ⊎ ((row : CardRow) × (point ≡ Row row)) → is_closing point ≡ false
    before (inl is) = ap is_closing is
    before (inr is) = ap is_closing is.1
no_carry_before point nines other at = refl

-- a set that gains nothing, two sets of contacts joined
pub gains_none : (old test : Bool) → test ≡ false → old ≡ (old || test)
gains_none true test none = refl
gains_none false test none = sym none

pub gains_carries : (steady splits new a b c d o : Bool) → steady ≡ (a || (b || c)) → splits ≡ (steady || d) → new ≡ (splits || o)
    → new ≡ (o || (a || (b || (c || d))))
gains_carries steady splits new a b c d o is next last = grind (arith, is, next, last)

-- the latch of a level by its number
latch_of_level : (a b c : Bool) (level : ℕ)
    → (is_within level 3 && slice_index_or (a ∷ b ∷ c ∷ []) (level - 1) false)
    ≡ (if level == 1 then a else if level == 2 then b else if level == 3 then c else false)
latch_of_level a b c (suc (suc (suc (suc n)))) = grind (arith, nat_tests)
latch_of_level a b c other = refl

-- the row of the contacts of group indication in a card cycle
pub indicate_row : (latches : Latches) (point : Point) (hub : Hub)
    → is_in_row (IX 1 1) (spread 30 (latches.minor ∷ latches.intermediate ∷ latches.major ∷ [])) hub
    ≡ indicate_closes latches Card point hub
indicate_row latches point (IX level position) =
    spread_row true 30 806 (latches.minor ∷ latches.intermediate ∷ latches.major ∷ []) (up_to 3 level) (up_to 30 position)
    (up_to-range 3 level) (up_to-range 30 position)
    ∙ side_up_to true (latches.minor ∷ latches.intermediate ∷ latches.major ∷ []) 3 level 30 position
    ∙ ap (λ b. b && is_within position 30) (latch_of_level latches.minor latches.intermediate latches.major level)
indicate_row latches point other =
    no_spread kind.IX true 30 (latches.minor ∷ latches.intermediate ∷ latches.major ∷ []) other (λ same. cc) refl

-- each of sixteen bits
one_of_sixteen : (k : ℕ) → k < 16 → is_bit 65535 k ≡ true
unfolding is_bit
one_of_sixteen k below = ap (λ b. b == 1) (bit_at_ones 16 k below)

-- the row of the contacts of all splits
split_place : (before z : ℕ) → is_bit_from (Some (before + 1)) 65535 (option_map (λ place. before + place) (up_to 16 z)) ≡ is_within z 16
split_place before z = by (is_within z 16) refl
  where
    by : (within : Bool) → is_within z 16 ≡ within
        → is_bit_from (Some (before + 1)) 65535 (option_map (λ place. before + place) (if within then Some z else None)) ≡ within
    by false is = refl
    by true is = let bit = one_of_sixteen (z - 1) (grind (arith, nat_tests)) in
        let place : before + z - (before + 1) ≡ z - 1 = omega arith in
        let there : nat_le (before + 1) (before + z) ≡ true = grind (arith, nat_tests) in
        ap (λ b. b && is_bit 65535 (before + z - (before + 1))) there ∙ ap (is_bit 65535) place ∙ bit

-- whether a hub is the exit of a split for the digit rows, or for the zone rows
abbrev pub is_digit_exit : Hub → Bool
is_digit_exit (CSD split) = is_within split 16
is_digit_exit hub = false

abbrev pub is_zone_exit : Hub → Bool
is_zone_exit (CSZ split) = is_within split 16
is_zone_exit hub = false

pub digit_row : (hub : Hub) → is_in_row (CSD 1) 65535 hub ≡ is_digit_exit hub
digit_row (CSD split) = split_place 896 split
digit_row other = in_no_row kind.CSD 897 16 65535 other (λ same. cc) (omega arith) (omega arith) (omega arith)

pub zone_row : (hub : Hub) → is_in_row (CSZ 1) 65535 hub ≡ is_zone_exit hub
zone_row (CSZ split) = split_place 912 split
zone_row other = in_no_row kind.CSZ 913 16 65535 other (λ same. cc) (omega arith) (omega arith) (omega arith)

-- what the splits close at a row
pub digits_close : (point : Point) (row : CardRow) (hub : Hub) → point ≡ Row row → is_digit_row row ≡ true
    → is_in_row (CSD 1) 65535 hub ≡ split_closes point hub
digits_close point row hub at digit = digit_row hub ∙ rw at (by hub)
  where
    by : (hub : Hub) → is_digit_exit hub ≡ split_closes (Row row) hub
    by (CSD split) = ap (λ b. b && is_within split 16) (sym digit)
    by (CSZ split) = ap (λ b. not b && is_within split 16) (sym digit)
    by other = refl

pub zones_close : (point : Point) (row : CardRow) (hub : Hub) → point ≡ Row row → is_digit_row row ≡ false
    → is_in_row (CSZ 1) 65535 hub ≡ split_closes point hub
zones_close point row hub at zone = zone_row hub ∙ rw at (by hub)
  where
    by : (hub : Hub) → is_zone_exit hub ≡ split_closes (Row row) hub
    by (CSD split) = ap (λ b. b && is_within split 16) (sym zone)
    by (CSZ split) = ap (λ b. not b && is_within split 16) (sym zone)
    by other = refl

-- a set that gains two rows gains what is in one of them
pub gains_two :
    (first second hub : Hub) (old between new test : Bool) (bits more first_bits second_bits : ℕ) → bits ≡ first_bits → more ≡ second_bits
    → between ≡ (old || is_in_row first bits hub) → new ≡ (between || is_in_row second more hub)
    → (is_in_row first first_bits hub || is_in_row second second_bits hub) ≡ test → new ≡ (old || test)
gains_two first second hub old between new test bits more first_bits second_bits is more_is gained gained_more rows =
    joined old between new (is_in_row first first_bits hub) (is_in_row second second_bits hub) test
    (gained ∙ ap (λ b. old || is_in_row first b hub) is)
    (gained_more ∙ ap (λ b. between || is_in_row second b hub) more_is)
    rows
  where
    joined : (old between new one other test : Bool) → between ≡ (old || one) → new ≡ (between || other) → (one || other) ≡ test
        → new ≡ (old || test)
    joined old between new one other test gained gained_more rows = grind (arith, gained, gained_more, rows)

-- an empty set that gains three tests, one after another
pub gains_three : (none one two new a b c : Bool) → none ≡ false → one ≡ (none || a) → two ≡ (one || b) → new ≡ (two || c)
    → new ≡ (a || (b || c))
gains_three none one two new a b c empty first second third = grind (arith, empty, first, second, third)
