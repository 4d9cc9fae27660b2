-- The word of a card's row as a row of hubs: by letters, the columns that a station emits.
use Rattle.std.proofs.Common.{◌≡◌, ◌∙◌, ◌⊎◌, ℕ, suc, ◌+◌, ◌-◌, ◌<◌, ◌≤◌, ap, arith, refl, sym, inr, Bool, true, false, ◌&&◌, List, nat_lt, nat_le, Option, Some, None}
use Rattle.std.specs.Prelude.{option_map, if◌then◌else◌}
use Rattle.std.proofs.lemmas.Bool.Decides.{nat_tests}
use Rattle.card_code.specs.declared.row.Row.{Row}
use Rattle.hubs.specs.HubTable.Ranges.{is_within}
use Rattle.hubs.specs.HubTable.HubTable.{HasNumber}
use Rattle.hubs.specs.Hubs.{number_of, letters_of}
use Rattle.hubs.specs.declared.hub.Hub.{Hub}
use Rattle.hubs.specs.declared.hub.Hub.TheVariants.{FR, SR, CX, CA, CB}
use Rattle.hubs.proofs.HubLemmas.{number_of-kind}
use Rattle.net.specs.HubSets.{HubSet, is_bit, is_in_row, is_in_reach, is_bit_from, has_hub}
use Rattle.stations.specs.Punches.{is_punched_at, IsRowAt}
use Rattle.stations.specs.Comparing.{Compared, differ_at, differences_emit}
use Rattle.stations.specs.Stations.{first_emits, second_emits}
use Rattle.stations.proofs.RowWords.{off_row, no_bit, no_bit_past, column_bit, not_punched}

-- a hub of another kind is in no row of so many hubs
other_kind :
    (first last bits : ℕ) (hub : Hub) (given : Option ℕ) → number_of hub ≡ given
    → ((k : ℕ) → last ≤ k → is_bit bits k ≡ false)
    → ((n : ℕ) → HasNumber (letters_of hub) n → (n < first) ⊎ (first + last ≤ n)) → is_bit_from (Some first) bits given ≡ false
other_kind first last bits hub None is none apart = refl
other_kind first last bits hub (Some n) is none apart = off_row first n last bits none (apart n (number_of-kind hub n is))

-- the column of a station
own_kind :
    (card : Option (List ℕ)) (word : ℕ) (row : Row) (column before : ℕ) (test : Bool) → IsRowAt card row word
    → is_within column 80 ≡ test
    → is_bit_from (Some (before + 1)) word
    (option_map (λ (place : ℕ). before + place) (if test then Some column else None))
    ≡ is_punched_at card row column
own_kind card word row column before true is within =
    let after : nat_le (before + 1) (before + column) ≡ true = grind (arith, nat_tests, within) in
    let bit : before + column - (before + 1) ≡ column - 1 = grind (arith, nat_tests, within) in
    rw (after, bit) (column_bit card word row column is within)
own_kind card word row column before false is within = sym (not_punched card row column within)

-- the row of first reading
pub first_row :
    (card : Option (List ℕ)) (word : ℕ) (row : Row) (hub : Hub) → IsRowAt card row word
    → is_in_row (FR 1) word hub ≡ first_emits card row hub
first_row card word row (FR column) is = own_kind card word row column 0 (is_within column 80) is refl
first_row card word row other is =
    other_kind 1 80 word other (number_of other) refl (no_bit_past card word row is)
    (λ n has. inr (omega (arith, has)))

-- the row of second reading
pub second_row :
    (card : Option (List ℕ)) (word : ℕ) (row : Row) (hub : Hub) → IsRowAt card row word
    → is_in_row (SR 1) word hub ≡ second_emits card row hub
second_row card word row (SR column) is = own_kind card word row column 80 (is_within column 80) is refl
second_row card word row other is =
    other_kind 81 80 word other (number_of other) refl (no_bit_past card word row is)
    (λ n has. grind (arith, has))

-- the bit of a position, in a row of 30
position_bit :
    (before bits p : ℕ) (test : Bool) → is_within p 30 ≡ test → (there : ℕ → Bool)
    → ((k : ℕ) → is_bit bits k ≡ (nat_lt k 30 && there k))
    → is_bit_from (Some (before + 1)) bits (option_map (λ (place : ℕ). before + place) (if test then Some p else None))
    ≡ (test && there (p - 1))
position_bit before bits p true within there are =
    let after : nat_le (before + 1) (before + p) ≡ true = grind (arith, nat_tests, within) in
    let bit : before + p - (before + 1) ≡ p - 1 = grind (arith, nat_tests, within) in
    let below : nat_lt (p - 1) 30 ≡ true = grind (arith, nat_tests, within) in
    rw (after, bit, are (p - 1), below) refl
position_bit before bits p false within there are = refl

-- a row of 30 bits has none after them
none_after : (bits : ℕ) (there : ℕ → Bool) → ((k : ℕ) → is_bit bits k ≡ (nat_lt k 30 && there k))
    → (k : ℕ) → 30 ≤ k → is_bit bits k ≡ false
none_after bits there are k past = let off : nat_lt k 30 ≡ false = grind (arith, nat_tests) in are k ∙ (rw off refl)

-- the row of the positions that differ
pub difference_row :
    (compared : Compared) (word : ℕ) (hub : Hub) → ((k : ℕ) → is_bit word k ≡ (nat_lt k 30 && differ_at compared k))
    → is_in_row (CX 1) word hub ≡ differences_emit compared hub
difference_row compared word (CX p) are = position_bit 160 word p (is_within p 30) refl (differ_at compared) are
difference_row compared word other are =
    other_kind 161 30 word other (number_of other) refl (none_after word (differ_at compared) are) (λ n has. grind (arith, has))

-- the numbers of the entries follow one another
pub first-number : (k : ℕ) → k < 30 → number_of (CA (suc k)) ≡ Some (1041 + k)
first-number k low =
    let within : is_within (suc k) 30 ≡ true = grind (arith, nat_tests, low) in
    let number : 1040 + suc k ≡ 1041 + k = omega arith in
    rw within (ap (λ (n : ℕ). Some n) number)

pub second-number : (k : ℕ) → k < 30 → number_of (CB (suc k)) ≡ Some (1071 + k)
second-number k low =
    let within : is_within (suc k) 30 ≡ true = grind (arith, nat_tests, low) in
    let number : 1070 + suc k ≡ 1071 + k = omega arith in
    rw within (ap (λ (n : ℕ). Some n) number)

-- the bit of the hub that comes k after the first one, in the row of that
pub row_bit : (first hub : Hub) (number k row : ℕ) (hubs : HubSet) → number_of first ≡ Some number → number_of hub ≡ Some (number + k) → k < 128
    → ((other : Hub) → is_in_reach first other ≡ true → is_in_row first row other ≡ has_hub hubs other)
    → is_bit row k ≡ has_hub hubs hub
row_bit first hub number k row hubs is numbered low reads =
    let after : nat_le number (number + k) ≡ true = grind (arith, nat_tests) in
    let before : nat_lt (number + k) (number + 128) ≡ true = grind (arith, nat_tests, low) in
    let bit : number + k - number ≡ k = omega arith in
    let near : is_in_reach first hub ≡ true = rw (is, numbered, after, before) refl in
    let found : is_in_row first row hub ≡ is_bit row k = rw (is, numbered, after, bit) refl in
    sym found ∙ reads hub near

-- a word without bits is in no row
none-from : (first given : Option ℕ) → is_bit_from first 0 given ≡ false
none-from None given = refl
none-from (Some first) None = refl
none-from (Some first) (Some n) = by (nat_le first n)
  where
    by : (after : Bool) → (after && is_bit 0 (n - first)) ≡ false
    by true = no_bit (n - first)
    by false = refl

-- where no position differs nothing is emitted
pub no_difference : (compared : Compared) (word : ℕ) (hub : Hub) → word ≡ 0
    → ((k : ℕ) → is_bit word k ≡ (nat_lt k 30 && differ_at compared k)) → false ≡ differences_emit compared hub
no_difference compared word hub none are =
    sym (ap (λ (w : ℕ). is_in_row (CX 1) w hub) none ∙ none-from (number_of (CX 1)) (number_of hub)) ∙ difference_row compared word hub are
