-- The sets of the entries of comparing after the points of rows.
use Rattle.std.proofs.Common.{◌≡◌, ◌≢◌, ◌∙◌, drop, inl, inr, ℕ, zero, suc, ◌+◌, ◌<◌, ◌^◌, ◌==◌, arith, refl, sym, ap, Bool, true, false, ◌&&◌, ◌||◌, nat_lt, List, [], ◌∷◌, length, take, slice_index_or, if◌then◌else◌}
use Rattle.std.specs.List.{list_any, range_with_len}
use Rattle.std.specs.Prelude.{nat_le}
use Rattle.std.proofs.lemmas.Bool.Decides.{eqb_tells, nat_tests}
use Rattle.std.specs.Int.{bit_at}
use Rattle.std.proofs.lemmas.Nat.Bits.{bit_at-lt, same_from_bits}
use Rattle.std.proofs.lemmas.Grind.{same_number_lists}
use Rattle.std.proofs.lemmas.List.{get_or-take, length-take-le}
use Rattle.std.proofs.lemmas.List.FromFn.{get_or-map-range_with_len}
use Rattle.card_code.specs.Rows.{passing_place, rows}
use Rattle.card_code.specs.declared.row.Row.{Row as CardRow}
use Rattle.hubs.specs.declared.hub.Hub.{Hub}
use Rattle.hubs.specs.declared.hub.Hub.TheVariants.{CA, CB}
use Rattle.net.proofs.SetLemmas.{set-read}
use Rattle.net.proofs.Below.machine_sets.BitSets.BitLemmas.{is_bit-or, is_bit-pow, is_bit-zero}
use Rattle.net.specs.HubSets.{HubSet, has_hub, is_bit, is_in_reach, is_in_row}
use Rattle.net.specs.HubRows.{has_at}
use Rattle.net.specs.RowSets.{after_rows, pictures_of}
use Rattle.net.specs.declared.cycle.Cycle.{Cycle}
use Rattle.net.specs.declared.cycle.Cycle.TheVariants.{RunIn, Card, Prog, Head}
use Rattle.net.specs.declared.cycle.Point.{Point}
use Rattle.net.specs.declared.cycle.Point.TheVariants.{Row}
use Rattle.stations.specs.Comparing.{Compared, HaveNoEntries, after_row, comparing_sensed, set_after_point}
use Rattle.stations.proofs.RowHubs.{first-number, row_bit, second-number}

-- a set after the points of some rows, by whether its entry is impulsed there
abbrev pub set_after : List CardRow → (CardRow → Bool) → ℕ → ℕ
set_after [] is_impulsed set = set
set_after (row ∷ others) is_impulsed set = set_after others is_impulsed (set_after_point (passing_place row) (is_impulsed row) set)

-- the sets of thirty entries after them
abbrev pub sets_after : List CardRow → (CardRow → ℕ → Bool) → List ℕ → List ℕ
sets_after [] is_impulsed sets = sets
sets_after (row ∷ others) is_impulsed sets = sets_after others is_impulsed (after_row (passing_place row) (is_impulsed row) sets)

-- each set by itself
set-after-row : (place : ℕ) (is_impulsed : ℕ → Bool) (sets : List ℕ) (k : ℕ) → k < 30
    → slice_index_or (after_row place is_impulsed sets) k 0 ≡ set_after_point place (is_impulsed (suc k)) (slice_index_or sets k 0)
set-after-row place is_impulsed sets k low =
    get_or-map-range_with_len (λ j. set_after_point place (is_impulsed (suc j)) (slice_index_or sets j 0)) 0 30 k k 0 low (omega arith)

pub set-after : (list : List CardRow) (is_impulsed : CardRow → ℕ → Bool) (sets : List ℕ) (k : ℕ) → k < 30
    → slice_index_or (sets_after list is_impulsed sets) k 0 ≡ set_after list (λ row. is_impulsed row (suc k)) (slice_index_or sets k 0)
set-after [] is_impulsed sets k low = refl
set-after (row ∷ others) is_impulsed sets k low =
    set-after others is_impulsed (after_row (passing_place row) (is_impulsed row) sets) k low
    ∙ ap (set_after others (λ r. is_impulsed r (suc k)))
    (set-after-row (passing_place row) (is_impulsed row) sets k low)

-- the first thirty sets are so many sets, each of them
first-thirty : (sets others : List ℕ) → length sets ≡ 32 → length others ≡ 30
    → ((k : ℕ) → k < 30 → slice_index_or sets k 0 ≡ slice_index_or others k 0) → take 30 sets ≡ others
first-thirty sets others long also same =
    let read = length-take-le 30 sets (omega (arith, long)) in
    same_number_lists (take 30 sets) others (read ∙ sym also)
    (λ k less. get_or-take 30 sets k 0 (omega (arith, read, less)) ∙ same k (omega (arith, read, less)))

-- they are those after the point of a row, where each of them is
row-collected : (place : ℕ) (is_impulsed : ℕ → Bool) (old new : List ℕ) → length new ≡ 32
    → ((k : ℕ) → k < 30 → slice_index_or new k 0 ≡ set_after_point place (is_impulsed (suc k)) (slice_index_or old k 0))
    → take 30 new ≡ after_row place is_impulsed (take 30 old)
row-collected place is_impulsed old new long are =
    first-thirty new (after_row place is_impulsed (take 30 old)) long refl
    (λ k low. are k low
    ∙ sym (set-after-row place is_impulsed (take 30 old) k low ∙ ap (set_after_point place (is_impulsed (suc k))) (get_or-take 30 old k 0 low)))

-- comparing after the point of a row of a card cycle
pub row-sensed : (at : CardRow) (place row others : ℕ) (hubs : HubSet) (first second new_first new_second : List ℕ)
    → length new_first ≡ 32 → length new_second ≡ 32 → place ≡ passing_place at
    → ((hub : Hub) → is_in_reach (CA 1) hub ≡ true → is_in_row (CA 1) row hub ≡ has_hub hubs hub)
    → ((hub : Hub) → is_in_reach (CB 1) hub ≡ true → is_in_row (CB 1) others hub ≡ has_hub hubs hub)
    → ((k : ℕ) → k < 30 → slice_index_or new_first k 0 ≡ set_after_point place (is_bit row k) (slice_index_or first k 0))
    → ((k : ℕ) → k < 30 → slice_index_or new_second k 0 ≡ set_after_point place (is_bit others k) (slice_index_or second k 0))
    → ◌≡◌ {A = Compared} (record { first = take 30 new_first; second = take 30 new_second })
    (comparing_sensed (record { first = take 30 first; second = take 30 second }) Card (Row at) (has_hub hubs))
row-sensed at place row others hubs first second new_first new_second long also is reads reads_too gained gained_too =
    let one = row-collected (passing_place at) (λ p. has_hub hubs (CA p)) first new_first long
    (λ k low. gained k low
    ∙ (λ i. set_after_point (is i) (row_bit (CA 1) (CA (suc k)) 1041 k row hubs refl (first-number k low) (omega (arith, low)) reads i) (slice_index_or first k 0))) in
    let other = row-collected (passing_place at) (λ p. has_hub hubs (CB p)) second new_second also
    (λ k low. gained_too k low
    ∙ (λ i. set_after_point (is i) (row_bit (CB 1) (CB (suc k)) 1071 k others hubs refl (second-number k low) (omega (arith, low)) reads_too i) (slice_index_or second k 0))) in
    λ i. record { first = one i; second = other i }

-- the bit of a row, where its entry is impulsed
row-bit : (is_impulsed : Bool) (place bit : ℕ) → is_bit (if is_impulsed then 2 ^ place else 0) bit ≡ (is_impulsed && (bit == place))
row-bit true place bit = is_bit-pow place bit
row-bit false place bit = is_bit-zero bit

-- the bits of a set
pub bit-after : (list : List CardRow) (is_impulsed : CardRow → Bool) (set bit : ℕ)
    → is_bit (set_after list is_impulsed set) bit
    ≡ (is_bit set bit || list_any (λ row. (bit == passing_place row) && is_impulsed row) list)
bit-after [] is_impulsed set bit = no_more (is_bit set bit)
  where
    no_more : (b : Bool) → b ≡ (b || false)
    no_more true = refl
    no_more false = refl
bit-after (row ∷ others) is_impulsed set bit =
    bit-after others is_impulsed (set_after_point (passing_place row) (is_impulsed row) set) bit
    ∙ rw (is_bit-or set (if is_impulsed row then 2 ^ passing_place row else 0) bit, row-bit (is_impulsed row) (passing_place row) bit)
    (regrouped (is_bit set bit) (is_impulsed row) (bit == passing_place row)
    (list_any (λ r. (bit == passing_place r) && is_impulsed r) others))
  where
    regrouped : (a b c d : Bool) → ((a || (b && c)) || d) ≡ (a || ((c && b) || d))
    regrouped true b c d = refl
    regrouped false true true d = refl
    regrouped false true false d = refl
    regrouped false false true d = refl
    regrouped false false false d = refl

-- a test at one of some places that follow one another
any-place : (test : ℕ → Bool) (bit from many : ℕ)
    → (nat_le from bit && (nat_lt bit (from + many) && test bit)) ≡ list_any (λ place. (bit == place) && test place) (range_with_len from many)
any-place test bit from zero = grind (arith, nat_tests)
any-place test bit from (suc many) =
    let rest = any-place test bit (from + 1) many in
    elim (eqb_tells bit from) [
      | inl same ↦
          let on : nat_le from bit ≡ true = grind (arith, nat_tests, same.1) in
          let inside : nat_lt bit (from + suc many) ≡ true = grind (arith, nat_tests, same.1) in
          let past : nat_le (from + 1) bit ≡ false = grind (arith, nat_tests, same.1) in
          let place : test bit ≡ test from = ap test same.1 in
          grind (arith, rest, on, inside, past, place, same.0)
      | inr other ↦
          let later : nat_le from bit ≡ nat_le (from + 1) bit = grind (arith, nat_tests, other.1) in
          let end : nat_lt bit (from + suc many) ≡ nat_lt bit (from + 1 + many) = grind (arith, nat_tests) in
          grind (arith, rest, later, end, other.0)
    ]

-- a test at the places of the rows
any-row : (test : ℕ → Bool) (bit : ℕ)
    → (nat_lt bit 12 && test bit) ≡ list_any (λ row. (bit == passing_place row) && test (passing_place row)) rows
any-row test bit =
    let from : true ≡ nat_le 0 bit = grind (arith, nat_tests) in
    ap (λ b. b && (nat_lt bit 12 && test bit)) from ∙ any-place test bit 0 12

-- sets with the same bits are the same
same-set : (one other : ℕ) → ((bit : ℕ) → is_bit one bit ≡ is_bit other bit) → one ≡ other
unfolding is_bit
same-set one other same =
    same_from_bits one other
    (λ bit. by (bit_at one bit) (bit_at other bit) (bit_at-lt one bit) (bit_at-lt other bit) (same bit))
  where
    by : (a b : ℕ) → a < 2 → b < 2 → (a == 1) ≡ (b == 1) → a ≡ b
    by a b small low e = grind (arith, nat_tests, e)

-- the sets are those after the points of all rows, where they have the rows of a card
rows-collected : (is_impulsed : CardRow → ℕ → Bool) (entries old new : List ℕ) → length new ≡ 32
    → ((k row : ℕ) → k < 32 → has_at new k row ≡ (has_at old k row || (nat_lt row 12 && has_at entries k row)))
    → ((at : CardRow) (k : ℕ) → k < 30 → has_at entries k (passing_place at) ≡ is_impulsed at (suc k))
    → take 30 new ≡ sets_after rows is_impulsed (take 30 old)
rows-collected is_impulsed entries old new long joined are =
    first-thirty new (sets_after rows is_impulsed (take 30 old)) long refl
    (λ k low. same-set (slice_index_or new k 0) (set_after rows (λ row. is_impulsed row (suc k)) (slice_index_or old k 0))
    (λ bit. joined k bit (omega (arith, low))
    ∙ ap (λ b. has_at old k bit || b)
    (any-row (has_at entries k) bit ∙ (λ i. list_any (λ row. (bit == passing_place row) && are row k low i) rows))
    ∙ sym (bit-after rows (λ row. is_impulsed row (suc k)) (slice_index_or old k 0) bit))
    ∙ sym (set-after rows is_impulsed (take 30 old) k low ∙ ap (set_after rows (λ row. is_impulsed row (suc k))) (get_or-take 30 old k 0 low)))

-- comparing after the points of all rows of a card cycle
pub all-rows : (pictures entries others first second new_first new_second : List ℕ) → length new_first ≡ 32 → length new_second ≡ 32
    → entries ≡ drop 1040 pictures → others ≡ drop 1070 pictures
    → ((k row : ℕ) → k < 32 → has_at new_first k row ≡ (has_at first k row || (nat_lt row 12 && has_at entries k row)))
    → ((k row : ℕ) → k < 32 → has_at new_second k row ≡ (has_at second k row || (nat_lt row 12 && has_at others k row)))
    → ◌≡◌ {A = Compared} (record { first = take 30 new_first; second = take 30 new_second })
    (after_rows comparing_sensed Card (pictures_of pictures) (record { first = take 30 first; second = take 30 second }))
all-rows pictures entries others first second new_first new_second long also is is_too gained gained_too =
    let one = rows-collected (λ at p. pictures_of pictures (Row at) (CA p)) entries first new_first long gained
    (λ at k low. ap (λ (sets : List ℕ). has_at sets k (passing_place at)) is
    ∙ set-read pictures (CA (suc k)) 1041 k (passing_place at) (omega arith) (first-number k low)) in
    let other = rows-collected (λ at p. pictures_of pictures (Row at) (CB p)) others second new_second also gained_too
    (λ at k low. ap (λ (sets : List ℕ). has_at sets k (passing_place at)) is_too
    ∙ set-read pictures (CB (suc k)) 1071 k (passing_place at) (omega arith) (second-number k low)) in
    λ i. record { first = one i; second = other i }

-- comparing after the points of all rows of another cycle
pub other-cycle : (cycle : Cycle) (pictures : Point → Hub → Bool) (compared : Compared) → cycle ≢ Card
    → compared ≡ after_rows comparing_sensed cycle pictures compared
other-cycle RunIn pictures compared other = refl
other-cycle Card pictures compared other = absurd (other refl)
other-cycle (Prog level ordinal) pictures compared other = refl
other-cycle (Head heading) pictures compared other = refl

-- the sets are as they were, where no entry is impulsed
none-collected : (is_impulsed : CardRow → ℕ → Bool) (sets : List ℕ) → length sets ≡ 32 → ((at : CardRow) (p : ℕ) → is_impulsed at p ≡ false)
    → take 30 sets ≡ sets_after rows is_impulsed (take 30 sets)
none-collected is_impulsed sets long none =
    rows-collected is_impulsed [] sets sets long
    (λ k row low. grind (arith, is_bit-zero row))
    (λ at k low. is_bit-zero (passing_place at) ∙ sym (none at (suc k)))

-- comparing after the points of all rows, where no entry is impulsed
pub no-rows : (cycle : Cycle) (pictures : Point → Hub → Bool) (first second : List ℕ) → length first ≡ 32 → length second ≡ 32
    → HaveNoEntries pictures
    → ◌≡◌ {A = Compared} (record { first = take 30 first; second = take 30 second })
    (after_rows comparing_sensed cycle pictures (record { first = take 30 first; second = take 30 second }))
no-rows Card pictures first second long also none =
    let one = none-collected (λ at p. pictures (Row at) (CA p)) first long (λ at p. grind (arith, none at p)) in
    let other = none-collected (λ at p. pictures (Row at) (CB p)) second also (λ at p. grind (arith, none at p)) in
    λ i. record { first = one i; second = other i }
no-rows other pictures first second long also none = refl
