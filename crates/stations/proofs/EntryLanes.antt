-- The sets of the entries of comparing in lanes.
use Rattle.std.proofs.Common.{◌≡◌, ◌∙◌, if◌then◌else◌, slice_set, ℕ, ◌+◌, ◌-◌, ◌*◌, ◌%◌, ◌^◌, ◌<◌, ◌≤◌, arith, refl, sym, ap, Bool, true, false, not, ◌&&◌, ◌||◌, nat_lt, List, length, map, replicate, take, slice_index_or, bit_and, bit_or, cond, eqb}
use Rattle.std.proofs.lemmas.Bool.Decides.{nat_tests}
use Rattle.std.proofs.lemmas.List.{get_or-map, get_or-take, length-map, length-set, length-take-le}
use Rattle.std.proofs.Math.Bool.{and_comm}
use Rattle.std.proofs.lemmas.Simd.{get_or-zip2, length-zip2, mask_l-mod, tops_compared, zip2_splat}
use Rattle.net.proofs.Below.machine_sets.BitSets.MaskLemmas.{is_bit-mask}
use Rattle.net.proofs.Below.machine_sets.BitSets.BitLemmas.{is_bit-and, is_bit-ones, is_bit-or, is_bit-zero}
use Rattle.net.specs.HubSets.{is_bit}
use Rattle.net.specs.HubRows.{has_at}
use Rattle.stations.specs.Comparing.{differ_at, set_after_point}
use Rattle.std.proofs.lemmas.Nat.{one_shl}
use Rattle.std.specs.Int.Bits.{or_zero_r}
use Rattle.std.proofs.Math.Nat.{zero-mul}
use Rattle.std.proofs.lemmas.Grind.{common_steps}
use lib.Lanes.{mask_l, top, zip2}
use mir.Syntax.{w16}
use mir.Val.{bool_byte}

-- the lowest bits of a word
pub bits-cut : (word count bit : ℕ) → is_bit (bit_and word (2 ^ count - 1)) bit ≡ (nat_lt bit count && is_bit word bit)
bits-cut word count bit =
    is_bit-and word (2 ^ count - 1) bit ∙ ap (λ b. is_bit word bit && b) (is_bit-ones count bit) ∙ and_comm (is_bit word bit) (nat_lt bit count)

-- sets that are joined with the rows of a card in others
pub rows-joined : (sets others : List ℕ) (k row : ℕ) → length sets ≡ 32 → 32 ≤ length others → k < 32
    → has_at (zip2 bit_or sets (zip2 bit_and (take 32 others) (replicate 32 4095))) k row
    ≡ (has_at sets k row || (nat_lt row 12 && has_at others k row))
rows-joined sets others k row long enough low =
    let read = length-take-le 32 others enough in
    let cut = λ (set : ℕ). bit_and set 4095 in
    let lanes = zip2_splat bit_and (take 32 others) 32 4095 read in
    let many = length-map (take 32 others) cut in
    ap (λ (xs : List ℕ). has_at (zip2 bit_or sets xs) k row) lanes
    ∙ ap (λ (w : ℕ). is_bit w row)
    (get_or-zip2 bit_or sets (map cut (take 32 others)) k 0 0 0 (omega (arith, long, low)) (omega (arith, many, read, low))
    ∙ ap (bit_or (slice_index_or sets k 0))
    (get_or-map cut (take 32 others) k 0 0 (omega (arith, many, read, low)) ∙ ap cut (get_or-take 32 others k 0 low)))
    ∙ is_bit-or (slice_index_or sets k 0) (cut (slice_index_or others k 0)) row
    ∙ ap (λ b. has_at sets k row || b) (bits-cut (slice_index_or others k 0) 12 row)

-- the positions whose two sets are unlike
pub sets-differ : (first second : List ℕ) (k : ℕ) → length first ≡ 32 → length second ≡ 32
    → is_bit (bit_and (mask_l (map (top 15) (zip2 (λ a b. cond (not (eqb a b)) (2 ^ 16 - 1) 0) first second)) % 2 ^ 64) (2 ^ 30 - 1)) k
    ≡ (nat_lt k 30 && differ_at (record { first = take 30 first; second = take 30 second }) k)
sets-differ first second k long also =
    bits-cut (mask_l (map (top 15) (zip2 (λ a b. cond (not (eqb a b)) (2 ^ 16 - 1) 0) first second)) % 2 ^ 64) 30 k
    ∙ by (nat_lt k 30) refl
  where
    unlike : ℕ → ℕ → Bool
    unlike a b = not (eqb a b)

    compared : mask_l (map (top 15) (zip2 (λ a b. cond (not (eqb a b)) (2 ^ 16 - 1) 0) first second)) % 2 ^ 64 ≡ mask_l (zip2 unlike first second)
    compared =
        ap (λ (lanes : List Bool). mask_l lanes % 2 ^ 64) (tops_compared w16 (λ a b. not (eqb a b)) first second)
        ∙ mask_l-mod (zip2 unlike first second) 64
        (let n = length-zip2 unlike first second (long ∙ sym also) in omega (arith, n, long))

    by : (below : Bool) → nat_lt k 30 ≡ below
        → (below && is_bit (mask_l (map (top 15) (zip2 (λ a b. cond (not (eqb a b)) (2 ^ 16 - 1) 0) first second)) % 2 ^ 64) k)
        ≡ (below && differ_at (record { first = take 30 first; second = take 30 second }) k)
    by true is =
        let low : k < 30 = grind (arith, nat_tests, is) in
        ap (λ (w : ℕ). is_bit w k) compared
        ∙ is_bit-mask (zip2 unlike first second) k
        ∙ get_or-zip2 unlike first second k 0 0 false (omega (arith, long, low)) (omega (arith, also, low))
        ∙ (λ i. unlike (sym (get_or-take 30 first k 0 low) i) (sym (get_or-take 30 second k 0 low) i))
    by false is = refl

-- The sets up to a place have a row where they are impulsed, and the others are as they were.
pub record HasRowTo (count place impulsed : ℕ) (old now : List ℕ) : Type 0 where
  pub long : length now ≡ 32
  pub done : (k : ℕ) → k < count → slice_index_or now k 0 ≡ set_after_point place (is_bit impulsed k) (slice_index_or old k 0)
  pub rest : (k : ℕ) → count ≤ k → slice_index_or now k 0 ≡ slice_index_or old k 0

-- where none of thirty entries is impulsed each set stays
pub none-added : (impulsed place k set : ℕ) → bit_and impulsed (2 ^ 30 - 1) ≡ 0 → k < 30 → set ≡ set_after_point place (is_bit impulsed k) set
none-added impulsed place k set none low =
    let below : true ≡ nat_lt k 30 = grind (arith, nat_tests, low) in
    let clear : is_bit impulsed k ≡ false =
    ap (λ b. b && is_bit impulsed k) below ∙ sym (bits-cut impulsed 30 k) ∙ ap (λ w. is_bit w k) none ∙ is_bit-zero k in
    sym (ap (λ b. set_after_point place b set) clear ∙ or_zero_r set)

-- a set more
pub one-added : (count place impulsed byte : ℕ) (has : Bool) (old now : List ℕ) → count < 32 → place < 12
    → has ≡ is_bit impulsed count → byte ≡ bool_byte has → HasRowTo count place impulsed old now
    → HasRowTo (count + 1) place impulsed old (slice_set now count (bit_or (slice_index_or now count 0) (byte * 2 ^ place % 2 ^ 16)))
one-added count place impulsed byte has old now below low is from before = record {
  long = length-set now count added ∙ before.long;
  done = λ k less. let long = before.long in let done = before.done k in grind (arith, common_steps, row, long, done, less, below);
  rest = λ k more. let rest = before.rest k in grind (arith, common_steps, rest, more);
}
  where
    added : ℕ
    added = bit_or (slice_index_or now count 0) (byte * 2 ^ place % 2 ^ 16)

    bit : (b : Bool) → bool_byte b * 2 ^ place % 2 ^ 16 ≡ (if b then 2 ^ place else 0)
    bit true = one_shl place 16 (omega (arith, low))
    bit false = ap (λ (n : ℕ). n % 2 ^ 16) (zero-mul (2 ^ place))

    row : added ≡ set_after_point place (is_bit impulsed count) (slice_index_or old count 0)
    row =
        let here = before.rest count (omega arith) in
        let this = ap (λ (n : ℕ). n * 2 ^ place % 2 ^ 16) from ∙ bit has ∙ ap (λ (b : Bool). if b then 2 ^ place else 0) is in
        λ i. bit_or (here i) (this i)
