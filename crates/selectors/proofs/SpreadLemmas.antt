-- Words that have as many bits for each thing of a list.
use Rattle.std.proofs.Common.{◌≡◌, ◌≤◌, ◌<◌, ◌+◌, ◌-◌, ◌*◌, ◌/◌, ◌^◌, ◌%◌, ◌∙◌, ◌⊎◌, inl, inr, ap, refl, subst, sym, arith, ℕ, zero, suc, Bool, true, false, not, ◌==◌, bit_or, List, [], ◌∷◌, length, map, drop, get_or, slice_index_or}
use Rattle.std.specs.Prelude.{if◌then◌else◌}
use Rattle.std.specs.Int.{bit_at}
use Rattle.std.proofs.lemmas.Bool.{cases_lt}
use Rattle.std.proofs.lemmas.Bool.Decides.{nat_tests}
use Rattle.std.proofs.lemmas.List.{get_or-map, length-drop, length-map}
use Rattle.std.proofs.lemmas.Nat.{div-add-mod', pow_pos, pow-add, or_shifted}
use Rattle.std.proofs.lemmas.Nat.Bits.{bit_at-lt, same_from_bits_below, bit_at-zero, bit_at_ones, bit_at_cat_low, bit_at_cat_high}
use Rattle.std.proofs.Math.Nat.{mod-eq_of_lt, mod-lt, mul-le-mul_right, pow-le-pow_right}
use Rattle.std.proofs.Math.Seq.{drop-cons}
use Rattle.net.specs.HubSets.{is_bit}
use Rattle.std.specs.List.{list_any}
use Rattle.selectors.specs.Spread.{parts_of, spread}

-- a test as it is, or turned round
abbrev pub is_same : Bool → Bool → Bool
is_same true test = test
is_same false test = not test

-- the bits of those that are set, or of those that aren't
abbrev pub spread_side : Bool → ℕ → List Bool → ℕ
spread_side true parts things = spread parts things
spread_side false parts things = spread parts (map not things)

-- a word moved up has no bit below, and the others are its own
moved_low : (a k i : ℕ) → i < k → bit_at (a * 2 ^ k) i ≡ 0
moved_low a k i low = let e : a * 2 ^ k ≡ a * 2 ^ k + 0 = omega arith in
    ap (λ n. bit_at n i) e ∙ bit_at_cat_low a k 0 i low ∙ bit_at-zero i

moved_high : (a k i : ℕ) → k ≤ i → bit_at (a * 2 ^ k) i ≡ bit_at a (i - k)
moved_high a k i high = let e : a * 2 ^ k ≡ a * 2 ^ k + 0 = omega arith in
    ap (λ n. bit_at n i) e ∙ bit_at_cat_high a k 0 i (pow_pos k) high

pub shifted_in : (a k b p : ℕ) → a * 2 ^ k + 2 ^ k ≤ 2 ^ 128 → b < 2 ^ k → b ≡ p
    → bit_or (a * 2 ^ k % 340282366920938463463374607431768211456) b ≡ a * 2 ^ k + p
shifted_in a k b p fits small is =
    ap (λ n. bit_or n b) (mod-eq_of_lt (omega (arith, fits, pow_pos k))) ∙ or_shifted a k b small ∙ ap (λ n. a * 2 ^ k + n) is

-- a group of bits has no more than its parts
parts_of-below : (parts : ℕ) (test : Bool) → parts_of parts test < 2 ^ parts
parts_of-below parts true = let some = pow_pos parts in omega (arith, some)
parts_of-below parts false = pow_pos parts

-- a word that is moved up has room for as many bits
pub moved_fits : (bits parts n : ℕ) → bits < 2 ^ (parts * n) → bits * 2 ^ parts + 2 ^ parts ≤ 2 ^ (parts * (n + 1))
moved_fits bits parts n small =
    let all : 2 ^ (parts * (n + 1)) ≡ 2 ^ (parts * n) * 2 ^ parts = ap (λ e. 2 ^ e) (more parts n) ∙ pow-add 2 (parts * n) parts in
    let room = mul-le-mul_right {m = bits + 1} {n = 2 ^ (parts * n)} (2 ^ parts) (omega (arith, small)) in
    rw all (omega (arith, room))
  where
    more : (p n : ℕ) → p * (n + 1) ≡ p * n + p
    more p n = omega arith

moved_below : (bits parts n low : ℕ) → bits < 2 ^ (parts * n) → low < 2 ^ parts → bits * 2 ^ parts + low < 2 ^ (parts * suc n)
moved_below bits parts n low small below =
    let one : suc n ≡ n + 1 = omega arith in
    let room = moved_fits bits parts n small in
    rw one (omega (arith, room, below))

-- a word has no more bits than its things have parts
pub spread-below : (parts : ℕ) (things : List Bool) → spread parts things < 2 ^ (parts * length things)
unfolding spread
spread-below parts [] = pow_pos (parts * 0)
spread-below parts (thing ∷ things) =
    moved_below (spread parts things) parts (length things) (parts_of parts thing) (spread-below parts things) (parts_of-below parts thing)

-- nor has one of those that aren't set
pub side-below : (value : Bool) (parts : ℕ) (things : List Bool) → spread_side value parts things < 2 ^ (parts * length things)
side-below true parts things = spread-below parts things
side-below false parts things =
    subst (λ (n : ℕ). spread parts (map not things) < 2 ^ (parts * n)) (length-map things not) (spread-below parts (map not things))

-- after the last thing there is no bit
pub spread-none : (parts : ℕ) (things : List Bool) → 0 ≡ spread parts (drop (length things - 0) things)
unfolding spread
spread-none parts things = let e : length things - 0 ≡ length things = omega arith in
    sym (ap (λ n. spread parts (drop n things)) e ∙ ap (spread parts) (drop_all things))
  where
    drop_all : (things : List Bool) → drop (length things) things ≡ []
    drop_all [] = refl
    drop_all (thing ∷ things) = drop_all things

-- one more thing's bits fit
pub has_room :
    (parts after bits : ℕ) (things : List Bool) → bits ≡ spread parts (drop (length things - after) things)
    → after < length things → parts * length things ≤ 128 → bits * 2 ^ parts + 2 ^ parts ≤ 2 ^ 128
has_room parts after bits things is within all =
    let long : length (drop (length things - after) things) ≡ after = length-drop (length things - after) things ∙ omega (arith, within) in
    let small = as_many bits (spread parts (drop (length things - after) things)) (length (drop (length things - after) things)) after
    is long (spread-below parts (drop (length things - after) things)) in
    let fits = moved_fits bits parts after small in
    let more : parts * (after + 1) ≤ 128 = at_most parts (after + 1) (length things) (omega (arith, within)) all in
    let power : 2 ^ (parts * (after + 1)) ≤ 2 ^ 128 = pow-le-pow_right {n = 2} (omega arith) more in
    omega (arith, fits, power)
  where
    as_many : (a b m n : ℕ) → a ≡ b → m ≡ n → b < 2 ^ (parts * m) → a < 2 ^ (parts * n)
    as_many a b m n is long below = rw (is, sym long) below

    at_most : (p m n : ℕ) → m ≤ n → p * n ≤ 128 → p * m ≤ 128
    at_most p m n upto all = let e = mul-le-mul_right {m = m} {n = n} p upto in omega (arith, e, all)

-- all things are done
pub spread-all :
    (parts after bits : ℕ) (things : List Bool) → length things ≤ after
    → bits ≡ spread parts (drop (length things - after) things) → bits ≡ spread parts things
spread-all parts after bits things done is =
    let none : length things - after ≡ 0 = omega (arith, done) in
    is ∙ ap (λ n. spread parts (drop n things)) none

-- the bits of those that are set and of those that aren't are all bits
spread-both : (parts : ℕ) (things : List Bool)
    → spread_side false parts things + spread parts things + 1 ≡ 2 ^ (parts * length things)
unfolding spread
spread-both parts [] = let none : parts * 0 ≡ 0 = omega arith in sym (ap (λ n. 2 ^ n) none)
spread-both parts (thing ∷ things) =
    let power : 2 ^ (parts * suc (length things)) ≡ 2 ^ (parts * length things) * 2 ^ parts =
    ap (λ n. 2 ^ n) (more parts (length things)) ∙ pow-add 2 (parts * length things) parts in
    sym (power ∙ ap (λ n. n * 2 ^ parts) (sym (spread-both parts things))
    ∙ by thing (spread_side false parts things) (spread parts things) (2 ^ parts) (pow_pos parts))
  where
    more : (p n : ℕ) → p * suc n ≡ p * n + p
    more p n = let one : suc n ≡ n + 1 = omega arith in rw one (omega arith)

    by : (thing : Bool) (f t p : ℕ) → 0 < p
        → (f + t + 1) * p ≡ (f * p + (if not thing then p - 1 else 0)) + (t * p + (if thing then p - 1 else 0)) + 1
    by true f t p some = omega (arith, some)
    by false f t p some = omega (arith, some)

pub others_of : (parts all word : ℕ) (things : List Bool) → all + 1 ≡ 2 ^ (parts * length things) → word ≡ spread parts things
    → all - word ≡ spread_side false parts things
others_of parts all word things is_all is =
    let both = spread-both parts things in
    omega (arith, both, is_all, is)

-- one more thing, from the last one to the first
pub spread-more :
    (parts after bits new : ℕ) (things : List Bool) (d : Bool) → after < length things
    → bits ≡ spread parts (drop (length things - after) things)
    → new ≡ bits * 2 ^ parts + parts_of parts (get_or things (length things - 1 - after) d)
    → new ≡ spread parts (drop (length things - (after + 1)) things)
unfolding spread
spread-more parts after bits new things d within is is_new =
    is_new
    ∙ ap (λ n. n * 2 ^ parts + parts_of parts (get_or things (length things - 1 - after) d)) is
    ∙ sym (ap (spread parts) cut)
  where
    cut : drop (length things - (after + 1)) things ≡ get_or things (length things - 1 - after) d ∷ drop (length things - after) things
    cut = let e : length things - (after + 1) ≡ length things - 1 - after = omega arith in
        let f : suc (length things - 1 - after) ≡ length things - after = omega (arith, within) in
        ap (λ n. drop n things) e ∙ drop-cons things (length things - 1 - after) d (omega (arith, within))
        ∙ ap (λ n. get_or things (length things - 1 - after) d ∷ drop n things) f

-- the bits of a part of a thing
pub spread-bit : (parts : ℕ) (things : List Bool) (thing part : ℕ) → part < parts → thing < length things
    → is_bit (spread parts things) (thing * parts + part) ≡ slice_index_or things thing false
unfolding spread is_bit
spread-bit parts [] thing part within there = absurd (omega (arith, there))
spread-bit parts (first ∷ things) zero part within there =
    let place : 0 * parts + part ≡ part = omega arith in
    ap (λ i. bit_at (spread parts things * 2 ^ parts + parts_of parts first) i == 1) place
    ∙ ap (λ b. b == 1) (bit_at_cat_low (spread parts things) parts (parts_of parts first) part within)
    ∙ all_or_none first
  where
    all_or_none : (test : Bool) → (bit_at (parts_of parts test) part == 1) ≡ test
    all_or_none true = ap (λ b. b == 1) (bit_at_ones parts part within)
    all_or_none false = ap (λ b. b == 1) (bit_at-zero part)
spread-bit parts (first ∷ things) (suc thing) part within there =
    let place : suc thing * parts + part - parts ≡ thing * parts + part = omega arith in
    ap (λ b. b == 1) (bit_at_cat_high (spread parts things) parts (parts_of parts first) (suc thing * parts + part)
    (parts_of-below parts first) (omega arith)
    ∙ ap (bit_at (spread parts things)) place)
    ∙ spread-bit parts things thing part within (omega (arith, there))

-- and of a part of one that isn't set
pub side-bit : (value : Bool) (parts : ℕ) (things : List Bool) (thing part : ℕ) → part < parts → thing < length things
    → is_bit (spread_side value parts things) (thing * parts + part) ≡ is_same value (slice_index_or things thing false)
side-bit true parts things thing part within there = spread-bit parts things thing part within there
side-bit false parts things thing part within there =
    let long = length-map things not in
    spread-bit parts (map not things) thing part within (omega (arith, there, long)) ∙ get_or-map not things thing false false there

-- where none of the things is set no bit is
pub none-set : (parts : ℕ) (things : List Bool) → list_any (λ thing. thing) things ≡ false → spread parts things ≡ 0
unfolding spread
none-set parts [] none = refl
none-set parts (true ∷ things) none = cc
none-set parts (false ∷ things) none = let before = none-set parts things none in rw before (omega arith)

-- rows that have the same parts of the same things are the same
pub same-parts : (parts things one other : ℕ) → 0 < parts → one < 2 ^ (things * parts) → other < 2 ^ (things * parts)
    → ((t p : ℕ) → t < things → p < parts → is_bit one (t * parts + p) ≡ is_bit other (t * parts + p)) → one ≡ other
unfolding is_bit
same-parts parts things one other some small less same = same_from_bits_below (things * parts) one other small less bit
  where
    as_numbers : (x y : ℕ) → x < 2 → y < 2 → (x == 1) ≡ (y == 1) → x ≡ y
    as_numbers x y small less same = grind (arith, nat_tests, small, less, same)

    there : (i thing part : ℕ) → thing * parts + part ≡ i → i < things * parts → (thing < things) ⊎ (things ≤ thing) → thing < things
    there i thing part is low (inl below) = below
    there i thing part is low (inr past) =
        let more = mul-le-mul_right {m = things} {n = thing} parts past in absurd (omega (arith, is, low, more))

    bit : (i : ℕ) → i < things * parts → bit_at one i ≡ bit_at other i
    bit i low =
        let place = div-add-mod' i parts in
        as_numbers (bit_at one i) (bit_at other i) (bit_at-lt one i) (bit_at-lt other i)
        (ap (λ j. bit_at one j == 1) (sym place)
        ∙ same (i / parts) (i % parts) (there i (i / parts) (i % parts) place low (cases_lt (i / parts) things)) (mod-lt i some)
        ∙ ap (λ j. bit_at other j == 1) place)
